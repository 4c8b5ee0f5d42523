use Rattle.acopf.proofs.columns.generator_start.Goals as goal

pub returns : goal.returns
returns c = rw (c.clamp_start.ensures, c.upper_bound.ensures, c.lower_bound.ensures)
