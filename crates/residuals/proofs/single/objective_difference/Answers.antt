use Rattle.residuals.proofs.single.objective_difference.Goals as goal

pub returns : goal.returns
returns c = rw (c.absolute-2.ensures, c.maximum-size.ensures, c.absolute.ensures)
