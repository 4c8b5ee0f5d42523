use Rattle.acopf.proofs.columns.epigraph_start.Goals as goal

pub returns : goal.returns
returns c =
    let curve = c.new.ensures in
    rw (c.value.ensures, curve.0, curve.1, curve.2, c.generator_start-power.ensures)
