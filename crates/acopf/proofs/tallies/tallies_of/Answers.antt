use Rattle.acopf.proofs.Tallied.{tallied_is}
use Rattle.acopf.proofs.tallies.tallies_of.Goals as goal

pub returns : goal.returns
returns c =
    let curves = c.curve_tallies-curves.ensures in
    let limits = c.branch_tallies-limits.ensures in
    tallied_is c.args.tables.now.laid limits.0 limits.1 limits.2 limits.3 curves.2 curves.3 curves.0 curves.1
