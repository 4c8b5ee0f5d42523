use Rattle.compile.proofs.Needed.{rows_are}
use Rattle.compile.proofs.decide.rows_needed.Goals as goal

pub returns : goal.returns
returns c = let case = c.args.case.now in rows_are case.tables.laid case.tallied
