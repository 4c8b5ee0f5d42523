use Rattle.acopf.proofs.Tallied.{columns_are}
use Rattle.acopf.proofs.case.Case.columns.Goals as goal

pub returns : goal.returns
returns c = let case = c.args.self.now in columns_are case.tables.laid case.tallied
