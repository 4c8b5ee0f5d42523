use Rattle.compile.proofs.Needed.{shared_are}
use Rattle.compile.proofs.decide.shared_needed.Goals as goal

pub returns : goal.returns
returns c = shared_are c.args.case.now.tables.laid
