use Rattle.compile.proofs.Needed.{accepted_is}
use Rattle.compile.proofs.decide.accepted.Goals as goal

pub returns : goal.returns
returns c =
    accepted_is _ _ c.words_needed.ensures c.constants.ensures.count c.columns.ensures c.rows_needed.ensures c.shared_needed.ensures
    c.objective_constant.ensures
