use Rattle.std.proofs.Common.{rules, tests}
use Rattle.validate.proofs.Needed.{needed}
use Rattle.validate.proofs.boundary.fervoulk_outputs.Goals as goal

pub returns : goal.returns
returns c = needed _ _ c.judge.result _ c.judge.ensures.fault c.judge.ensures.words c.judge.ensures.numbers (λ k q. search (rules, tests)) c.map_or.ensures
