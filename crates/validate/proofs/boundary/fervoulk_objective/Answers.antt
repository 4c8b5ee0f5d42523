use mathlib.Core.Path.{ap, ◌∙◌}
use Rattle.validate.proofs.boundary.fervoulk_objective.Goals as goal

pub returns : goal.returns
returns c = let is = c.check-answer.ensures in (c.objective.ensures ∙ ap (λ r. r.objective) is.0, is.1)
