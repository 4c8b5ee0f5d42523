use mathlib.Core.Path.{ap, ◌∙◌}
use Rattle.base.specs.Fault.{packed}
use Rattle.validate.proofs.boundary.fervoulk_residuals.Goals as goal

pub returns : goal.returns
returns c = (c.packed.ensures ∙ ap packed c.residuals.ensures.0, c.residuals.ensures.1)
