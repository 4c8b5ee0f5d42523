use mathlib.Core.Path.{ap, ◌∙◌}
use Rattle.validate.specs.Check.{residual_at}
use Rattle.validate.proofs.boundary.fervoulk_residual.Goals as goal

pub returns : goal.returns
returns c =
    let is = c.check-answer.ensures in
    (c.residual.ensures ∙ ap (λ r. residual_at r.residuals c.args.i) is.0, is.1)
