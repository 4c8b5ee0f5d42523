use mathlib.Core.Path.{refl, sym, ◌∙◌}
use Rattle.base.proofs.Refusals.{link_exit, link_ok}
use Rattle.factor.proofs.factor.later_factor.Goals as goal

pub returns-in_err-unless : goal.returns-in_err-unless
returns-in_err-unless c =
    link_exit _ _ _ _ _ c.from_residual.ensures.1 refl (rw (c.is_finite-constant.ensures, c.objective_constant.ensures) at c.in_err-unless.ensures)

pub returns : goal.returns
returns c =
    c.epigraphs_factor.ensures ∙ sym (link_ok _ _ _ refl (rw (c.is_finite-constant.ensures, c.objective_constant.ensures) at c.in_ok-unless.ensures))
