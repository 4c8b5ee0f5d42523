use mathlib.Core.Path.{refl, sym, ◌∙◌}
use Rattle.base.proofs.Refusals.{link_exit, link_ok}
use Rattle.lists.specs.Finite.{point_fault}
use Rattle.lists.proofs.NonFinite.{non_finite_zero}
use Rattle.lists.proofs.point_fault.Goals as goal

pub returns-in_err-unless : goal.returns-in_err-unless
unfolding point_fault
returns-in_err-unless c = link_exit _ _ _ _ _ c.from_residual.ensures.1 refl c.in_err-unless.ensures

pub returns : goal.returns
unfolding point_fault
returns c = c.first_non_finite.ensures ∙ non_finite_zero _ _ ∙ sym (link_ok _ _ _ refl c.in_ok-unless.ensures)
