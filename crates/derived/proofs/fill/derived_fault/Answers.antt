use mathlib.Core.Path.{sym, ◌∙◌}
use Rattle.base.proofs.Refusals.{link_exit, link_ok}
use Rattle.derived.proofs.NonFinite.{one_then}
use Rattle.derived.proofs.fill.derived_fault.Goals as goal

pub returns-in_err-first_non_finite : goal.returns-in_err-first_non_finite
returns-in_err-first_non_finite c = link_exit _ _ _ _ _ c.from_residual.ensures.1 (one_then _ _) c.in_err-first_non_finite.ensures

pub returns : goal.returns
returns c = c.first_non_finite-2.ensures ∙ sym (link_ok _ _ _ (one_then _ _) c.in_ok-first_non_finite.ensures)
