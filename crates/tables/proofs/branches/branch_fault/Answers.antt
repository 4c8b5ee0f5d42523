use mathlib.Core.Path.{refl, sym, ◌∙◌}
use Rattle.base.proofs.Refusals.{link_exit, link_ok}
use Rattle.tables.proofs.branches.branch_fault.Goals as goal

pub returns-in_err-unless : goal.returns-in_err-unless
returns-in_err-unless c =
    link_exit _ _ _ _ _ c.from_residual.ensures.1 refl (rw c.validate_active-spread.ensures at c.in_err-unless.ensures)

pub returns-in_err-unless-2 : goal.returns-in_err-unless-2
returns-in_err-unless-2 c =
    let w1 = link_ok _ _ _ refl (rw c.validate_active-spread.ensures at c.in_ok-unless.ensures) in
    link_exit _ _ _ _ _ c.from_residual-in_err-unless-2.ensures.1 w1 (rw c.validate_active.ensures at c.in_err-unless-2.ensures)

pub returns : goal.returns
returns c =
    let w1 = link_ok _ _ _ refl (rw c.validate_active-spread.ensures at c.in_ok-unless.ensures) in
    let w2 = link_ok _ _ _ w1 (rw c.validate_active.ensures at c.in_ok-unless-2.ensures) in
    (rw c.is_finite-square.ensures at c.unless-3.ensures) ∙ sym w2
