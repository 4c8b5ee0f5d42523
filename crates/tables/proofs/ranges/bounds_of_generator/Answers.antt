use mathlib.Core.Path.{refl, sym, ◌∙◌}
use Rattle.base.proofs.Refusals.{link_exit, link_ok}
use Rattle.tables.proofs.ranges.bounds_of_generator.Goals as goal

pub returns-in_err-unless : goal.returns-in_err-unless
returns-in_err-unless c =
    link_exit _ _ _ _ _ c.from_residual.ensures.1 refl (rw c.validate_active.ensures at c.in_err-unless.ensures)

pub returns : goal.returns
returns c =
    let w1 = link_ok _ _ _ refl (rw c.validate_active.ensures at c.in_ok-unless.ensures) in
    (rw c.validate_active-2.ensures at c.unless-2.ensures) ∙ sym w1
