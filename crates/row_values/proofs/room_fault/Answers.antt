-- `row_values::room_fault` meets its contract.
use mathlib.Core.Path.{refl, ◌∙◌, sym}
use Rattle.base.proofs.Refusals.{link_exit, link_ok}
use Rattle.row_values.proofs.room_fault.Goals as goal

pub returns-in_err-unless : goal.returns-in_err-unless
returns-in_err-unless c = link_exit _ _ _ _ _ c.from_residual.ensures.1 refl c.in_err-unless.ensures

pub returns : goal.returns
returns c = c.unless-2.ensures ∙ sym (link_ok _ _ _ refl c.in_ok-unless.ensures)
