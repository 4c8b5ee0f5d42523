use mathlib.Core.Path.{refl, sym, ◌∙◌}
use Rattle.base.proofs.Refusals.{link_exit, link_ok}
use Rattle.validate.specs.Check.{fault_output}
use Rattle.validate.proofs.point.lent_fault.Goals as goal

pub returns-in_err-unless : goal.returns-in_err-unless
unfolding fault_output
returns-in_err-unless c =
    let L = c.args.tables.now.laid.words.is in
    λ x solver. link_exit _ _ _ _ _ c.from_residual.ensures.1 refl (rw (c.output_count.ensures, L) at c.in_err-unless.ensures)

pub returns : goal.returns
unfolding fault_output
returns c =
    let L = c.args.tables.now.laid.words.is in
    λ x solver. c.tolerance_fault.ensures ∙ sym (link_ok _ _ _ refl (rw (c.output_count.ensures, L) at c.in_ok-unless.ensures))
