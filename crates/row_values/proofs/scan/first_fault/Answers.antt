-- `row_values::scan::first_fault` meets its contract.
use mathlib.Core.Path.{refl, ap, sym, ◌∙◌}
use Rattle.base.specs.Refusal.{VALUE}
use Rattle.base.specs.Fault.{fault, unless, fault_of}
use Rattle.base.proofs.Refusals.{link_ok, link_exit, exit_shown}
use Rattle.row_values.proofs.Passes.{swings, spared}
use Rattle.row_values.proofs.scan.first_fault.Goals as goal

pub returns-in_err-earlier : goal.returns-in_err-earlier
returns-in_err-earlier c = link_exit _ _ _ _ _ c.from_residual.ensures.1 refl (sym (ap (λ v. fault_of v) c.in_err-earlier.was))

pub returns-in_err-unless : goal.returns-in_err-unless
returns-in_err-unless c =
    exit_shown _ _ c.from_residual-in_err-unless.ensures.1 ∙ swings _ c.args.part.value _ _ c.in_err-unless.ensures
    ∙ sym (link_ok _ _ _ refl (sym (ap (λ v. fault_of v) c.in_ok-earlier.was)))

pub returns : goal.returns
returns c =
    spared _ _ _ _ c.in_ok-unless.ensures (c.unless-2.ensures ∙ ap (λ b. unless b (fault VALUE c.args.at)) c.is_finite.ensures)
    ∙ sym (link_ok _ _ _ refl (sym (ap (λ v. fault_of v) c.in_ok-earlier.was)))
