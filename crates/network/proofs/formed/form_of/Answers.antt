use mathlib.Core.Path.{refl, sym, ◌∙◌}
use Rattle.base.proofs.Refusals.{exit_shown, link_exit, link_ok}
use Rattle.network.specs.Fault.{form_fault}
use Rattle.network.proofs.formed.form_of.Goals as goal

pub returns-in_err-form-clause-fault : goal.returns-in_err-form-clause-fault
unfolding form_fault
returns-in_err-form-clause-fault c = link_exit _ _ _ _ _ c.from_residual.ensures.1 refl c.in_err-form.ensures.fault

pub returns-in_err-count_fault-clause-fault : goal.returns-in_err-count_fault-clause-fault
unfolding form_fault
returns-in_err-count_fault-clause-fault c =
    exit_shown _ _ c.from_residual-in_err-count_fault.ensures.1 ∙ rw c.in_ok-form.ensures.words at c.in_err-count_fault.ensures
    ∙ sym (link_ok _ _ _ refl c.in_ok-form.ensures.fault)

pub returns-clause-fault : goal.returns-clause-fault
unfolding form_fault
returns-clause-fault c = rw c.in_ok-form.ensures.words at c.in_ok-count_fault.ensures ∙ sym (link_ok _ _ _ refl c.in_ok-form.ensures.fault)
