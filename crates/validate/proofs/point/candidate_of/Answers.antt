use mathlib.Core.Path.{refl, sym, ◌∙◌}
use Rattle.base.proofs.Refusals.{exit_shown, link_exit, link_ok}
use Rattle.validate.specs.Check.{fault_point}
use Rattle.validate.proofs.point.candidate_of.Goals as goal

pub returns-in_err-candidate-clause-fault : goal.returns-in_err-candidate-clause-fault
unfolding fault_point
returns-in_err-candidate-clause-fault c = λ solver. link_exit _ _ _ _ _ c.from_residual.ensures.1 refl c.in_err-candidate.ensures.fault

pub returns-in_err-swing_fault-clause-fault : goal.returns-in_err-swing_fault-clause-fault
unfolding fault_point
returns-in_err-swing_fault-clause-fault c =
    let t = c.in_ok-candidate.ensures in
    λ solver. exit_shown _ _ c.from_residual-in_err-swing_fault.ensures.1 ∙ (rw (t.tables, t.point) at (c.in_err-swing_fault.ensures solver)) ∙ sym (link_ok _ _ _ refl t.fault)

pub returns-clause-fault : goal.returns-clause-fault
unfolding fault_point
returns-clause-fault c =
    let t = c.in_ok-candidate.ensures in
    λ solver. (rw (t.tables, t.point) at (c.in_ok-swing_fault.ensures solver)) ∙ sym (link_ok _ _ _ refl t.fault)
