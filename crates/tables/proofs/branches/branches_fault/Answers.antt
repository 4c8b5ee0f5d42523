use mathlib.Core.Path.{ap}
use native.Mathlib.Omega.{arith}
use Rattle.base.proofs.Turns.{first_none, first_done}
use Rattle.base.proofs.Refusals.{first_pass, first_exit}
use Rattle.tables.specs.Fault.{fault_branches, branch_fault, fault_spread, fault_rating, fault_square}
use Rattle.tables.proofs.Steps.{branch_proper}
use Rattle.tables.proofs.branches.branches_fault.Goals as goal

pub loop-b-init : goal.loop-b-init
loop-b-init c = first_none _

pub returns-in_err-branch_fault : goal.returns-in_err-branch_fault
unfolding fault_branches branch_fault fault_spread fault_rating fault_square
returns-in_err-branch_fault c =
    let L = ap (λ l. l.branches) c.args.tables.now.laid.words.is in
    first_exit _ _ _ _ _ c.from_residual.ensures.1 (omega (arith, L, c.loop-b-test.true)) c.loop-b.invariant (rw c.branch-tables.ensures.is at c.in_err-branch_fault.ensures)

pub loop-b-preserved : goal.loop-b-preserved
unfolding fault_branches branch_fault fault_spread fault_rating fault_square
loop-b-preserved c = first_pass _ _ c.loop-b.invariant (rw c.branch-tables.ensures.is at c.in_ok-branch_fault.ensures)

pub returns : goal.returns
unfolding fault_branches
returns c =
    let L = ap (λ l. l.branches) c.args.tables.now.laid.words.is in
    first_done _ _ _ (omega (arith, L, c.loop-b-test.false, c.loop-b.auto.b-end)) (λ j. branch_proper _ _ _) c.loop-b.invariant
