use native.Mathlib.Omega.{arith}
use Rattle.base.proofs.Turns.{first_none, first_done}
use Rattle.base.proofs.Refusals.{first_pass, first_exit}
use Rattle.tables.proofs.Steps.{blanks_proper}
use Rattle.tables.proofs.blank.blank_branches.Goals as goal

pub loop-b-init : goal.loop-b-init
loop-b-init c = first_none _

pub returns-in_err-blanks : goal.returns-in_err-blanks
returns-in_err-blanks c =
    first_exit _ _ _ _ _ c.from_residual.ensures.1 c.loop-b-test.true c.loop-b.invariant (rw c.branch_start.ensures.0 at c.in_err-blanks.ensures)

pub loop-b-preserved : goal.loop-b-preserved
loop-b-preserved c = first_pass _ _ c.loop-b.invariant (rw c.branch_start.ensures.0 at c.in_ok-blanks.ensures)

pub returns : goal.returns
returns c = first_done _ _ _ (omega arith) (λ j. blanks_proper _ _ _) c.loop-b.invariant
