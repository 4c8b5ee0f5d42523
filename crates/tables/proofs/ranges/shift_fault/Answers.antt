use mathlib.Core.Path.{ap}
use native.Mathlib.Omega.{arith}
use Rattle.base.proofs.Firsts.{unless_proper}
use Rattle.base.proofs.Turns.{first_none, first_done}
use Rattle.base.proofs.Refusals.{first_pass, first_exit}
use Rattle.tables.specs.Fault.{fault_shift}
use Rattle.tables.proofs.ranges.shift_fault.Goals as goal

pub loop-b-init : goal.loop-b-init
loop-b-init c = first_none _

pub returns-in_err-unless : goal.returns-in_err-unless
unfolding fault_shift
returns-in_err-unless c =
    let L = ap (λ l. l.branches) c.args.tables.now.laid.words.is in
    first_exit _ _ _ _ _ c.from_residual.ensures.1 (omega (arith, L, c.loop-b-test.true)) c.loop-b.invariant (rw (c.angle_right.ensures, c.branch_start-at.ensures.0) at c.in_err-unless.ensures)

pub loop-b-preserved : goal.loop-b-preserved
unfolding fault_shift
loop-b-preserved c = first_pass _ _ c.loop-b.invariant (rw (c.angle_right.ensures, c.branch_start-at.ensures.0) at c.in_ok-unless.ensures)

pub returns : goal.returns
unfolding fault_shift
returns c =
    let L = ap (λ l. l.branches) c.args.tables.now.laid.words.is in
    first_done _ _ _ (omega (arith, L, c.loop-b-test.false, c.loop-b.auto.b-end)) (λ j. unless_proper _ 6 _ (omega arith)) c.loop-b.invariant
