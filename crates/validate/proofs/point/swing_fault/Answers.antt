use mathlib.Core.Path.{ap}
use native.Mathlib.Omega.{arith}
use Rattle.base.proofs.Firsts.{unless_proper}
use Rattle.base.proofs.Refusals.{first_pass, first_exit}
use Rattle.base.proofs.Turns.{first_none, first_done}
use Rattle.validate.specs.Check.{fault_swing}
use Rattle.validate.proofs.point.swing_fault.Goals as goal

pub loop-i-init : goal.loop-i-init
loop-i-init c = first_none _

pub returns-in_err-unless : goal.returns-in_err-unless
unfolding fault_swing
returns-in_err-unless c =
    let n = ap (λ l. l.buses) c.args.candidate.now.tables.laid.words.is in
    λ solver. first_exit _ _ _ _ _ c.from_residual.ensures.1 (omega (arith, n, c.loop-i-test.true)) c.loop-i.invariant
    (rw (c.angle_right.ensures, c.va.ensures) at c.in_err-unless.ensures)

pub loop-i-preserved : goal.loop-i-preserved
loop-i-preserved c = first_pass _ _ c.loop-i.invariant (rw (c.angle_right.ensures, c.va.ensures) at c.in_ok-unless.ensures)

pub returns : goal.returns
unfolding fault_swing
returns c =
    let n = ap (λ l. l.buses) c.args.candidate.now.tables.laid.words.is in
    λ solver. first_done _ _ _ (omega (arith, n, c.loop-i-test.false, c.loop-i.auto.i-end)) (λ j. unless_proper _ 14 _ (omega arith)) c.loop-i.invariant
