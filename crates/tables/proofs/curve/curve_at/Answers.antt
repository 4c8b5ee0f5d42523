use native.Mathlib.Omega.{arith}
use Rattle.base.proofs.Firsts.{unless_proper}
use Rattle.base.proofs.Turns.{first_none, first_done}
use Rattle.base.proofs.Refusals.{first_pass, first_exit}
use Rattle.tables.proofs.curve.curve_at.Goals as goal

pub loop-s-init : goal.loop-s-init
loop-s-init c = first_none _

pub returns-in_err-unless : goal.returns-in_err-unless
returns-in_err-unless c =
    first_exit _ _ _ _ _ c.from_residual.ensures.1 (omega (arith, c.loop-s-test.true)) c.loop-s.invariant (c.in_err-unless.ensures)

pub loop-s-preserved : goal.loop-s-preserved
loop-s-preserved c = first_pass _ _ c.loop-s.invariant (c.in_ok-unless.ensures)

pub returns : goal.returns
returns c =
    first_done _ _ _ (omega (arith, c.loop-s-test.false, c.loop-s.auto.s-end)) (λ j. unless_proper _ 5 _ (omega arith)) c.loop-s.invariant
