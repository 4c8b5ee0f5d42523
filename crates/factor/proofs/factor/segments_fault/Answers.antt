use native.Mathlib.Omega.{arith}
use Rattle.base.proofs.Firsts.{or_proper, unless_proper}
use Rattle.base.proofs.Turns.{first_none, first_done}
use Rattle.factor.specs.internal.NonFinite.{segments_fault}
use Rattle.base.proofs.Refusals.{first_pass, first_exit}
use Rattle.factor.proofs.factor.segments_fault.Goals as goal

pub loop-s-init : goal.loop-s-init
unfolding segments_fault
loop-s-init c = first_none _

pub returns-in_err-segment_fault : goal.returns-in_err-segment_fault
unfolding segments_fault
returns-in_err-segment_fault c =
    let turn = rw (c.segment.ensures.0, c.segment.ensures.1) at c.in_err-segment_fault.ensures in
    first_exit _ _ _ _ _ c.from_residual.ensures.1 (rw c.segments-s-end.ensures at c.loop-s-test.true) c.loop-s.invariant turn

pub loop-s-preserved : goal.loop-s-preserved
unfolding segments_fault
loop-s-preserved c = first_pass _ _ c.loop-s.invariant (rw (c.segment.ensures.0, c.segment.ensures.1) at c.in_ok-segment_fault.ensures)

pub returns : goal.returns
unfolding segments_fault
returns c = first_done _ _ _ (omega arith) (λ j. or_proper _ _ (unless_proper _ 11 _ (omega arith))) c.loop-s.invariant
