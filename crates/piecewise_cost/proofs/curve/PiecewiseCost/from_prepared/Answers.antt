use native.Mathlib.Numerals.{add-one}
use native.Mathlib.Omega.{arith}
use mathlib.Core.Path.{refl}
use lib.ListN.{length-set}
use Rattle.piecewise_cost.proofs.Leaves.{prepared_none, prepared_next}
use Rattle.piecewise_cost.proofs.curve.PiecewiseCost.from_prepared.Goals as goal

pub loop-s-init : goal.loop-s-init
loop-s-init c = (refl, prepared_none)

pub loop-s-preserved : goal.loop-s-preserved
loop-s-preserved c =
    let inv = c.loop-s.invariant in (
      simp length-set inv.0,
      rw (add-one, c.segment.ensures.1, c.segment.ensures.0) (prepared_next inv.1 (omega arith)),
    )
