use mathlib.Core.List.{List}
use mathlib.Core.Path.{◌≡◌}
use Prim.Native.Nat.{ℕ}
use lib.Ieee.{Float}
use Rattle.piecewise_cost.specs.internal.Prepared.{Prepared}
use Rattle.piecewise_cost.specs.Curve.{evaluate}
use Rattle.piecewise_cost.proofs.curve.PiecewiseCost.evaluate.Given as goal

abbrev pub invariant-loop-segment : goal.invariant-loop-segment
invariant-loop-segment l =
    (xs : List Float) (at : ℕ) → Prepared xs at l.fn.self.count l.fn.self.segments → l.most ≡ evaluate xs at l.segment-index l.power
