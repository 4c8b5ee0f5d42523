use mathlib.Core.Path.{◌≡◌}
use Prim.Native.Nat.{◌-◌}
use lib.ListN.{length}
use Rattle.network.specs.Limits.{most_points}
use Rattle.piecewise_cost.specs.internal.Prepared.{Prepared}
use Rattle.piecewise_cost.proofs.curve.PiecewiseCost.from_prepared.Given as goal

abbrev pub invariant-loop-s : goal.invariant-loop-s
invariant-loop-s l = (length l.segments ≡ most_points - 1) × Prepared l.curve.numbers.now l.curve.at l.s l.segments
