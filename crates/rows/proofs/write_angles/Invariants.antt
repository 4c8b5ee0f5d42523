use mathlib.Core.Path.{◌≡◌}
use Prim.Native.Nat.{◌+◌}
use lib.Ieee.{Float}
use lib.ListN.{length}
use Rattle.base.specs.Loop.{tally}
use Rattle.base.specs.internal.Section.{Added}
use Rattle.network.specs.declared.records.Branch.{Branch}
use Rattle.network.specs.Network.{angled}
use Rattle.rows.specs.internal.Bounds.{angle_bounds}
use Rattle.rows.proofs.write_angles.Given as goal

abbrev pub invariant-loop-b : goal.invariant-loop-b
invariant-loop-b g l =
    (length l.out.out.now ≡ length l.initial.out.out.now) × (l.out.at ≡ l.initial.out.at + tally l.b (angled l.tables.words.now))
    × ((f : Branch → Float) → ((branch : Branch) (v : Float) → goal.F-post g l.angle branch v → v ≡ f branch)
    → Added l.initial.out (angle_bounds l.tables.words.now l.tables.numbers.now f l.b) l.out)
