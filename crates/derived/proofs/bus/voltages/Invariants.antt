use mathlib.Core.Path.{◌≡◌}
use Prim.Native.Nat.{ℕ, ◌<◌}
use lib.ListN.{get_or}
use lib.Ieee.{nan}
use Rattle.pi_model.specs.Flow.{complex, voltage}
use Rattle.derived.proofs.bus.voltages.Given as goal

abbrev pub invariant-loop-i : goal.invariant-loop-i
invariant-loop-i l =
    (j : ℕ) → j < l.i → get_or l.list j (complex nan nan) ≡ voltage l.candidate.tables.words.now l.candidate.point.now j
