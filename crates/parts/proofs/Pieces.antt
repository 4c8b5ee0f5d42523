-- A branch's shared parts over the numbers that the code holds.
use Prim.Native.Nat.{ℕ, ◌+◌, ◌*◌}
use native.Mathlib.Nat.{add-zero}
use mathlib.Core.Path.{◌≡◌}
use mathlib.Core.List.{List}
use lib.Ieee.{Float}
use Rattle.network.specs.declared.layout.Layout.{Layout}
use Rattle.network.specs.declared.records.Branch.{Branch}
use Rattle.network.specs.Layout.{Laid, branch_record}
use Rattle.pi_model.specs.Flow.{coefficients_of}
use Rattle.acopf.specs.Parts.{branch_parts}
use Rattle.parts.specs.internal.Parts.{all_parts}

pub parts_as : {ws : List ℕ} {xs : List Float} {l : Layout} → Laid ws xs l → {r : Branch} (b : ℕ) → r ≡ branch_record ws xs b
    → branch_parts ws xs b ≡ all_parts l.buses (l.buses + 8 * b) r.from r.to (coefficients_of r)
unfolding branch_parts
parts_as L b e = rw (e, L.words.is, add-zero)
