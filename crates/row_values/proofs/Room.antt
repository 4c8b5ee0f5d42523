-- Refusal 12 clear: both lists have room.
use Prim.Native.Nat.{ℕ, ◌≤◌}
use native.Mathlib.Omega.{arith}
use lib.Dec.{leb}
use borrow.Author.Tests.{leb-true}
use Rattle.base.specs.Fault.{fault, unless}
use Rattle.base.specs.Refusal.{SHORT}
use Rattle.base.proofs.Firsts.{Clear, or_left, or_right, unless_true}
use Rattle.row_values.specs.Answer.{room_of}

pub has_room : (shared rows lent_shared lent_rows : ℕ) → Clear (room_of shared rows lent_shared lent_rows) → (shared ≤ lent_shared) × (rows ≤ lent_rows)
has_room shared rows lent_shared lent_rows c =
    let a = or_left (unless (leb shared lent_shared) (fault SHORT 1)) (unless (leb rows lent_rows) (fault SHORT 2)) c in
    let b = or_right (unless (leb shared lent_shared) (fault SHORT 1)) (unless (leb rows lent_rows) (fault SHORT 2)) c in (
      leb-true shared lent_shared (unless_true (leb shared lent_shared) SHORT 1 (omega arith) a),
      leb-true rows lent_rows (unless_true (leb rows lent_rows) SHORT 2 (omega arith) b),
    )
