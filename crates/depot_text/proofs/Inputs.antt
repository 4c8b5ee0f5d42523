-- The input's form, test by test.
use mathlib.Core.Path.{◌≡◌}
use mathlib.Core.Bool.{true, false, ◌&&◌}
use mathlib.Core.List.{List}
use Prim.Native.Nat.{ℕ, ◌+◌, ◌*◌, ◌≤◌, ◌<◌}
use lib.ListN.{length}
use lib.Dec.{eqb, leb}
use borrow.Author.Tests.{le-leb, lt-leb, leb-true, eqb-true}
use Rattle.network.proofs.Places.{and_left, and_right}
use Rattle.depot_text.specs.Input.{formed, word_count, number_count}
use Rattle.little_endian.specs.Bytes.{word_at}

module _ (bytes : List ℕ) where
  pub formed_below : length bytes < 8 → false ≡ formed bytes
  unfolding formed
  formed_below h = rw (lt-leb 8 (length bytes) h)

  pub formed_above : 8 ≤ length bytes → 16384 < length bytes → false ≡ formed bytes
  unfolding formed
  formed_above h k = rw (le-leb 8 (length bytes) h, lt-leb (length bytes) 16384 k)

  pub formed_by : (words numbers : ℕ) → 8 ≤ length bytes → length bytes ≤ 16384 → words ≡ word_at bytes 0 → numbers ≡ word_at bytes 4
      → eqb (length bytes) (8 + 4 * words + 8 * numbers) ≡ formed bytes
  unfolding formed
  formed_by words numbers h k e f = rw (le-leb 8 (length bytes) h, le-leb (length bytes) 16384 k, e, f)

  pub record Formed : Type 0 where
    pub below : 8 ≤ length bytes
    pub above : length bytes ≤ 16384
    pub needed : length bytes ≡ 8 + 4 * word_count bytes + 8 * number_count bytes

  pub formed_is : formed bytes ≡ true → Formed
  unfolding formed
  formed_is h =
      let first = leb 8 (length bytes) in
      let second = leb (length bytes) 16384 in
      let third = eqb (length bytes) (8 + 4 * word_count bytes + 8 * number_count bytes) in
      let p = and_left (first && second) third h in
      record {
        below = leb-true _ _ (and_left first second p);
        above = leb-true _ _ (and_right first second p);
        needed = eqb-true _ _ (and_right (first && second) third h);
      }
