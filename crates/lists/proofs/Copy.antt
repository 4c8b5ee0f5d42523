-- Copying the front of a list, one number more.
use mathlib.Core.Path.{◌≡◌}
use mathlib.Core.List.{List, ◌++◌}
use Prim.Native.Nat.{ℕ, suc, ◌+◌, ◌<◌}
use native.Mathlib.Numerals.{add-one}
use native.Mathlib.Omega.{arith}
use lib.Ieee.{Float, nan}
use lib.ListN.{length, get_or, set, take, drop}
use lib.Seq.{paste-suc}

pub copy_next : (s d : List Float) (i : ℕ) → i < length s → i < length d
    → set (take i s ++ drop i d) i (get_or s i nan) ≡ take (i + 1) s ++ drop (i + 1) d
copy_next s d i h k =
    let q : 0 + i < length d = omega arith in
    let e : 0 + i ≡ i = omega arith in
    let f : 0 + suc i ≡ suc i = omega arith in
    rw add-one (rw (e, f) at (paste-suc d 0 s i nan q h))
