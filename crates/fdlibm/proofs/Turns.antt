-- The bounds that the turns keep: with P = 2 ^ k, k the turns left, s + 2 P is at most 2^55, and ix is below 2 s + 2 P.
use mathlib.Core.Path.{◌≡◌, refl, sym, ap, ◌∙◌}
use mathlib.Core.Bool.{Bool, true, false}
use Prim.Native.Nat.{ℕ, zero, suc, ◌+◌, ◌-◌, ◌*◌, ◌/◌, ◌%◌, ◌<◌, ◌≤◌, ◌^◌}
use native.Mathlib.Omega.{arith}
use lib.Dec.{leb, ltb}
use native.Mathlib.Nat.{pow-suc, mul_comm, mul_assoc, mul-le-mul_left, mul-le-mul_right}
use Rattle.std.proofs.lemmas.Nat.{pow_pos, pow-add, shl_below, leading_top}
use Rattle.std.specs.Int.Count.{count_leading_zeros}
use borrow.Author.Tests.{leb-true, leb-false, lt-ltb, le-ltb, ltb-true, ltb-false}
use Rattle.std.proofs.Common.{pow_mono}
use Rattle.fdlibm.specs.declared.e_sqrt.Root.{Root}
use Rattle.fdlibm.specs.Sqrt.{next_bit, bit_by_bit, start, normalized, root_of}

pub record Good (k : ℕ) (v : Root) : Type 0 where
  pub high : v.s + 2 * 2 ^ k ≤ 2 ^ 55
  pub rest : v.ix < 2 * v.s + 2 * 2 ^ k
  pub twice : v.q * 2 ≡ v.s

pub good_start : (ix : ℕ) → ix < 2 ^ 55 → Good 54 (start ix)
good_start ix h = record { high = omega arith; rest = omega arith; twice = omega arith }

taken : (s ix r : ℕ) → ix < 2 * s + 2 * (r * 2) → s + r ≤ ix → (ix - (s + r)) * 2 < 2 * (s + r + r) + 2 * r
taken s ix r h l = omega arith

pub good_step : (k : ℕ) (v : Root) → Good (suc k) v → Good k (next_bit (2 ^ k) v)
good_step k v g = go (leb (v.s + 2 ^ k) v.ix) refl
  where
    p : 2 ^ suc k ≡ 2 ^ k * 2
    p = pow-suc 2 k

    go : (b : Bool) → leb (v.s + 2 ^ k) v.ix ≡ b → Good k (next_bit (2 ^ k) v)
    go true e =
        let l = leb-true (v.s + 2 ^ k) v.ix e in
        let q = p in
        rw e (record { high = omega arith; rest = taken v.s v.ix (2 ^ k) (rw p at g.rest) l; twice = omega arith })
    go false e =
        let l = leb-false (v.s + 2 ^ k) v.ix e in
        let q = p in
        rw e (record { high = omega arith; rest = omega arith; twice = omega arith })

-- the turns left, each with its bit
abbrev pub turns : ℕ → Root → Root
turns k v = bit_by_bit k (2 ^ k / 2) v

pub one_more_is : (k : ℕ) (v : Root) → turns (suc k) v ≡ turns k (next_bit (2 ^ k) v)
unfolding bit_by_bit
one_more_is k v =
    let e : 2 ^ suc k / 2 ≡ 2 ^ k = let p = pow-suc 2 k in omega arith in
    rw e refl

pub norm_up : (k m e : ℕ) → m < 2 ^ 52 → normalized (suc k) m e ≡ normalized k (m * 2) (e - 1)
unfolding normalized
norm_up k m e h = rw (lt-ltb m (2 ^ 52) h)

pub norm_same : (k m e : ℕ) → 2 ^ 52 ≤ m → normalized (suc k) m e ≡ normalized k m e
unfolding normalized
norm_same k m e h = rw (le-ltb m (2 ^ 52) h)

pub norm_none : (m e : ℕ) → normalized 0 m e ≡ root_of m e
unfolding normalized
norm_none m e = refl

-- all places at once, where they bring m to 2^52
norm_places : (k i m e : ℕ) → i ≤ k → 2 ^ 52 ≤ m * 2 ^ i → m * 2 ^ i < 2 ^ 53 → normalized k m e ≡ root_of (m * 2 ^ i) (e - i)
norm_places zero zero m e h l u =
    let p : m * 2 ^ 0 ≡ m = omega arith in
    let d : e - 0 ≡ e = omega arith in
    rw (p, d) (norm_none m e)
norm_places zero (suc i) m e h l u = absurd (omega arith)
norm_places (suc k) zero m e h l u = norm_same k m e (omega arith) ∙ norm_places k zero m e (omega arith) l u
norm_places (suc k) (suc i) m e h l u =
    let p : m * 2 ^ suc i ≡ m * 2 * 2 ^ i = ap (λ (n : ℕ). m * n) (pow-suc 2 i ∙ mul_comm (2 ^ i) 2) ∙ sym (mul_assoc m 2 (2 ^ i)) in
    let b : m * 2 * 1 ≤ m * 2 * 2 ^ i = mul-le-mul_left (m * 2) (pow_pos i) in
    let d : e - 1 - i ≡ e - suc i = omega arith in
    norm_up k m e (omega arith) ∙ norm_places k i (m * 2) (e - 1) (omega arith) (omega arith) (omega arith) ∙ rw (p, d) refl

-- the place of a subnormal's first digit
norm_leading : (f : ℕ) → 0 < f → f < 2 ^ 52 → (i : ℕ) × (count_leading_zeros 64 f ≡ i + 11) × (i ≤ 52) × (2 ^ 52 ≤ f * 2 ^ i) × (f * 2 ^ i < 2 ^ 53)
norm_leading f h l =
    let t = leading_top 64 f h (omega arith) in
    let j = t.0 in
    let i = 52 - j in
    let b : j < 52 = below j t.2 in
    let a : j + i ≡ 52 = omega arith in
    let p : 2 ^ 52 ≡ 2 ^ j * 2 ^ i = rw a at (pow-add 2 j i) in
    let d : suc j + i ≡ 53 = omega arith in
    let r = mul-le-mul_right (2 ^ i) t.2 in
    let s = shl_below f (suc j) i t.3 in
    (i, (let e = t.1 in omega arith), omega arith, omega arith, rw d at s)
  where
    below : (j : ℕ) → 2 ^ j ≤ f → j < 52
    below j k = go (ltb j 52) refl
      where
        go : (t : Bool) → ltb j 52 ≡ t → j < 52
        go true e = ltb-true j 52 e
        go false e = let m = pow_mono {i = 52} {j = j} (ltb-false j 52 e) in absurd (omega arith)

abbrev pub places : ℕ → ℕ
places f = count_leading_zeros 64 f - 11

abbrev pub moved : ℕ → ℕ
moved f = f * 2 ^ places f % 2 ^ 64

-- a subnormal's significand, moved up by a shift
pub norm_moved : (f : ℕ) → 0 < f → f < 2 ^ 52
    → (11 ≤ count_leading_zeros 64 f) × (moved f < 2 ^ 53) × (root_of (moved f) (1022 - places f) ≡ normalized 52 f 1022)
norm_moved f h l =
    let t = norm_leading f h l in
    let i = t.0 in
    let e : places f ≡ i = let a = t.1 in omega arith in
    let w : f * 2 ^ i % 2 ^ 64 ≡ f * 2 ^ i = omega arith in
    ((let a = t.1 in omega arith), rw (e, w) t.4, rw (e, w) (sym (norm_places 52 i f 1022 t.2 t.3 t.4)))
