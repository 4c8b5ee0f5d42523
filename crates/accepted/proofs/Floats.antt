-- Floats that are numbers: what is not above is at most, and differences and maxima in that order.
use mathlib.Core.Path.{◌≡◌, refl, sym, ◌∙◌}
use mathlib.Core.Bool.{Bool, true, false, cond, not, ◌&&◌, ◌||◌, beq, true≢false, false≢true}
use Prim.Native.Nat.{ℕ, zero, suc, ◌+◌, ◌-◌, ◌*◌, ◌^◌, ◌≤◌, ◌<◌}
use native.Mathlib.Omega.{arith}
use native.Mathlib.Nat.{mul_assoc, mul_comm, mul_left_comm, mul-le-mul_right, mul-pos, zero-mul}
use lib.IntN.{ℤ}
use lib.Dec.{T, eqb, ltb}
use lib.Ieee.{Float, nan, inf, fin, binary64, up, down, below, level, unlike, neg, lt, le, eq, ne, is_nan, round, sum, add, sub, div, of_bits, to_bits}
use lib.Ieee.Exact.{HasValue}
use lib.Ieee.Fits.{down_pos}
use lib.Ieee.Order.{round_mono}
use borrow.Author.Tests.{ltb-false, le-ltb, eqb-true, eq-eqb, ne_eqb}
use Rattle.float.specs.Number.{◌⊖◌, ◌⊘◌, zero64, one64, is_finite, maximum}
use Rattle.float.proofs.Above.{lt_nan, lt_asym, not_above, maximum_law}
use Rattle.float.proofs.Really.{Number, Signed, round_signed, round_number, less_finite}
use Rattle.float.proofs.Signs.{sub_signed}
use Rattle.float.proofs.Values.{sub_at}

-- ---- not above, and at most

below_level : (s t : Bool) (x y : ℕ) → below t y s x ≡ false → below s x t y || level s x t y ≡ true
below_level false false x y h = go (ltb x y) refl
  where
    go : (b : Bool) → ltb x y ≡ b → b || (eqb x y && true) ≡ true
    go true e = refl
    go false e = rw (eq-eqb x y (omega (arith, ltb-false x y e, ltb-false y x h)))
below_level true true x y h = go (ltb y x) refl
  where
    go : (b : Bool) → ltb y x ≡ b → b || (eqb x y && true) ≡ true
    go true e = refl
    go false e = rw (eq-eqb x y (omega (arith, ltb-false y x e, ltb-false x y h)))
below_level true false x y h = go (ltb 0 (x + y)) refl
  where
    go : (b : Bool) → ltb 0 (x + y) ≡ b → b || (eqb x y && eqb x 0) ≡ true
    go true e = refl
    go false e =
        let l = ltb-false 0 (x + y) e in
        let z : x ≡ 0 = omega arith in
        let w : y ≡ 0 = omega arith in
        rw (z, w)
below_level false true x y h =
    let l = ltb-false 0 (y + x) h in
    let z : x ≡ 0 = omega arith in
    let w : y ≡ 0 = omega arith in
    rw (z, w)

-- a number that is not above t is at most t
pub at_most : (t a : Float) → Number t → Number a → lt t a ≡ false → le a t ≡ true
unfolding lt eq le is_nan
at_most nan a z w h = absurd (true≢false z)
at_most (inf s) nan z w h = absurd (true≢false w)
at_most (fin s m e) nan z w h = absurd (true≢false w)
at_most (inf true) (inf true) z w h = refl
at_most (inf true) (inf false) z w h = absurd (true≢false h)
at_most (inf false) (inf true) z w h = refl
at_most (inf false) (inf false) z w h = refl
at_most (inf true) (fin t n d) z w h = absurd (true≢false h)
at_most (inf false) (fin t n d) z w h = refl
at_most (fin s m e) (inf true) z w h = refl
at_most (fin s m e) (inf false) z w h = absurd (true≢false h)
at_most (fin s m e) (fin t n d) z w h = below_level t s (n * up d * down e) (m * up e * down d) h

level_below : (s t : Bool) (x y : ℕ) → level s x t y ≡ true → below t y s x ≡ false
level_below s t x y h = go (eqb x y) refl h
  where
    same : (s t : Bool) → beq s t || eqb x 0 ≡ true → below t x s x ≡ false
    same true true h = le-ltb x x (omega arith)
    same false false h = le-ltb x x (omega arith)
    same true false h = refl
    same false true h = let z : x ≡ 0 = eqb-true x 0 h in rw z

    go : (b : Bool) → eqb x y ≡ b → b && (beq s t || eqb x 0) ≡ true → below t y s x ≡ false
    go true e h = rw (← eqb-true x y e) (same s t h)
    go false e h = absurd (false≢true h)

equal_not : (x y : Float) → eq x y ≡ true → lt y x ≡ false
unfolding lt eq
equal_not nan y h = absurd (false≢true h)
equal_not (inf s) nan h = absurd (false≢true h)
equal_not (inf true) (inf true) h = refl
equal_not (inf true) (inf false) h = absurd (false≢true h)
equal_not (inf false) (inf t) h = go t h
  where
    go : (t : Bool) → beq false t ≡ true → t && not false ≡ false
    go true h = absurd (false≢true h)
    go false h = refl
equal_not (inf s) (fin t n d) h = absurd (false≢true h)
equal_not (fin s m e) nan h = absurd (false≢true h)
equal_not (fin s m e) (inf t) h = absurd (false≢true h)
equal_not (fin s m e) (fin t n d) h = level_below s t (m * up e * down d) (n * up d * down e) h

pub most_not : (x y : Float) → T (le x y) → lt y x ≡ false
unfolding le
most_not x y h = go (lt x y) (eq x y) refl refl h
  where
    go : (b c : Bool) → lt x y ≡ b → eq x y ≡ c → T (b || c) → lt y x ≡ false
    go true c p q h = lt_asym x y p
    go false true p q h = equal_not x y q
    go false false p q h = absurd h

-- ---- maxima

-- the larger of two is one of them
pub maximum_either : (P : Float → Type 0) (a b : Float) → P a → P b → P (maximum a b)
unfolding maximum
maximum_either P a b h k = go (ne a a) (ne b b) (lt a b) (lt b a) (ltb (to_bits binary64 a) (2 ^ 63))
  where
    go : (p q r s t : Bool) → P (cond p b (cond q a (cond r b (cond s a (cond t a b)))))
    go true q r s t = k
    go false true r s t = h
    go false false true s t = k
    go false false false true t = h
    go false false false false true = h
    go false false false false false = k

not_self : (x : Float) → lt x x ≡ false
not_self x = go (lt x x) refl
  where
    go : (b : Bool) → lt x x ≡ b → b ≡ false
    go true e = sym e ∙ lt_asym x x e
    go false e = refl

-- and not below either
pub maximum_not : (a b : Float) → (lt (maximum a b) a ≡ false) × (lt (maximum a b) b ≡ false)
maximum_not a b = (maximum_law (maximum a b) a b).0 (not_self (maximum a b))

-- ---- differences

signed_not : (x : Float) → Signed true x → lt zero64 x ≡ false
unfolding lt of_bits
signed_not nan h = absurd h
signed_not (inf t) h = rw h
signed_not (fin t m e) h = rw h

infinity_not : (x : Float) → lt (inf false) x ≡ false
unfolding lt
infinity_not nan = refl
infinity_not (inf t) = refl
infinity_not (fin t m e) = refl

nothing : round binary64 false 0 1 ≡ zero64
unfolding round of_bits
nothing = refl

zero_number : Number zero64
unfolding of_bits is_nan
zero_number = refl

-- nothing over c, rounded, is not above 0
none_left : (c : ℕ) → 0 < c → lt zero64 (round binary64 false 0 c) ≡ false
none_left c C = most_not (round binary64 false 0 c) zero64 (rw nothing at (round_mono binary64 0 c 0 1 C (omega arith) (omega arith)))

-- a value over a denominator that its own divides
value : (s : Bool) (m : ℕ) (e : ℤ) (k c : ℕ) → c ≡ down e * k → HasValue (fin s m e) s (m * up e * k) c
value s m e k c h = (refl, rw h (simp (mul_assoc, mul_comm, mul_left_comm)))

wider : (x y k l w : ℕ) → x * k ≤ y * l → x * (k * w) ≤ y * (l * w)
wider x y k l w h = simp mul_assoc at (mul-le-mul_right w h)

negative : (m : ℕ) (e : ℤ) (n : ℕ) (d : ℤ) → ltb (m * up e * down d) (n * up d * down e) ≡ true → Signed true (fin false m e ⊖ fin false n d)
unfolding sub add neg sum
negative m e n d h = rw h (round_signed binary64 true (n * up d * down e - m * up e * down d) (down e * down d))

eq_zero : (x k : ℕ) → 0 < k → x * k ≤ 0 → x ≡ 0
eq_zero zero k h l = refl
eq_zero (suc x) k h l = absurd (omega arith)

-- three numbers of the sign +, the last no larger than the first, the first than the second
less_mono : (m : ℕ) (e : ℤ) (k : ℕ) (f : ℤ) (n : ℕ) (d : ℤ) → n * up d * down e ≤ m * up e * down d → m * up e * down f ≤ k * up f * down e
    → T (le (fin false m e ⊖ fin false n d) (fin false k f ⊖ fin false n d))
less_mono m e k f n d h l =
    let c = down e * (down f * down d) in
    let C : 0 < c = mul-pos (down_pos e) (mul-pos (down_pos f) (down_pos d)) in
    let a = m * up e * (down f * down d) in
    let b = k * up f * (down e * down d) in
    let z = n * up d * (down e * down f) in
    let za : z ≤ a = rw (mul_comm (down f) (down d)) (wider (n * up d) (m * up e) (down e) (down d) (down f) h) in
    let ab : a ≤ b = wider (m * up e) (k * up f) (down f) (down e) (down d) l in
    let va = value false m e (down f * down d) c refl in
    let vb = value false k f (down e * down d) c (mul_left_comm (down e) (down f) (down d)) in
    let vz = value false n d (down e * down f) c (simp (mul_comm, mul_left_comm)) in
    rw (sub_at (fin false m e) (fin false n d) a z c C va vz za, sub_at (fin false k f) (fin false n d) b z c C vb vz (omega arith))
    (round_mono binary64 (a - z) c (b - z) c C C (mul-le-mul_right c (omega arith)))

-- nothing, less something no larger
nothing_less : (m : ℕ) (e : ℤ) (n : ℕ) (d : ℤ) → m * up e ≡ 0 → n * up d * down e ≤ m * up e * down d → lt zero64 (fin false m e ⊖ fin false n d) ≡ false
nothing_less m e n d z h =
    let c = down e * down d in
    let C : 0 < c = mul-pos (down_pos e) (down_pos d) in
    let o : m * up e * down d - n * up d * down e ≡ 0 = rw (z, zero-mul (down d)) (omega arith) in
    rw (sub_at (fin false m e) (fin false n d) (m * up e * down d) (n * up d * down e) c C (value false m e (down d) c refl) (value false n d (down e) c (mul_comm (down e) (down d))) h, o) (none_left c C)

module _ (t : Float) (zero_not : lt t zero64 ≡ false) where
  -- what is not above 0 is not above t
  low : (v : Float) → lt zero64 v ≡ false → lt t v ≡ false
  low v h = not_above t v zero64 zero_number h zero_not

  plain : (m : ℕ) (e : ℤ) (b : Float) (n : ℕ) (d : ℤ) → Number b → n * up d * down e ≤ m * up e * down d → lt b (fin false m e) ≡ false → lt t (b ⊖ fin false n d) ≡ false → lt t (fin false m e ⊖ fin false n d) ≡ false
  unfolding lt is_nan is_finite sub add neg
  plain m e nan n d nb y l h = absurd (true≢false nb)
  plain m e (inf true) n d nb y l h = absurd (true≢false l)
  plain m e (inf false) n d nb y l h = not_above t (fin false m e ⊖ fin false n d) (inf false) refl (infinity_not (fin false m e ⊖ fin false n d)) h
  plain m e (fin true k f) n d nb y l h =
      let z = ltb-false 0 (k * up f * down e + m * up e * down f) l in
      low (fin false m e ⊖ fin false n d) (nothing_less m e n d (eq_zero (m * up e) (down f) (down_pos f) (omega arith)) y)
  plain m e (fin false k f) n d nb y l h =
      not_above t (fin false m e ⊖ fin false n d) (fin false k f ⊖ fin false n d) (less_finite (fin false k f) (fin false n d) refl refl)
      (most_not _ _ (less_mono m e k f n d y (ltb-false (k * up f * down e) (m * up e * down f) l))) h

  -- where b less z is not above t, and a is not above b, a less z is not above t, for a z of the sign +
  pub less_kept : (a b z : Float) → Number b → is_finite z ≡ true → Signed false z → lt b a ≡ false → lt t (b ⊖ z) ≡ false → lt t (a ⊖ z) ≡ false
  unfolding lt is_nan is_finite sub add neg
  less_kept a b nan nb fz sz l h = absurd sz
  less_kept a b (inf u) nb fz sz l h = absurd (false≢true fz)
  less_kept a b (fin true n d) nb fz sz l h = absurd (true≢false sz)
  less_kept nan b (fin false n d) nb fz sz l h = lt_nan t
  less_kept (inf true) b (fin false n d) nb fz sz l h = low (inf true) (signed_not (inf true) refl)
  less_kept (inf false) nan (fin false n d) nb fz sz l h = absurd (true≢false nb)
  less_kept (inf false) (inf true) (fin false n d) nb fz sz l h = absurd (true≢false l)
  less_kept (inf false) (inf false) (fin false n d) nb fz sz l h = h
  less_kept (inf false) (fin v k f) (fin false n d) nb fz sz l h = absurd (true≢false l)
  less_kept (fin true m e) b (fin false n d) nb fz sz l h = low (fin true m e ⊖ fin false n d) (signed_not (fin true m e ⊖ fin false n d) (sub_signed true (fin true m e) (fin false n d) refl refl))
  less_kept (fin false m e) b (fin false n d) nb fz sz l h = go (ltb (m * up e * down d) (n * up d * down e)) refl
    where
      go : (c : Bool) → ltb (m * up e * down d) (n * up d * down e) ≡ c → lt t (fin false m e ⊖ fin false n d) ≡ false
      go true q = low (fin false m e ⊖ fin false n d) (signed_not (fin false m e ⊖ fin false n d) (negative m e n d q))
      go false q = plain m e b n d nb (ltb-false (m * up e * down d) (n * up d * down e) q) l h

-- ---- quotients

-- the larger of a number and 1 is not below 1
pub at_least_one : (a : Float) → lt (maximum a one64) one64 ≡ false
at_least_one a = (maximum_not a one64).1

-- a number over something finite that is not below 1
pub over_one : (a d : Float) → Number a → is_finite d ≡ true → lt d one64 ≡ false → Number (a ⊘ d)
unfolding div is_finite is_nan lt of_bits
over_one nan d h f l = h
over_one (inf s) nan h f l = absurd (false≢true f)
over_one (inf s) (inf t) h f l = absurd (false≢true f)
over_one (inf s) (fin t n e) h f l = refl
over_one (fin s m k) nan h f l = absurd (false≢true f)
over_one (fin s m k) (inf t) h f l = absurd (false≢true f)
over_one (fin s m k) (fin t zero e) h f l = absurd (no_zero t l)
  where
    no_zero : (t : Bool) → below t (0 * up e * 1) false (1 * 1 * down e) ≡ false → ⊥
    no_zero false l = omega (arith, ltb-false (0 * up e * 1) (1 * 1 * down e) l, down_pos e)
    no_zero true l = omega (arith, ltb-false 0 (0 * up e * 1 + 1 * 1 * down e) l, down_pos e)
over_one (fin s m k) (fin t (suc n) e) h f l = rw (ne_eqb (suc n) 0 (λ z. omega arith)) (round_number binary64 (unlike s t) (m * up k * down e) (suc n * up e * down k))
