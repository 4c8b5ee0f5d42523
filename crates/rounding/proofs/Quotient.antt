-- A quotient that is at most t after its one rounding, against the exact one. The law has no division: both sides are multiplied by the divisor.
use mathlib.Core.Path.{◌≡◌, ap, subst, ◌∙◌}
use mathlib.Core.Bool.{true, false}
use Prim.Native.Nat.{ℕ, zero, suc, ◌+◌, ◌-◌, ◌*◌, ◌^◌, ◌≤◌, ◌<◌, max}
use native.Mathlib.Omega.{arith}
use native.Mathlib.Nat.{mul-pos, mul-le-mul_left, mul-le-mul_right, eq_of_mul-eq-mul_right, le_trans, max-le, le-max_left, le-max_right, zero-mul}
use lib.Dec.{T}
use lib.Pow.{pow_pos}
use lib.IntN.{nat_abs}
use lib.Ieee.{Float, nan, inf, fin, binary64, up, down, fits, round, le, div}
use lib.Ieee.Exact.{HasValue}
use lib.Ieee.Fits.{round-fits, down_pos}
use lib.Ieee.Scale.{round_same}
use borrow.Author.Tests.{ne_eqb}
use Rattle.float.specs.Number.{◌⊘◌, is_finite}
use Rattle.float.proofs.Really.{round_signed}
use Rattle.float.proofs.Values.{Units}
use Rattle.rounding.specs.Units.{size}
use Rattle.rounding.proofs.Units.{units_of}
use Rattle.rounding.proofs.Fraction.{round_off}
use Rattle.rounding.proofs.AtMost.{at_most_units, at_most_finite, absolute_same}

-- a number of units over another
cross : (x y a b c p q : ℕ) → 0 < c → x * c ≡ a * p → y * c ≡ b * q → x * q * b ≡ a * (y * p)
cross x y a b c p q C u v =
    let e : x * q * b * c ≡ a * (y * p) * c = omega (arith, ap (λ (n : ℕ). n * (q * b)) u, ap (λ (n : ℕ). n * (a * p)) v) in
    eq_of_mul-eq-mul_right c C (x * q * b) (a * (y * p)) e

pub positive : (y c r : ℕ) → y * c ≡ r → 0 < r → 0 < y
positive zero c r e h = let z = zero-mul c in absurd (omega arith)
positive (suc y) c r e h = omega arith

-- of two numbers that are not negative
div_at : (x y : Float) (a b c : ℕ) → 0 < c → 0 < b → HasValue x false a c → HasValue y false b c → x ⊘ y ≡ round binary64 false a b
unfolding div
div_at nan y a b c C B h k = absurd h
div_at (inf s) y a b c C B h k = absurd h
div_at (fin s m e) nan a b c C B h k = absurd k
div_at (fin s m e) (inf t) a b c C B h k = absurd k
div_at (fin s m e) (fin t zero d) a b c C B h k =
    let p = mul-pos B (down_pos d) in
    let o : 0 * up d * c ≡ 0 = ap (λ (n : ℕ). n * c) (zero-mul (up d)) ∙ zero-mul c in
    let q = k.1 in
    absurd (omega arith)
div_at (fin s m e) (fin t (suc n) d) a b c C B h k =
    let P = mul-pos (positive (suc n * up d) c (b * down d) k.1 (mul-pos B (down_pos d))) (down_pos e) in
    rw (ne_eqb (suc n) 0 (λ p. omega arith), h.0, k.0)
    (round_same binary64 false (m * up e * down d) (suc n * up d * down e) a b P B (cross (m * up e) (suc n * up d) a b c (down e) (down d) C h.1 k.1))

-- g is a / b, rounded, in units of which there are d in one
parts : (n g a b d t l : ℕ) → n * (g * b - a * d + (a * d - g * b)) ≤ max g l * b → g ≤ t → n * (a * d) ≤ (n * t + max t l) * b
parts n g a b d t l h k =
    let m : max g l ≤ max t l = max-le (le_trans k (le-max_left t l)) (le-max_right t l) in
    let p = mul-le-mul_right b m in
    let q = mul-le-mul_left n (mul-le-mul_right b k) in
    let r : n * (a * d) ≤ n * (g * b) + n * (g * b - a * d + (a * d - g * b)) = over n (a * d) (g * b) in
    omega arith
  where
    over : (n x y : ℕ) → n * x ≤ n * y + n * (y - x + (x - y))
    over n x y = let p : x ≤ y + (y - x + (x - y)) = omega arith in let q = mul-le-mul_left n p in omega arith

-- a over b, at most t after rounding: a * 2^1074 is at most b times t and 2^-53 of it, or of 2^-1022 where that is more
pub quotient_within : (x y t : Float) (a b : ℕ) → Units x false a → Units y false b → 0 < b → T (fits binary64 t) → is_finite t ≡ true → le (x ⊘ y) t ≡ true
    → 2 ^ 53 * (a * 2 ^ 1074) ≤ (2 ^ 53 * size t + max (size t) (2 ^ 52)) * b
quotient_within x y t a b u v B f g l =
    let z = round binary64 false a b in
    let e = div_at x y a b (2 ^ 1074) (pow_pos 1074) B u v in
    let m : le z t ≡ true = rw e at l in
    let S = round_signed binary64 false a b in
    let r = round_off false a b B (at_most_finite z t S g m) in
    let w = (at_most_units z t (round-fits binary64 false a b) f g (rw (absolute_same z S) m)).1 in
    let c : size z ≡ r.count = ap nat_abs (units_of z false r.count r.value) in
    parts (2 ^ 53) r.count a b (2 ^ 1074) (size t) (2 ^ 52) r.off (subst (λ (k : ℕ). k ≤ size t) c w)
