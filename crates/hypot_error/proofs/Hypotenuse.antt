-- How far the hypotenuse is from the exact one: 4 parts in 2^53, and one unit of 2^-1074 where it is at most 2^-1022.
use mathlib.Core.Path.{◌≡◌, refl, sym, subst}
use mathlib.Core.Bool.{Bool, true, false, cond}
use mathlib.Core.Logic.{◌⊎◌, inl, inr}
use Prim.Native.Nat.{ℕ, ◌+◌, ◌-◌, ◌*◌, ◌/◌, ◌%◌, ◌^◌, ◌≤◌, ◌<◌}
use native.Mathlib.Omega.{arith}
use native.Mathlib.Nat.{mul-pos, mul-le-mul, mul-le-mul_left, mul-le-mul_right, le_of_mul-le-mul_left, le_trans}
use lib.Dec.{T, ltb, lit≤}
use lib.Pow.{pow_pos}
use lib.Ieee.{Float, nan, inf, fin, binary64, to_bits, of_bits, fits}
use borrow.Author.Tests.{ltb-true, ltb-false}
use Rattle.float.specs.Number.{is_finite, absolute}
use Rattle.float.proofs.Values.{Units}
use Rattle.float.proofs.Patterns.{worth, pattern_value, finite_bits_is}
use Rattle.fdlibm.specs.Hypot.{ordered, hypotenuse}
use Rattle.fdlibm.proofs.HypotNumber.{of_bits_is, word}
use Rattle.rounding.specs.Units.{size}
use Rattle.rounding.proofs.Integer.{abs_signed}
use Rattle.rounding.proofs.Units.{units_of, units_whole}
use Rattle.rounding.proofs.Counts.{count_same}
use Rattle.hypot_error.specs.Exact.{exact_square, Upper, Lower}
use Rattle.hypot_error.proofs.Root.{Root}
use Rattle.hypot_error.proofs.Scaled.{Hypot, Loose}
use Rattle.hypot_error.proofs.Branches.{ordered_near}
use Rattle.hypot_error.proofs.Arguments.{hypot_arguments}

-- ---- by counts of units

absolute_units : (x : Float) (s : Bool) (a : ℕ) → Units x s a → Units (absolute x) false a
unfolding absolute
absolute_units nan s a h = h
absolute_units (inf t) s a h = h
absolute_units (fin t m e) s a h = (refl, h.1)

-- a finite number's size is that of its bits without the sign
pub size_bits : (x : Float) → T (fits binary64 x) → is_finite x ≡ true → size x ≡ worth (to_bits binary64 x % 2 ^ 63)
size_bits x f h =
    let n = to_bits binary64 x % 2 ^ 63 in
    let w = units_whole x f h in
    let a = absolute_units x w.negative w.count w.value in
    let b : Units (absolute x) false (worth n) = subst (λ (y : Float). Units y false (worth n)) (sym (of_bits_is x f h)) (pattern_value n (finite_bits_is x f h)) in
    rw (w.are, abs_signed w.negative w.count) (count_same (absolute x) false false w.count (worth n) a b)

turned : (a b : ℕ) → a * a + b * b ≡ b * b + a * a
turned a b = omega arith

pub hypot_near : (x y : Float) → T (fits binary64 x) → T (fits binary64 y) → is_finite x ≡ true → is_finite y ≡ true → is_finite (hypotenuse x y) ≡ true → Hypot (hypotenuse x y) (exact_square x y)
unfolding hypotenuse
hypot_near x y f g h k =
    rw (size_bits x f h, size_bits y g k, of_bits_is x f h, of_bits_is y g k, word (to_bits binary64 x), word (to_bits binary64 y)) (go (ltb (n / 2 ^ 32) (m / 2 ^ 32)) refl)
  where
    n : ℕ
    n = to_bits binary64 x % 2 ^ 63

    m : ℕ
    m = to_bits binary64 y % 2 ^ 63

    a : Float
    a = of_bits binary64 n

    b : Float
    b = of_bits binary64 m

    go : (t : Bool) → ltb (n / 2 ^ 32) (m / 2 ^ 32) ≡ t → is_finite (cond t (ordered b a (m / 2 ^ 32) (n / 2 ^ 32)) (ordered a b (n / 2 ^ 32) (m / 2 ^ 32))) ≡ true
        → Hypot (cond t (ordered b a (m / 2 ^ 32) (n / 2 ^ 32)) (ordered a b (n / 2 ^ 32) (m / 2 ^ 32))) (worth n * worth n + worth m * worth m)
    go true q =
        let l = ltb-true (n / 2 ^ 32) (m / 2 ^ 32) q in
        rw (turned (worth n) (worth m)) (ordered_near m n (finite_bits_is y g k) (finite_bits_is x f h) (omega arith))
    go false q = ordered_near n m (finite_bits_is x f h) (finite_bits_is y g k) (ltb-false (n / 2 ^ 32) (m / 2 ^ 32) q)

-- ---- from parts in 2^60 to parts in 2^53

pub upper_of : (m c d w r : ℕ) → c ≤ 128 * d → 128 * m * (128 * m) * w ≤ (128 * m + c) * r * ((128 * m + c) * r) → m * m * w ≤ (m + d) * r * ((m + d) * r)
upper_of m c d w r l h =
    let a : (128 * m + c) * r ≤ 128 * (m + d) * r = mul-le-mul_right r (omega arith) in
    go m w ((128 * m + c) * r) ((m + d) * r) h (mul-le-mul (rest a) (rest a))
  where
    rest : {x : ℕ} → x ≤ 128 * (m + d) * r → x ≤ 128 * ((m + d) * r)
    rest h = omega arith

    go : (m w x y : ℕ) → 128 * m * (128 * m) * w ≤ x * x → x * x ≤ 128 * y * (128 * y) → m * m * w ≤ y * y
    go m w x y h k = omega arith

lower_of : (n k e w r : ℕ) → 0 < n → k * e ≤ n * n → n * n * (r * r) ≤ e * e * w → k * k * (r * r) ≤ n * n * w
lower_of n k e w r N t h =
    let a = mul-le-mul_left (k * k) h in
    let b = mul-le-mul_right w (mul-le-mul t t) in
    let g : n * n * (k * k * (r * r)) ≤ n * n * (n * n * w) = omega arith in
    le_of_mul-le-mul_left {k = n * n} g (mul-pos N N)

lower_to : (m d w r : ℕ) → 128 * d * (128 * d) * (r * r) ≤ 128 * m * (128 * m) * w → d * r * (d * r) ≤ m * m * w
lower_to m d w r h = omega arith

upper_456 : (w r : ℕ) → 2 ^ 60 * 2 ^ 60 * w ≤ (2 ^ 60 + 456) * r * ((2 ^ 60 + 456) * r) → Upper 4 w r
upper_456 w r h = upper_of (2 ^ 53) 456 4 w r (lit≤ tt) h

lower_456 : (w r : ℕ) → 2 ^ 60 * 2 ^ 60 * (r * r) ≤ (2 ^ 60 + 456) * (2 ^ 60 + 456) * w → Lower 4 w r
lower_456 w r h = lower_to (2 ^ 53) (2 ^ 53 - 4) w r (lower_of (2 ^ 60) (128 * (2 ^ 53 - 4)) (2 ^ 60 + 456) w r (pow_pos 60) (lit≤ tt) h)

-- ---- the laws

wider : (w r : ℕ) → Root 456 w r → Loose 456 w r
wider w r h =
    record {
      over = over (2 ^ 60) (2 ^ 60 + 456) w r h.over;
      under = under (2 ^ 60) (2 ^ 60 + 456) w r h.under;
    }
  where
    over : (n c w r : ℕ) → n * n * w ≤ c * r * (c * r) → n * n * w ≤ c * (r + 1) * (c * (r + 1))
    over n c w r h = omega arith

    under : (n c w r : ℕ) → n * n * (r * r) ≤ c * c * w → n * n * ((r - 1) * (r - 1)) ≤ c * c * w
    under n c w r h =
        let l : r - 1 ≤ r = omega arith in
        le_trans (mul-le-mul_left (n * n) (mul-le-mul l l)) h

pub loose : (w r : ℕ) → Root 456 w r ⊎ ((r ≤ 2 ^ 52) × Loose 456 w r) → Loose 456 w r
loose w r (inl h) = wider w r h
loose w r (inr h) = h.1

tight : (w r : ℕ) → 2 ^ 52 < r → Root 456 w r ⊎ ((r ≤ 2 ^ 52) × Loose 456 w r) → Root 456 w r
tight w r l (inl h) = h
tight w r l (inr h) = let k = h.0 in absurd (omega arith)

-- a finite hypotenuse, whose arguments are then finite
module _ (x y : Float) (f : T (fits binary64 x)) (g : T (fits binary64 y)) (o : is_finite (hypotenuse x y) ≡ true) where
  near : Hypot (hypotenuse x y) (exact_square x y)
  near = let a = hypot_arguments x y f g o in hypot_near x y f g a.0 a.1 o

  is : size (hypotenuse x y) ≡ near.count
  is = rw (units_of (hypotenuse x y) false near.count near.value)

  -- one unit more
  pub hypot_upper : Upper 4 (exact_square x y) (size (hypotenuse x y) + 1)
  hypot_upper = subst (λ (n : ℕ). Upper 4 (exact_square x y) (n + 1)) (sym is) (upper_456 (exact_square x y) (near.count + 1) (loose (exact_square x y) near.count near.near).over)

  -- one unit less
  pub hypot_lower : Lower 4 (exact_square x y) (size (hypotenuse x y) - 1)
  hypot_lower = subst (λ (n : ℕ). Lower 4 (exact_square x y) (n - 1)) (sym is) (lower_456 (exact_square x y) (near.count - 1) (loose (exact_square x y) near.count near.near).under)

  -- above 2^-1022, the least normal number, no unit is needed
  pub hypot_upper_normal : 2 ^ 52 < size (hypotenuse x y) → Upper 4 (exact_square x y) (size (hypotenuse x y))
  hypot_upper_normal l =
      let r = tight (exact_square x y) near.count (subst (λ (n : ℕ). 2 ^ 52 < n) is l) near.near in
      subst (λ (n : ℕ). Upper 4 (exact_square x y) n) (sym is) (upper_456 (exact_square x y) near.count r.over)

  pub hypot_lower_normal : 2 ^ 52 < size (hypotenuse x y) → Lower 4 (exact_square x y) (size (hypotenuse x y))
  hypot_lower_normal l =
      let r = tight (exact_square x y) near.count (subst (λ (n : ℕ). 2 ^ 52 < n) is l) near.near in
      subst (λ (n : ℕ). Lower 4 (exact_square x y) n) (sym is) (lower_456 (exact_square x y) near.count r.under)
