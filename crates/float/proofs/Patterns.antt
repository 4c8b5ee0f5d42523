-- A finite number by its bits: how many units of 2^-1074 it is, and what its high word alone is.
use Rattle.std.proofs.Common.{◌≡◌, ℕ, suc, ◌+◌, ◌-◌, ◌*◌, ◌/◌, ◌%◌, ◌^◌, ◌<◌, ◌≤◌, Bool, true, false, cond, T, eqb, ltb, ℤ, sym, refl, ap, ◌∙◌, subst, mul-le-mul_right, mul_assoc, pow-suc, zero-mul, arith, ltb-false, ltb-true, ne_eqb, eqb-true}
use mathlib.Core.Bool.{false≢true}
use native.Mathlib.Nat.{zero-div}
use lib.Ieee.{Float, nan, inf, fin, binary64, to_bits, of_bits, of_fields, odd, fits, neg, top, up, down}
use lib.Ieee.Exact.{odd_sign}
use lib.Ieee.Bits.{of_bits-to_bits, to_bits-lt}
use lib.Ieee.Fits.{neg-fits, inf-fits}
use borrow.Author.Tests.{lt-leb, eqb-false}
use Rattle.float.specs.Number.{is_finite, absolute}
use Rattle.float.proofs.Really.{absolute_finite}
use Rattle.float.proofs.Values.{Units}

-- ---- the value

digits_of : (p k : ℕ) → 2 ^ 52 ≤ p → p < 2 ^ 53 → k < 2046 → of_bits binary64 (p + k * 2 ^ 52) ≡ odd 53 false p k 1074
unfolding of_bits of_fields
digits_of p k l h u =
    let b = p + k * 2 ^ 52 in
    let s = lt-leb (2 ^ 63) b (omega arith) in
    let x : b % 2 ^ 63 / 2 ^ 52 ≡ suc k = omega arith in
    let t : b % 2 ^ 52 ≡ p - 2 ^ 52 = omega arith in
    let n : suc k ≡ 2047 → ⊥ = λ q. omega arith in
    let d : 2 ^ 52 + (p - 2 ^ 52) ≡ p = omega arith in
    rw (s, x, t, ne_eqb (suc k) 2047 n, d)

small_of : (f : ℕ) → f < 2 ^ 52 → of_bits binary64 f ≡ odd 53 false f 0 1074
unfolding of_bits of_fields
small_of f h =
    let s = lt-leb (2 ^ 63) f (omega arith) in
    let x : f % 2 ^ 63 / 2 ^ 52 ≡ 0 = omega arith in
    let t : f % 2 ^ 52 ≡ f = omega arith in
    rw (s, x, t)

-- a normal number's 53 digits and their place, and a subnormal's
pub normal_value : (p k : ℕ) → 2 ^ 52 ≤ p → p < 2 ^ 53 → k < 2046 → Units (of_bits binary64 (p + k * 2 ^ 52)) false (p * 2 ^ k)
normal_value p k l h u = subst (λ (y : Float). Units y false (p * 2 ^ k)) (sym (digits_of p k l h u)) (odd_sign 53 false p k 1074)

pub subnormal_value : (f : ℕ) → f < 2 ^ 52 → Units (of_bits binary64 f) false (f * 2 ^ 0)
subnormal_value f h = subst (λ (y : Float). Units y false (f * 2 ^ 0)) (sym (small_of f h)) (odd_sign 53 false f 0 1074)

abbrev pub digits : ℕ → ℕ
digits n = cond (eqb (n / 2 ^ 52) 0) n (n % 2 ^ 52 + 2 ^ 52)

abbrev pub place : ℕ → ℕ
place n = n / 2 ^ 52 - 1

abbrev pub worth : ℕ → ℕ
worth n = digits n * 2 ^ place n

pub pattern_value : (n : ℕ) → n < 2047 * 2 ^ 52 → Units (of_bits binary64 n) false (worth n)
pattern_value n h = go (eqb (n / 2 ^ 52) 0) refl
  where
    go : (t : Bool) → eqb (n / 2 ^ 52) 0 ≡ t → Units (of_bits binary64 n) false (worth n)
    go true q =
        let c = eqb-true (n / 2 ^ 52) 0 q in
        rw (q, c) (subnormal_value n (omega arith))
    go false q =
        let c = eqb-false (n / 2 ^ 52) 0 q in
        let e : n % 2 ^ 52 + 2 ^ 52 + place n * 2 ^ 52 ≡ n = omega arith in
        rw q (subst (λ (x : ℕ). Units (of_bits binary64 x) false ((n % 2 ^ 52 + 2 ^ 52) * 2 ^ place n)) e (normal_value (n % 2 ^ 52 + 2 ^ 52) (place n) (omega arith) (omega arith) (omega arith)))

pub digits_lt : (n : ℕ) → digits n < 2 ^ 53
digits_lt n = go (eqb (n / 2 ^ 52) 0) refl
  where
    go : (t : Bool) → eqb (n / 2 ^ 52) 0 ≡ t → digits n < 2 ^ 53
    go true q = let c = eqb-true (n / 2 ^ 52) 0 q in rw q (omega arith)
    go false q = rw q (omega arith)

pub digits_pos : (n : ℕ) → 0 < n → 0 < digits n
digits_pos n h = go (eqb (n / 2 ^ 52) 0) refl
  where
    go : (t : Bool) → eqb (n / 2 ^ 52) 0 ≡ t → 0 < digits n
    go true q = rw q h
    go false q = rw q (omega arith)

-- ---- the high word alone

-- the rest of the digits only adds
pub cut_le : (n : ℕ) → worth (n / 2 ^ 32 * 2 ^ 32) ≤ worth n
cut_le n = go (eqb (n / 2 ^ 52) 0) refl
  where
    t : ℕ
    t = n / 2 ^ 32 * 2 ^ 32

    same : t / 2 ^ 52 ≡ n / 2 ^ 52
    same = omega arith

    go : (b : Bool) → eqb (n / 2 ^ 52) 0 ≡ b → worth t ≤ worth n
    go true q = rw (same, q) (mul-le-mul_right (2 ^ place n) (omega arith))
    go false q = rw (same, q) (mul-le-mul_right (2 ^ place n) (omega arith))

-- one more in the exponent's field of a normal number is twice as much
pub field_twice : (h : ℕ) → 2 ^ 20 ≤ h → worth ((h + 2 ^ 20) * 2 ^ 32) ≡ worth (h * 2 ^ 32) + worth (h * 2 ^ 32)
field_twice h l =
    let n = h * 2 ^ 32 in
    let m = (h + 2 ^ 20) * 2 ^ 32 in
    let f : m / 2 ^ 52 ≡ suc (n / 2 ^ 52) = omega arith in
    let g : m % 2 ^ 52 ≡ n % 2 ^ 52 = omega arith in
    let p : suc (n / 2 ^ 52) - 1 ≡ suc (place n) = omega arith in
    let d = n % 2 ^ 52 + 2 ^ 52 in
    rw (f, g, p, ne_eqb (suc (n / 2 ^ 52)) 0 (λ q. omega arith), ne_eqb (n / 2 ^ 52) 0 (λ q. omega arith))
    (ap (λ (x : ℕ). d * x) (pow-suc 2 (place n)) ∙ sym (mul_assoc d (2 ^ place n) 2) ∙ omega arith)

-- and of a subnormal's, the least normal number more
pub field_first : (h : ℕ) → h < 2 ^ 20 → worth ((h + 2 ^ 20) * 2 ^ 32) ≤ 2 ^ 53
field_first h l =
    let m = (h + 2 ^ 20) * 2 ^ 32 in
    let f : m / 2 ^ 52 ≡ 1 = omega arith in
    rw f (omega arith)

-- ---- a finite number's bits

sign_off : (a b : ℕ) → top binary64 + a + b < 2 * top binary64 → (0 + a + b ≡ (top binary64 + a + b) % 2 ^ 63) × (0 + a + b ≡ (0 + a + b) % 2 ^ 63)
sign_off a b h = (omega arith, omega arith)

pub absolute_bits : (x : Float) → T (fits binary64 x) → is_finite x ≡ true → to_bits binary64 (absolute x) ≡ to_bits binary64 x % 2 ^ 63
unfolding absolute to_bits is_finite neg
absolute_bits nan f h = absurd (false≢true h)
absolute_bits (inf s) f h = absurd (false≢true h)
absolute_bits (fin true m e) f h = (sign_off _ _ (to_bits-lt binary64 (fin true m e) f)).0
absolute_bits (fin false m e) f h = (sign_off _ _ (to_bits-lt binary64 (fin true m e) (neg-fits binary64 (fin false m e) f))).1

pub absolute_fits : (x : Float) → T (fits binary64 x) → T (fits binary64 (absolute x))
unfolding absolute neg
absolute_fits nan f = f
absolute_fits (inf s) f = inf-fits binary64 false
absolute_fits (fin true m e) f = neg-fits binary64 (fin true m e) f
absolute_fits (fin false m e) f = f

-- a zero's bits are its sign's
pub zero_bits : (s : Bool) (e : ℤ) → to_bits binary64 (fin s 0 e) ≡ cond s (2 ^ 63) 0
unfolding to_bits
zero_bits s e =
    let z : 0 * up e * 2 ^ 1074 / down e ≡ 0 = ap (λ (n : ℕ). n * 2 ^ 1074 / down e) (zero-mul (up e)) ∙ zero-div (down e) in
    rw z (omega arith)

field_full : (n : ℕ) → n < 2 ^ 63 → 2047 * 2 ^ 52 ≤ n → is_finite (of_bits binary64 n) ≡ false
unfolding of_bits of_fields is_finite
field_full n h l =
    let s = lt-leb (2 ^ 63) n (omega arith) in
    let x : n % 2 ^ 63 / 2 ^ 52 ≡ 2047 = omega arith in
    rw (s, x) (go (eqb (n % 2 ^ 52) 0))
  where
    go : (b : Bool) → is_finite (cond b (inf false) nan) ≡ false
    go true = refl
    go false = refl

pub finite_bits_is : (x : Float) → T (fits binary64 x) → is_finite x ≡ true → to_bits binary64 x % 2 ^ 63 < 2047 * 2 ^ 52
finite_bits_is x f h = go (ltb n (2047 * 2 ^ 52)) refl
  where
    n : ℕ
    n = to_bits binary64 x % 2 ^ 63

    go : (b : Bool) → ltb n (2047 * 2 ^ 52) ≡ b → n < 2047 * 2 ^ 52
    go true q = ltb-true n (2047 * 2 ^ 52) q
    go false q = absurd (false≢true (sym (field_full n (omega arith) (ltb-false n (2047 * 2 ^ 52) q)) ∙ ap (λ (m : ℕ). is_finite (of_bits binary64 m)) (sym (absolute_bits x f h)) ∙ ap is_finite (of_bits-to_bits binary64 (absolute x) (absolute_fits x f)) ∙ absolute_finite x h))
