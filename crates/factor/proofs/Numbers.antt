-- Numbers that stay finite: a negation, a half, and a start between finite bounds.
use mathlib.Core.Path.{◌≡◌, refl, ap, sym, ◌∙◌}
use mathlib.Core.Bool.{Bool, true, false, cond, true≢false, false≢true}
use Prim.Native.Nat.{ℕ, zero, suc, ◌+◌, ◌-◌, ◌*◌, ◌/◌, ◌%◌, ◌^◌, ◌≤◌, ◌<◌, compare}
use native.Mathlib.Omega.{arith}
use native.Mathlib.Nat.{one-mul, mul_left_comm}
use lib.Dec.{T, ltb}
use lib.Pow.{pow_pos}
use lib.Ieee.{Float, Format, nan, inf, fin, binary64, to_bits, of_bits, neg, lt, le, fits, round, units, nearest, size, prec, low, emax, odd}
use lib.Ieee.Bits.{of_bits-to_bits}
use lib.Ieee.Exact.{HasValue}
use lib.Ieee.Order.{round_mono}
use Rattle.float.specs.Number.{◌⊗◌, half64, zero64, is_finite, absolute}
use Rattle.float.proofs.Really.{Signed, round_signed}
use Rattle.float.proofs.Values.{value_finite, mul_at, round_units}
use Rattle.float.proofs.Patterns.{absolute_bits, absolute_fits, finite_bits_is, pattern_value, worth, digits, place, digits_lt}
use Rattle.bounds.specs.Bounds.{finite_or, clamp_start}
use Rattle.acopf.proofs.Finite.{zero_finite}

pub neg_finite : (x : Float) → is_finite x ≡ true → is_finite (neg x) ≡ true
unfolding neg is_finite
neg_finite nan h = h
neg_finite (inf s) h = h
neg_finite (fin s m e) h = refl

-- through its bits and back
pub back_finite : (x : Float) → T (fits binary64 x) → is_finite (of_bits binary64 (to_bits binary64 x)) ≡ is_finite x
back_finite x h = ap is_finite (of_bits-to_bits binary64 x h)

-- ---- a half

half_value : HasValue half64 false 1 2
unfolding of_bits
half_value = (refl, refl)

-- rounding overflows whichever the sign
odd_finite : (d : ℕ) (s : Bool) (q k l : ℕ) → is_finite (odd d s q k l) ≡ true
unfolding odd is_finite
odd_finite d s zero k l = refl
odd_finite d s (suc q) k l = refl

round_sign : (f : Format) (s : Bool) (n d : ℕ) → is_finite (round f s n d) ≡ is_finite (round f false n d)
unfolding round units
round_sign f s n d =
    let m = n * 2 ^ low f in
    let k = size (m / d) - prec f in
    let u = d * 2 ^ k in
    let q = nearest (m / u) (compare (m % u * 2) u) in
    go q k (ltb (q * 2 ^ k) (2 ^ (low f + suc (emax f))))
  where
    go : (q k : ℕ) (b : Bool) → is_finite (cond b (odd (suc (prec f)) s q k (low f)) (inf s)) ≡ is_finite (cond b (odd (suc (prec f)) false q k (low f)) (inf false))
    go q k true = odd_finite (suc (prec f)) s q k (low f) ∙ sym (odd_finite (suc (prec f)) false q k (low f))
    go q k false = unfold is_finite in refl

under_finite : (x y : Float) → Signed false x → T (le x y) → is_finite y ≡ true → is_finite x ≡ true
unfolding le is_finite
under_finite nan y h l k = absurd h
under_finite (inf true) y h l k = absurd (true≢false h)
under_finite (inf false) nan h l k = absurd (false≢true k)
under_finite (inf false) (inf t) h l k = absurd (false≢true k)
under_finite (inf false) (fin t m e) h l k = absurd l
under_finite (fin s m e) y h l k = refl

-- half of what does not overflow does not
half_round : (a c : ℕ) → 0 < c → is_finite (round binary64 false a c) ≡ true → is_finite (round binary64 false (1 * a) (2 * c)) ≡ true
half_round a c C h =
    under_finite (round binary64 false (1 * a) (2 * c)) (round binary64 false a c) (round_signed binary64 false (1 * a) (2 * c))
    (round_mono binary64 (1 * a) (2 * c) a c (omega arith) C (below a c)) h
  where
    below : (a c : ℕ) → 1 * a * c ≤ a * (2 * c)
    below a c = rw (one-mul a, mul_left_comm a 2 c) (omega arith)

-- a finite number's size, in units of 2^-1074, whichever the sign
signed_value : (x : Float) (a c : ℕ) → is_finite x ≡ true → HasValue (absolute x) false a c → (s : Bool) × HasValue x s a c
unfolding absolute is_finite
signed_value nan a c f h = absurd h
signed_value (inf s) a c f h = absurd h
signed_value (fin s m e) a c f h = (s, (refl, h.1))

pub half_finite : (x : Float) → T (fits binary64 x) → is_finite x ≡ true → is_finite (half64 ⊗ x) ≡ true
half_finite x f h =
    let n = to_bits binary64 x % 2 ^ 63 in
    let b : n < 2047 * 2 ^ 52 = finite_bits_is x f h in
    let e : of_bits binary64 n ≡ absolute x = ap (of_bits binary64) (sym (absolute_bits x f h)) ∙ of_bits-to_bits binary64 (absolute x) (absolute_fits x f) in
    let (s, v) = signed_value x (worth n) (2 ^ 1074) h (rw e at (pattern_value n b)) in
    let whole = value_finite (round binary64 false (worth n) (2 ^ 1074)) false (worth n) (2 ^ 1074) (round_units false (worth n) (digits n) (place n) refl (digits_lt n) (omega arith)) in
    rw (mul_at half64 x false s 1 (worth n) 2 (2 ^ 1074) (omega arith) (pow_pos 1074) half_value v)
    (round_sign binary64 _ (1 * worth n) (2 * 2 ^ 1074) ∙ half_round (worth n) (2 ^ 1074) (pow_pos 1074) whole)

-- ---- starts

-- one of two
either_finite : (b : Bool) (x y : Float) → is_finite x ≡ true → is_finite y ≡ true → is_finite (cond b x y) ≡ true
either_finite true x y h k = h
either_finite false x y h k = k

pub finite_or_finite : (value fallback : Float) → is_finite fallback ≡ true → is_finite (finite_or value fallback) ≡ true
unfolding finite_or
finite_or_finite value fallback h = go (is_finite value) refl
  where
    go : (b : Bool) → is_finite value ≡ b → is_finite (cond b value fallback) ≡ true
    go true e = e
    go false e = h

pub start_finite : (value lower upper : Float) → is_finite lower ≡ true → is_finite upper ≡ true → is_finite (clamp_start value lower upper) ≡ true
unfolding clamp_start
start_finite value lower upper l u = either_finite (lt upper _) upper _ u (either_finite (lt _ lower) lower _ l (finite_or_finite value zero64 zero_finite))
