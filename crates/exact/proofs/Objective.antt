-- The objective's difference over max(1, absolute objective), at most t after its two roundings, against the exact difference.
use mathlib.Core.Path.{◌≡◌, refl, sym, subst}
use mathlib.Core.Bool.{true, false, true≢false, false≢true}
use Prim.Native.Nat.{ℕ, ◌+◌, ◌*◌, ◌/◌, ◌^◌, ◌≤◌, ◌<◌, max}
use native.Mathlib.Omega.{arith}
use native.Mathlib.Nat.{mul-le-mul_left, mul-le-mul_right, mul-pos}
use lib.Dec.{T}
use lib.Pow.{pow_pos}
use lib.IntN.{◌-ℤ◌, nat_abs}
use lib.Ieee.{Float, nan, inf, fin, binary64, up, down, fits, le, lt, eq, div, of_bits}
use lib.Ieee.Bits.{of_bits-fits}
use lib.Ieee.Fits.{sub-fits, down_pos}
use borrow.Author.Tests.{ltb-false}
use Rattle.float.specs.Number.{◌⊖◌, ◌⊘◌, one64, is_finite, absolute, maximum}
use Rattle.float.proofs.Really.{Signed, absolute_finite}
use Rattle.float.proofs.Values.{Units}
use Rattle.float.proofs.Patterns.{absolute_fits}
use Rattle.rounding.specs.Units.{units, size}
use Rattle.rounding.proofs.Integer.{abs_signed, within_size}
use Rattle.rounding.proofs.Rounded.{sub_within}
use Rattle.rounding.proofs.Quotient.{positive, quotient_within}
use Rattle.hypot_error.proofs.Within.{plus_units}
use Rattle.accepted.proofs.Floats.{maximum_either, at_least_one}

absolute_signed : (x : Float) → is_finite x ≡ true → Signed false (absolute x)
unfolding absolute is_finite
absolute_signed nan h = absurd (false≢true h)
absolute_signed (inf s) h = refl
absolute_signed (fin s m e) h = refl

size_absolute : (x : Float) → size (absolute x) ≡ size x
unfolding units absolute
size_absolute nan = refl
size_absolute (inf s) = refl
size_absolute (fin s m e) = sym (abs_signed s (m * up e * 2 ^ 1074 / down e))

one_finite : is_finite one64 ≡ true
unfolding is_finite of_bits
one_finite = refl

one_signed : Signed false one64
unfolding of_bits
one_signed = refl

-- an infinity over something finite is above t
dividend_finite : (d m t : Float) → Signed false m → is_finite m ≡ true → is_finite t ≡ true → le (absolute d ⊘ m) t ≡ true → is_finite d ≡ true
unfolding absolute div le lt eq is_finite
dividend_finite nan m t s h k l = absurd (false≢true l)
dividend_finite (inf u) nan t s h k l = absurd s
dividend_finite (inf u) (inf v) t s h k l = absurd (false≢true h)
dividend_finite (inf u) (fin true n e) t s h k l = absurd (true≢false s)
dividend_finite (inf u) (fin false n e) nan s h k l = absurd (false≢true k)
dividend_finite (inf u) (fin false n e) (inf w) s h k l = absurd (false≢true k)
dividend_finite (inf u) (fin false n e) (fin w i f) s h k l = absurd (false≢true l)
dividend_finite (fin u i f) m t s h k l = refl

-- what is not below 1 has units
divisor_some : (m : Float) (b : ℕ) → Units m false b → lt m one64 ≡ false → 0 < b
unfolding lt of_bits
divisor_some nan b h l = absurd h
divisor_some (inf t) b h l = absurd h
divisor_some (fin true n e) b h l = absurd (true≢false h.0)
divisor_some (fin false n e) b h l =
    let k = ltb-false (n * up e * 1) (1 * 1 * down e) l in
    let D = down_pos e in
    let N : 0 < n * up e = omega arith in
    positive b (down e) (n * up e * 2 ^ 1074) (sym h.1) (mul-pos N (pow_pos 1074))

both : (n a e d r : ℕ) → n * e ≤ n * a + a → n * (a * d) ≤ r → n * (n * (e * d)) ≤ (n + 1) * r
both n a e d r h k =
    let p = mul-le-mul_left n (mul-le-mul_right d h) in
    let q = mul-le-mul_left (n + 1) k in
    omega arith

module _ (solver own t : Float) (fs : T (fits binary64 solver)) (fo : T (fits binary64 own)) (ft : T (fits binary64 t)) (ho : is_finite own ≡ true) (ht : is_finite t ≡ true)
    (l : le (absolute (solver ⊖ own) ⊘ maximum (absolute own) one64) t ≡ true) where
  abbrev m : Float
  m = maximum (absolute own) one64

  abbrev d : Float
  d = solver ⊖ own

  divisor : Units m false (size m)
  divisor =
      plus_units m (maximum_either (λ v. T (fits binary64 v)) (absolute own) one64 (absolute_fits own fo) (of_bits-fits binary64 _))
      (maximum_either (λ v. is_finite v ≡ true) (absolute own) one64 (absolute_finite own ho) one_finite)
      (maximum_either (Signed false) (absolute own) one64 (absolute_signed own ho) one_signed)

  finite : is_finite d ≡ true
  finite =
      dividend_finite d m t (maximum_either (Signed false) (absolute own) one64 (absolute_signed own ho) one_signed)
      (maximum_either (λ v. is_finite v ≡ true) (absolute own) one64 (absolute_finite own ho) one_finite) ht l

  dividend : Units (absolute d) false (size d)
  dividend =
      subst (λ (n : ℕ). Units (absolute d) false n) (size_absolute d)
      (plus_units (absolute d) (absolute_fits d (sub-fits binary64 solver own)) (absolute_finite d finite) (absolute_signed d finite))

  pub objective_within : 2 ^ 53 * (2 ^ 53 * (nat_abs (units solver -ℤ units own) * 2 ^ 1074)) ≤ (2 ^ 53 + 1) * ((2 ^ 53 * size t + max (size t) (2 ^ 52)) * size m)
  objective_within =
      both (2 ^ 53) (size d) (nat_abs (units solver -ℤ units own)) (2 ^ 1074) ((2 ^ 53 * size t + max (size t) (2 ^ 52)) * size m)
      (within_size (units d) (units solver -ℤ units own) (size d) (sub_within solver own fs fo finite))
      (quotient_within (absolute d) m t (size d) (size m) dividend divisor (divisor_some m (size m) divisor (at_least_one (absolute own))) ft ht l)
