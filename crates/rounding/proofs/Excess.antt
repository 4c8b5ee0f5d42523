-- A difference that is at most t after its one rounding: exactly it is at most t, but for one part in 2^53 of t.
-- No unit is lost where t is subnormal or 0, since a difference of doubles is exact there.
use mathlib.Core.Path.{◌≡◌, refl, ap, subst}
use mathlib.Core.Bool.{Bool, true, false, false≢true}
use Prim.Native.Nat.{ℕ, zero, suc, ◌+◌, ◌-◌, ◌*◌, ◌^◌, ◌≤◌}
use native.Mathlib.Omega.{arith}
use lib.Dec.{T}
use lib.IntN.{ℤ, pos, neg_ℤ, ◌+ℤ◌, ◌-ℤ◌, nat_abs, +ℤ_comm}
use lib.Ieee.{Float, nan, inf, fin, binary64, fits, round, le, sub, neg}
use lib.Ieee.Fits.{round-fits, neg-fits}
use Rattle.float.specs.Number.{◌⊖◌, is_finite}
use Rattle.float.proofs.Really.{round_signed}
use Rattle.rounding.specs.Units.{signed, units, size, above, excess, Within}
use Rattle.rounding.proofs.Integer.{abs_neg, above_add, by_way, turned_round}
use Rattle.rounding.proofs.Units.{units_of, units_neg}
use Rattle.rounding.proofs.Grid.{grid, grid_off, round_value}
use Rattle.rounding.proofs.Rounded.{Rounds, finite_rounds}
use Rattle.rounding.proofs.AtMost.{at_most_units, at_most_finite, absolute_same}

-- of two finite doubles, also where it overflows
pub difference_rounds : (x y : Float) → T (fits binary64 x) → T (fits binary64 y) → is_finite x ≡ true → is_finite y ≡ true → Rounds (x ⊖ y) (units x -ℤ units y)
unfolding sub neg is_finite
difference_rounds nan y f g h k = absurd (false≢true h)
difference_rounds (inf s) y f g h k = absurd (false≢true h)
difference_rounds (fin s m e) nan f g h k = absurd (false≢true k)
difference_rounds (fin s m e) (inf t) f g h k = absurd (false≢true k)
difference_rounds (fin s m e) (fin t n d) f g h k = rw (units_neg (fin t n d)) at (finite_rounds s m e _ n d f (neg-fits binary64 (fin t n d) g))

parts : (n g t : ℕ) → 2 ^ 53 * (g - n + (n - g)) ≤ g → g ≤ t → 2 ^ 53 * n ≤ (2 ^ 53 + 1) * t
parts n g t h l = omega arith

above_negative : (n : ℕ) → above (neg_ℤ (pos n)) ≡ 0
above_negative zero = refl
above_negative (suc n) = refl

module _ (a b t : Float) (fa : T (fits binary64 a)) (fb : T (fits binary64 b)) (ft : T (fits binary64 t)) (ha : is_finite a ≡ true) (hb : is_finite b ≡ true) (ht : is_finite t ≡ true) where
  pub excess_within : le (a ⊖ b) t ≡ true → 2 ^ 53 * excess a b ≤ (2 ^ 53 + 1) * size t
  excess_within l = let r = difference_rounds a b fa fb ha hb in go r.negative r.count r.is r.value
    where
      go : (s : Bool) (n : ℕ) → a ⊖ b ≡ round binary64 s n (2 ^ 1074) → signed s n ≡ units a -ℤ units b → 2 ^ 53 * excess a b ≤ (2 ^ 53 + 1) * size t
      go true n e w = rw (← w, above_negative n) (omega arith)
      go false n e w =
          let z = round binary64 false n (2 ^ 1074) in
          let S = round_signed binary64 false n (2 ^ 1074) in
          let m : le z t ≡ true = rw e at l in
          let i = at_most_finite z t S ht m in
          let u = (at_most_units z t (round-fits binary64 false n (2 ^ 1074)) ft ht (rw (absolute_same z S) m)).1 in
          let v : size z ≡ grid n = ap nat_abs (units_of z false (grid n) (round_value false n i)) in
          rw (← w) (parts n (grid n) (size t) (grid_off n) (subst (λ (k : ℕ). k ≤ size t) v u))

-- ---- against a number that is itself rounded: e exactly, d as worked out

added : (p q r s t : ℕ) → p ≤ q + r → 2 ^ 53 * q ≤ t → 2 ^ 53 * r ≤ s → 2 ^ 53 * p ≤ t + s
added p q r s t h k l = omega arith

module _ (m d e : ℤ) (s t : ℕ) (w : Within s d e) where
  pub above_exact : 2 ^ 53 * above (m -ℤ d) ≤ t → 2 ^ 53 * above (m -ℤ e) ≤ t + s
  above_exact h = rw (by_way m d e) (added (above ((m -ℤ d) +ℤ (d -ℤ e))) (above (m -ℤ d)) (nat_abs (d -ℤ e)) s t (above_add (m -ℤ d) (d -ℤ e)) h w)

  pub below_exact : 2 ^ 53 * above (d -ℤ m) ≤ t → 2 ^ 53 * above (e -ℤ m) ≤ t + s
  below_exact h =
      let v : 2 ^ 53 * nat_abs (e -ℤ d) ≤ s = rw (turned_round e d, abs_neg (d -ℤ e)) w in
      rw (by_way e d m) (rw (+ℤ_comm (e -ℤ d) (d -ℤ m)) (added (above ((d -ℤ m) +ℤ (e -ℤ d))) (above (d -ℤ m)) (nat_abs (e -ℤ d)) s t (above_add (d -ℤ m) (e -ℤ d)) h v))
