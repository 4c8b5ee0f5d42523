-- Floats in order are units in order.
use mathlib.Core.Path.{◌≡◌, refl, sym, ap}
use mathlib.Core.Bool.{Bool, true, false, ◌&&◌, ◌||◌, true≢false, false≢true}
use Prim.Native.Nat.{ℕ, ◌*◌, ◌^◌, ◌≤◌}
use native.Mathlib.Omega.{arith}
use native.Mathlib.Nat.{le_of_mul-le-mul_right}
use lib.Dec.{T, ltb, eqb}
use lib.Pow.{pow_pos}
use lib.IntN.{nat_abs}
use lib.Ieee.{Float, nan, inf, fin, binary64, up, down, fits, lt, eq, le}
use lib.Ieee.Fits.{down_pos}
use lib.Ieee.Order.{transfer}
use borrow.Author.Tests.{ltb-true, eqb-true}
use Rattle.float.specs.Number.{is_finite, absolute}
use Rattle.float.proofs.Really.{Signed}
use Rattle.rounding.specs.Units.{units}
use Rattle.rounding.proofs.Integer.{abs_signed}
use Rattle.rounding.proofs.Units.{units_of, fin_count}

below_or_level : (a b : ℕ) (c : Bool) → ltb a b || (eqb a b && c) ≡ true → a ≤ b
below_or_level a b c h = go (ltb a b) (eqb a b) refl refl h
  where
    go : (p q : Bool) → ltb a b ≡ p → eqb a b ≡ q → p || (q && c) ≡ true → a ≤ b
    go true q e f h = omega (arith, ltb-true a b e)
    go false true e f h = omega (arith, eqb-true a b f)
    go false false e f h = absurd (false≢true h)

level_only : (a b : ℕ) (c : Bool) → eqb a b && c ≡ true → a ≤ b
level_only a b c h = go (eqb a b) refl h
  where
    go : (q : Bool) → eqb a b ≡ q → q && c ≡ true → a ≤ b
    go true f h = omega (arith, eqb-true a b f)
    go false f h = absurd (false≢true h)

-- a is no larger in size than t, which may be -0
pub at_most_units : (a t : Float) → T (fits binary64 a) → T (fits binary64 t) → is_finite t ≡ true → le (absolute a) t ≡ true → (is_finite a ≡ true) × (nat_abs (units a) ≤ nat_abs (units t))
unfolding lt eq le absolute is_finite
at_most_units nan t f g k h = absurd (false≢true h)
at_most_units (inf s) nan f g k h = absurd (false≢true k)
at_most_units (inf s) (inf t) f g k h = absurd (false≢true k)
at_most_units (inf s) (fin t n d) f g k h = absurd (false≢true h)
at_most_units (fin s m e) nan f g k h = absurd (false≢true k)
at_most_units (fin s m e) (inf t) f g k h = absurd (false≢true k)
at_most_units (fin s m e) (fin t n d) f g k h =
    let i = fin_count s m e f in
    let j = fin_count t n d g in
    let o : i.count * 2 ^ 1074 ≤ j.count * 2 ^ 1074 =
    transfer i.count j.count (2 ^ 1074) (2 ^ 1074) (m * up e) (n * up d) (down e) (down d) (down_pos e) (down_pos d) (sym i.is) (sym j.is) (sizes t h) in (
      refl,
      rw (units_of (fin s m e) s i.count (refl, i.is), abs_signed s i.count, units_of (fin t n d) t j.count (refl, j.is), abs_signed t j.count)
          (le_of_mul-le-mul_right o (pow_pos 1074)),
    )
  where
    sizes : (t : Bool) → le (fin false m e) (fin t n d) ≡ true → m * up e * down d ≤ n * up d * down e
    sizes false h = below_or_level (m * up e * down d) (n * up d * down e) true h
    sizes true h = level_only (m * up e * down d) (n * up d * down e) (eqb (m * up e * down d) 0) h

-- ---- floats that are not negative

pub absolute_same : (x : Float) → Signed false x → absolute x ≡ x
unfolding absolute
absolute_same nan s = absurd s
absolute_same (inf t) s = ap inf (sym s)
absolute_same (fin t m e) s = ap (λ (u : Bool). fin u m e) (sym s)

-- what is not negative and at most t is finite, where t is
pub at_most_finite : (a t : Float) → Signed false a → is_finite t ≡ true → le a t ≡ true → is_finite a ≡ true
unfolding lt eq le is_finite
at_most_finite nan t s h l = absurd (false≢true l)
at_most_finite (inf true) t s h l = absurd (true≢false s)
at_most_finite (inf false) nan s h l = absurd (false≢true l)
at_most_finite (inf false) (inf u) s h l = absurd (false≢true h)
at_most_finite (inf false) (fin u n d) s h l = absurd (false≢true l)
at_most_finite (fin u m e) t s h l = refl
