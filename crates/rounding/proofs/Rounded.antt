-- One addition or subtraction of doubles: its result is within 2^-53 of its own absolute value of the exact one, and exact below 2^53 units of 2^-1074.
use mathlib.Core.Path.{◌≡◌, refl, sym, ap, ap₂, ◌∙◌}
use mathlib.Core.Bool.{Bool, true, false, cond, ◌&&◌, beq, false≢true}
use Prim.Native.Nat.{ℕ, ◌+◌, ◌-◌, ◌*◌, ◌^◌, ◌≤◌, ◌<◌}
use native.Mathlib.Omega.{arith}
use native.Mathlib.Nat.{add-mul, mul-sub, mul_comm, mul_assoc, mul_right_comm, mul-pos, mul-le-mul_right, mul-lt-mul_of_pos_right, le_of_mul-le-mul_right, lt_of_mul-lt-mul_right}
use lib.Dec.{T, ltb}
use lib.Pow.{pow_pos}
use lib.IntN.{ℤ, pos, neg_ℤ, ◌+ℤ◌, ◌-ℤ◌, nat_abs, neg_ℤ-+ℤ, +ℤ_comm}
use lib.Ieee.{Float, nan, inf, fin, binary64, up, down, fits, round, sum, add, sub, neg}
use lib.Ieee.Fits.{down_pos, neg-fits}
use lib.Ieee.Scale.{round_same}
use borrow.Author.Tests.{ltb-true, ltb-false, lt-ltb, le-ltb}
use Rattle.float.specs.Number.{◌⊕◌, ◌⊖◌, is_finite}
use Rattle.rounding.specs.Units.{signed, units, Within}
use Rattle.rounding.proofs.Integer.{less_pos, less_neg, abs_apart, abs_signed}
use Rattle.rounding.proofs.Grid.{grid, round_value, grid_off, grid_exact}
use Rattle.rounding.proofs.Units.{units_of, units_neg, fin_count}

-- z is the whole number w of units, rounded
pub record Rounds (z : Float) (w : ℤ) : Type 0 where
  pub negative : Bool
  pub count : ℕ
  pub is : z ≡ round binary64 negative count (2 ^ 1074)
  pub value : signed negative count ≡ w

-- ---- a sum of whole numbers of units

zero_signed : (c : Bool) (n : ℕ) → (c ≡ false → n ≡ 0) → signed c n ≡ neg_ℤ (pos n)
zero_signed true n h = refl
zero_signed false n h = rw (h refl)

sum_rounds : (s : Bool) (a : ℕ) (t : Bool) (b : ℕ) → Rounds (sum binary64 s a t b (2 ^ 1074)) (signed s a +ℤ signed t b)
unfolding sum
sum_rounds false a false b = record { negative = false; count = a + b; is = refl; value = refl }
sum_rounds true a true b = record { negative = true; count = a + b; is = refl; value = neg_ℤ-+ℤ (pos a) (pos b) }
sum_rounds false a true b = go (ltb a b) refl
  where
    go : (c : Bool) → ltb a b ≡ c → Rounds (cond c (round binary64 true (b - a) (2 ^ 1074)) (round binary64 false (a - b) (2 ^ 1074))) (pos a +ℤ neg_ℤ (pos b))
    go true e =
        let l : a ≤ b = omega (arith, ltb-true a b e) in
        record { negative = true; count = b - a; is = refl; value = sym (less_neg b a l) ∙ +ℤ_comm (neg_ℤ (pos b)) (pos a) }
    go false e = record { negative = false; count = a - b; is = refl; value = sym (less_pos a b (ltb-false a b e)) }
sum_rounds true a false b = go (ltb a b) refl
  where
    go : (c : Bool) → ltb a b ≡ c → Rounds (cond c (round binary64 false (b - a) (2 ^ 1074)) (round binary64 (ltb b a) (a - b) (2 ^ 1074))) (neg_ℤ (pos a) +ℤ pos b)
    go true e =
        let l : a ≤ b = omega (arith, ltb-true a b e) in
        record { negative = false; count = b - a; is = refl; value = sym (less_pos b a l) ∙ +ℤ_comm (pos b) (neg_ℤ (pos a)) }
    go false e =
        let l = ltb-false a b e in
        let z : ltb b a ≡ false → a - b ≡ 0 = λ q. omega (arith, ltb-false b a q) in
        record { negative = ltb b a; count = a - b; is = refl; value = zero_signed (ltb b a) (a - b) z ∙ sym (less_neg a b l) }

-- ---- a sum of fractions is one of units, where the fractions are

sub_mul : (a b c : ℕ) → (a - b) * c ≡ a * c - b * c
sub_mul a b c = mul_comm (a - b) c ∙ mul-sub c a b ∙ ap₂ (λ (u v : ℕ). u - v) (mul_comm c a) (mul_comm c b)

-- a / p is x / c, and b / p is y / c
module _ (a b p x y c : ℕ) (P : 0 < p) (C : 0 < c) (u : a * c ≡ x * p) (v : b * c ≡ y * p) where
  same_below : ltb a b ≡ ltb x y
  same_below = go (ltb x y) refl
    where
      go : (t : Bool) → ltb x y ≡ t → ltb a b ≡ t
      go true e =
          let l : x * p < y * p = mul-lt-mul_of_pos_right (ltb-true x y e) P in
          lt-ltb a b (lt_of_mul-lt-mul_right c (omega arith))
      go false e =
          let l : y * p ≤ x * p = mul-le-mul_right p (ltb-false x y e) in
          let k : b * c ≤ a * c = omega arith in
          le-ltb a b (le_of_mul-le-mul_right k C)

  same_plus : (s : Bool) → round binary64 s (a + b) p ≡ round binary64 s (x + y) c
  same_plus s = round_same binary64 s (a + b) p (x + y) c P C (add-mul a b c ∙ ap₂ (λ (m n : ℕ). m + n) u v ∙ sym (add-mul x y p))

  same_less : (s : Bool) → round binary64 s (a - b) p ≡ round binary64 s (x - y) c
  same_less s = round_same binary64 s (a - b) p (x - y) c P C (sub_mul a b c ∙ ap₂ (λ (m n : ℕ). m - n) u v ∙ sym (sub_mul x y p))

sum_same : (s t : Bool) (a b p x y c : ℕ) → 0 < p → 0 < c → a * c ≡ x * p → b * c ≡ y * p → sum binary64 s a t b p ≡ sum binary64 s x t y c
unfolding sum
sum_same s t a b p x y c P C u v =
    ap₂ (λ (f g : Float). cond (beq s t) f g) (same_plus a b p x y c P C u v s)
    (ap (λ (f : Float). cond (ltb a b) f (round binary64 (s && ltb b a) (a - b) p)) (same_less b a p y x c P C v u t)
    ∙ ap (λ (f : Float). cond (ltb a b) (round binary64 t (y - x) c) f) (same_less a b p x y c P C u v (s && ltb b a))
    ∙ ap₂ (λ (q r : Bool). cond q (round binary64 t (y - x) c) (round binary64 (s && r) (x - y) c)) (same_below a b p x y c P C u v) (same_below b a p y x c P C v u))

pub over : (x a c d e : ℕ) → x * c ≡ a * d → x * e * c ≡ a * (d * e)
over x a c d e h = mul_right_comm x e c ∙ ap (λ (n : ℕ). n * e) h ∙ mul_assoc a d e

pub over_right : (x a c d e : ℕ) → x * c ≡ a * d → x * e * c ≡ a * (e * d)
over_right x a c d e h = over x a c d e h ∙ ap (λ (n : ℕ). a * n) (mul_comm d e)

-- ---- addition

pub infs_not_finite : (b : Bool) (s : Bool) → is_finite (cond b (inf s) nan) ≡ false
unfolding is_finite
infs_not_finite true s = refl
infs_not_finite false s = refl

pub finite_rounds : (s : Bool) (m : ℕ) (e : ℤ) (t : Bool) (n : ℕ) (d : ℤ) → T (fits binary64 (fin s m e)) → T (fits binary64 (fin t n d))
    → Rounds (fin s m e ⊕ fin t n d) (units (fin s m e) +ℤ units (fin t n d))
unfolding add
finite_rounds s m e t n d f g =
    let i = fin_count s m e f in
    let j = fin_count t n d g in
    let r = sum_rounds s i.count t j.count in
    let q =
    sum_same s t (m * up e * down d) (n * up d * down e) (down e * down d) i.count j.count (2 ^ 1074) (mul-pos (down_pos e) (down_pos d)) (pow_pos 1074)
    (over (m * up e) i.count (2 ^ 1074) (down e) (down d) i.is) (over_right (n * up d) j.count (2 ^ 1074) (down d) (down e) j.is) in
    record {
      negative = r.negative;
      count = r.count;
      is = q ∙ r.is;
      value = r.value ∙ ap₂ (λ (a b : ℤ). a +ℤ b) (sym (units_of (fin s m e) s i.count (refl, i.is))) (sym (units_of (fin t n d) t j.count (refl, j.is)));
    }

add_rounds : (x y : Float) → T (fits binary64 x) → T (fits binary64 y) → is_finite (x ⊕ y) ≡ true → Rounds (x ⊕ y) (units x +ℤ units y)
unfolding add is_finite
add_rounds nan y f g h = absurd (false≢true h)
add_rounds (inf s) nan f g h = absurd (false≢true h)
add_rounds (inf s) (inf t) f g h = absurd (false≢true (sym (infs_not_finite (beq s t) s) ∙ h))
add_rounds (inf s) (fin t n d) f g h = absurd (false≢true h)
add_rounds (fin s m e) nan f g h = absurd (false≢true h)
add_rounds (fin s m e) (inf t) f g h = absurd (false≢true h)
add_rounds (fin s m e) (fin t n d) f g h = finite_rounds s m e t n d f g

-- ---- how far off

rounds_units : (z : Float) (w : ℤ) (r : Rounds z w) → is_finite z ≡ true → units z ≡ signed r.negative (grid r.count)
rounds_units z w r h =
    let e = r.is in
    ap units e ∙ units_of (round binary64 r.negative r.count (2 ^ 1074)) r.negative (grid r.count) (round_value r.negative r.count (ap is_finite (sym e) ∙ h))

rounds_within : (z : Float) (w : ℤ) → Rounds z w → is_finite z ≡ true → Within (nat_abs (units z)) (units z) w
rounds_within z w r h =
    rw (rounds_units z w r h, ← r.value, abs_apart r.negative (grid r.count) r.count, abs_signed r.negative (grid r.count)) (grid_off r.count)

rounds_exact : (z : Float) (w : ℤ) → Rounds z w → is_finite z ≡ true → nat_abs (units z) < 2 ^ 53 → units z ≡ w
rounds_exact z w r h l =
    let u = rounds_units z w r h in
    u ∙ ap (signed r.negative) (grid_exact r.count (rw (u, abs_signed r.negative (grid r.count)) at l)) ∙ r.value

-- ---- the laws

module _ (x y : Float) (f : T (fits binary64 x)) (g : T (fits binary64 y)) where
  -- a finite sum, whose operands are then finite, is off by at most 2^-53 of its absolute value
  pub add_within : is_finite (x ⊕ y) ≡ true → Within (nat_abs (units (x ⊕ y))) (units (x ⊕ y)) (units x +ℤ units y)
  add_within h = rounds_within (x ⊕ y) (units x +ℤ units y) (add_rounds x y f g h) h

  -- and exact below 2^53 units: where it is subnormal, or in the least exponent of the normal numbers
  pub add_exact : is_finite (x ⊕ y) ≡ true → nat_abs (units (x ⊕ y)) < 2 ^ 53 → units (x ⊕ y) ≡ units x +ℤ units y
  add_exact h = rounds_exact (x ⊕ y) (units x +ℤ units y) (add_rounds x y f g h) h

  pub sub_rounds : is_finite (x ⊖ y) ≡ true → Rounds (x ⊖ y) (units x -ℤ units y)
  unfolding sub
  sub_rounds h = rw (units_neg y) at (add_rounds x (neg y) f (neg-fits binary64 y g) h)

  pub sub_within : is_finite (x ⊖ y) ≡ true → Within (nat_abs (units (x ⊖ y))) (units (x ⊖ y)) (units x -ℤ units y)
  sub_within h = rounds_within (x ⊖ y) (units x -ℤ units y) (sub_rounds h) h

  pub sub_exact : is_finite (x ⊖ y) ≡ true → nat_abs (units (x ⊖ y)) < 2 ^ 53 → units (x ⊖ y) ≡ units x -ℤ units y
  sub_exact h = rounds_exact (x ⊖ y) (units x -ℤ units y) (sub_rounds h) h
