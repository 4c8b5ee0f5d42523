-- Where the hypotenuse less s is at most t, the exact hypotenuse is at most s + t and 5 parts in 2^53 of it, for any finite t, also 0.
-- Where s + t is 2^-1022 or less, a unit of 2^-1074 comes to it.
use mathlib.Core.Path.{◌≡◌, refl, sym, ap, subst, ◌∙◌}
use mathlib.Core.Bool.{Bool, true, false, true≢false, false≢true}
use mathlib.Core.Logic.{◌⊎◌, inl, inr}
use Prim.Native.Nat.{ℕ, ◌+◌, ◌-◌, ◌*◌, ◌^◌, ◌≤◌, ◌<◌}
use native.Mathlib.Omega.{arith}
use native.Mathlib.Nat.{mul-le-mul, mul-le-mul_left, mul-le-mul_right, le_of_mul-le-mul_left, le_trans}
use lib.Dec.{T, ltb, lit≤}
use lib.Pow.{pow_pos}
use lib.IntN.{nat_abs}
use lib.Ieee.{Float, nan, inf, fin, binary64, fits, round, lt, eq, le, sub, add, neg}
use lib.Ieee.Fits.{round-fits}
use borrow.Author.Tests.{ltb-true, ltb-false}
use Rattle.float.specs.Number.{◌⊖◌, is_finite}
use Rattle.float.proofs.Really.{Signed, round_signed}
use Rattle.float.proofs.Values.{Units, sub_at}
use Rattle.fdlibm.specs.Hypot.{hypotenuse}
use Rattle.fdlibm.proofs.HypotNumber.{hypotenuse_signed}
use Rattle.rounding.specs.Units.{units, size}
use Rattle.rounding.proofs.Integer.{abs_signed}
use Rattle.rounding.proofs.Units.{units_of, fin_count}
use Rattle.rounding.proofs.Grid.{grid, grid_off, round_value}
use Rattle.rounding.proofs.AtMost.{at_most_units, at_most_finite, absolute_same}
use Rattle.hypot_error.specs.Exact.{exact_square, Upper}
use Rattle.hypot_error.proofs.Root.{Root}
use Rattle.hypot_error.proofs.Scaled.{Hypot, Loose}
use Rattle.hypot_error.proofs.Hypotenuse.{hypot_near, loose, upper_of}

-- ---- floats that are not negative

pub plus_units : (x : Float) → T (fits binary64 x) → is_finite x ≡ true → Signed false x → Units x false (size x)
unfolding is_finite
plus_units nan f h s = absurd (false≢true h)
plus_units (inf t) f h s = absurd (false≢true h)
plus_units (fin t m e) f h s =
    let c = fin_count t m e f in
    let u = units_of (fin t m e) t c.count (refl, c.is) in
    subst (λ (n : ℕ). Units (fin t m e) false n) (sym (ap nat_abs u ∙ abs_signed t c.count)) (s, c.is)

-- an infinity less something finite is above t
no_infinity : (h s t : Float) → Signed false h → is_finite s ≡ true → is_finite t ≡ true → le (h ⊖ s) t ≡ true → is_finite h ≡ true
unfolding lt eq le is_finite sub add neg
no_infinity nan s t n f g l = absurd n
no_infinity (inf true) s t n f g l = absurd (true≢false n)
no_infinity (inf false) nan t n f g l = absurd (false≢true f)
no_infinity (inf false) (inf u) t n f g l = absurd (false≢true f)
no_infinity (inf false) (fin u m e) nan n f g l = absurd (false≢true l)
no_infinity (inf false) (fin u m e) (inf v) n f g l = absurd (false≢true g)
no_infinity (inf false) (fin u m e) (fin v k d) n f g l = absurd (false≢true l)
no_infinity (fin u m e) s t n f g l = refl

-- ---- h less s at most t

less_bound : (h s t : Float) (a b : ℕ) → Units h false a → Units s false b → T (fits binary64 t) → is_finite t ≡ true → le (h ⊖ s) t ≡ true → 2 ^ 53 * a ≤ 2 ^ 53 * b + (2 ^ 53 + 1) * size t
less_bound h s t a b A B f g l = go (ltb b a) refl
  where
    parts : (a b d t : ℕ) → b ≤ a → 2 ^ 53 * (d - (a - b) + (a - b - d)) ≤ d → d ≤ t → 2 ^ 53 * a ≤ 2 ^ 53 * b + (2 ^ 53 + 1) * t
    parts a b d t o p q = omega arith

    go : (c : Bool) → ltb b a ≡ c → 2 ^ 53 * a ≤ 2 ^ 53 * b + (2 ^ 53 + 1) * size t
    go false q = let o = ltb-false b a q in less a b (size t) o
      where
        less : (a b t : ℕ) → a ≤ b → 2 ^ 53 * a ≤ 2 ^ 53 * b + (2 ^ 53 + 1) * t
        less a b t o = omega arith
    go true q =
        let o : b ≤ a = let k = ltb-true b a q in omega arith in
        let r = round binary64 false (a - b) (2 ^ 1074) in
        let e = sub_at h s a b (2 ^ 1074) (pow_pos 1074) A B o in
        let m : le r t ≡ true = rw e at l in
        let S = round_signed binary64 false (a - b) (2 ^ 1074) in
        let i = at_most_finite r t S g m in
        let u = (at_most_units r t (round-fits binary64 false (a - b) (2 ^ 1074)) f g (rw (absolute_same r S) m)).1 in
        let v : nat_abs (units r) ≡ grid (a - b) = ap nat_abs (units_of r false (grid (a - b)) (round_value false (a - b) i)) in
        parts a b (grid (a - b)) (size t) o (grid_off (a - b)) (subst (λ (n : ℕ). n ≤ size t) v u)

-- ---- by parts in n: 456 of the hypotenuse and 128 of the difference

sum_parts : (n a b t : ℕ) → 0 < n → 58368 ≤ n → n * a ≤ n * b + (n + 128) * t → (n + 456) * a ≤ (n + 640) * (b + t)
sum_parts n a b t N l h =
    let p = mul-le-mul_left (n + 456) h in
    let r = mul-le-mul_right t l in
    let g : n * ((n + 456) * a) ≤ n * ((n + 640) * (b + t)) = omega arith in
    le_of_mul-le-mul_left {k = n} g N

-- a and its unit are no more than c, which is b + t or a unit more
unit_parts : (n a c : ℕ) → a + 1 ≤ c → (n + 456) * (a + 1) ≤ (n + 640) * c
unit_parts n a c h = let p = mul-le-mul_left (n + 456) h in omega arith

more_unit : (n a c : ℕ) → (n + 456) * a ≤ (n + 640) * c → (n + 456) * (a + 1) ≤ (n + 640) * (c + 1)
more_unit n a c h = omega arith

upper_640 : (w r s : ℕ) → 2 ^ 60 * 2 ^ 60 * w ≤ (2 ^ 60 + 456) * r * ((2 ^ 60 + 456) * r) → (2 ^ 60 + 456) * r ≤ (2 ^ 60 + 640) * s → Upper 5 w s
upper_640 w r s h l = upper_of (2 ^ 53) 640 5 w s (lit≤ tt) (le_trans h (mul-le-mul l l))

-- what the difference says, in parts of 2^60
more : (a b t : ℕ) → 2 ^ 53 * a ≤ 2 ^ 53 * b + (2 ^ 53 + 1) * t → 2 ^ 60 * a ≤ 2 ^ 60 * b + (2 ^ 60 + 128) * t
more a b t h = omega arith

-- ---- the laws

-- s is not negative; h may have overflowed
module _ (x y s t : Float) (fx : T (fits binary64 x)) (fy : T (fits binary64 y)) (fs : T (fits binary64 s)) (ft : T (fits binary64 t))
    (hx : is_finite x ≡ true) (hy : is_finite y ≡ true) (hs : is_finite s ≡ true) (ht : is_finite t ≡ true) (sign : Signed false s)
    (l : le (hypotenuse x y ⊖ s) t ≡ true) where
  finite : is_finite (hypotenuse x y) ≡ true
  finite = no_infinity (hypotenuse x y) s t (hypotenuse_signed x y fx fy hx hy) hs ht l

  near : Hypot (hypotenuse x y) (exact_square x y)
  near = hypot_near x y fx fy hx hy finite

  counts : (2 ^ 60 + 456) * near.count ≤ (2 ^ 60 + 640) * (size s + size t)
  counts =
      let d = less_bound (hypotenuse x y) s t near.count (size s) near.value (plus_units s fs hs sign) ft ht l in
      sum_parts (2 ^ 60) near.count (size s) (size t) (pow_pos 60) (lit≤ tt) (more near.count (size s) (size t) d)

  -- rating and tolerance together above 2^-1022
  pub hypot_within : 2 ^ 52 < size s + size t → Upper 5 (exact_square x y) (size s + size t)
  hypot_within large = go near.near
    where
      go : Root 456 (exact_square x y) near.count ⊎ ((near.count ≤ 2 ^ 52) × Loose 456 (exact_square x y) near.count) → Upper 5 (exact_square x y) (size s + size t)
      go (inl r) = upper_640 (exact_square x y) near.count (size s + size t) r.over counts
      go (inr r) = let k = r.0 in upper_640 (exact_square x y) (near.count + 1) (size s + size t) r.1.over (unit_parts (2 ^ 60) near.count (size s + size t) (omega arith))

  -- and whatever they are, with one unit
  pub hypot_within_unit : Upper 5 (exact_square x y) (size s + size t + 1)
  hypot_within_unit = upper_640 (exact_square x y) (near.count + 1) (size s + size t + 1) (loose (exact_square x y) near.count near.near).over (more_unit (2 ^ 60) near.count (size s + size t) counts)
