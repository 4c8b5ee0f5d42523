-- Where p^2 + q^2 is below s^2 * (1 - 2^-40), all rounded, the hypotenuse of p and q is at most s.
use mathlib.Core.Path.{◌≡◌, refl, sym, ap, subst, ◌∙◌}
use mathlib.Core.Bool.{Bool, true, false, ◌&&◌, true≢false, false≢true}
use Prim.Native.Nat.{ℕ, zero, suc, ◌+◌, ◌-◌, ◌*◌, ◌^◌, ◌≤◌, ◌<◌}
use native.Mathlib.Omega.{arith}
use native.Mathlib.Nat.{le_trans, mul-pos, mul-le-mul, mul-le-mul_left, mul-le-mul_right, mul-lt-mul_of_pos_right, le_of_mul-le-mul_left, add-mul}
use lib.IntN.{nat_abs}
use lib.Dec.{T, ltb, lit≤}
use lib.Pow.{pow_pos}
use lib.Ieee.{Float, nan, inf, fin, binary64, of_bits, fits, lt, le, mul, add, unlike}
use lib.Ieee.Bits.{is_true, of_bits-fits}
use lib.Ieee.Fits.{add-fits, mul-fits}
use lib.Ieee.Order.{le_of_values}
use borrow.Author.Tests.{ltb-true, ltb-false}
use Rattle.float.specs.Number.{◌⊕◌, ◌⊗◌, is_finite}
use Rattle.float.proofs.Really.{Signed, signed_number}
use Rattle.float.proofs.Signs.{add_signed, square_signed}
use Rattle.float.proofs.Values.{Units}
use Rattle.fdlibm.specs.Hypot.{hypotenuse}
use Rattle.rounding.specs.Units.{units, size}
use Rattle.rounding.proofs.Units.{units_of, units_whole}
use Rattle.rounding.proofs.Integer.{abs_signed}
use Rattle.rounding.proofs.AtMost.{absolute_same, at_most_units}
use Rattle.rounding.proofs.Folds.{add_finite}
use Rattle.rounding.proofs.Products.{mul_finite}
use Rattle.rounding.proofs.Near.{Near, chain, near_add, near_then, near_scale}
use Rattle.rounding.proofs.Counts.{Sum, Times, add_like, mul_near}
use Rattle.hypot_error.specs.Exact.{exact_square}
use Rattle.hypot_error.specs.internal.Quick.{nearly64, floor64, ceiling64, far_below}
use Rattle.hypot_error.proofs.Hypotenuse.{hypot_near, loose}
use Rattle.hypot_error.proofs.Within.{plus_units}
use Rattle.hypot_error.proofs.Finite.{hypot_finite}

-- ---- what is finite

between_finite : (c : Float) → lt floor64 c ≡ true → lt c ceiling64 ≡ true → (is_finite c ≡ true) × Signed false c
unfolding lt is_finite of_bits
between_finite nan l h = absurd (false≢true l)
between_finite (inf true) l h = absurd (false≢true l)
between_finite (inf false) l h = absurd (false≢true h)
between_finite (fin true m e) l h = absurd (false≢true l)
between_finite (fin false m e) l h = (refl, refl)

below_finite : (x c : Float) → Signed false x → is_finite c ≡ true → lt x c ≡ true → is_finite x ≡ true
unfolding lt is_finite
below_finite nan c s h l = absurd s
below_finite (inf true) c s h l = absurd (true≢false s)
below_finite (inf false) nan s h l = absurd (false≢true l)
below_finite (inf false) (inf t) s h l = absurd (false≢true l)
below_finite (inf false) (fin t n d) s h l = absurd (false≢true l)
below_finite (fin t m e) c s h l = refl

nan_below : (c : Float) → lt nan c ≡ false
unfolding lt
nan_below c = refl

nan_square : nan ⊗ nan ≡ nan
unfolding mul
nan_square = refl

add_nan : (x : Float) → x ⊕ nan ≡ nan
unfolding add
add_nan nan = refl
add_nan (inf s) = refl
add_nan (fin s m e) = refl

nan_add : (y : Float) → nan ⊕ y ≡ nan
unfolding add
nan_add y = refl

-- a sum of squares that is below something is a number, and not negative
squares_signed : (p q c : Float) → lt (p ⊗ p ⊕ q ⊗ q) c ≡ true → Signed false (p ⊗ p ⊕ q ⊗ q)
squares_signed nan q c l = absurd (false≢true (sym (ap (λ (x : Float). lt (x ⊕ q ⊗ q) c) nan_square ∙ ap (λ (x : Float). lt x c) (nan_add (q ⊗ q)) ∙ nan_below c) ∙ l))
squares_signed (inf s) nan c l = absurd (false≢true (sym (ap (λ (x : Float). lt (inf s ⊗ inf s ⊕ x) c) nan_square ∙ ap (λ (x : Float). lt x c) (add_nan (inf s ⊗ inf s)) ∙ nan_below c) ∙ l))
squares_signed (fin s m e) nan c l = absurd (false≢true (sym (ap (λ (x : Float). lt (fin s m e ⊗ fin s m e ⊕ x) c) nan_square ∙ ap (λ (x : Float). lt x c) (add_nan (fin s m e ⊗ fin s m e)) ∙ nan_below c) ∙ l))
squares_signed (inf s) (inf t) c l = add_signed false (inf s ⊗ inf s) (inf t ⊗ inf t) (square_signed (inf s) (signed_number s (inf s) refl)) (square_signed (inf t) (signed_number t (inf t) refl))
squares_signed (inf s) (fin t n d) c l = add_signed false (inf s ⊗ inf s) (fin t n d ⊗ fin t n d) (square_signed (inf s) (signed_number s (inf s) refl)) (square_signed (fin t n d) (signed_number t (fin t n d) refl))
squares_signed (fin s m e) (inf t) c l = add_signed false (fin s m e ⊗ fin s m e) (inf t ⊗ inf t) (square_signed (fin s m e) (signed_number s (fin s m e) refl)) (square_signed (inf t) (signed_number t (inf t) refl))
squares_signed (fin s m e) (fin t n d) c l = add_signed false (fin s m e ⊗ fin s m e) (fin t n d ⊗ fin t n d) (square_signed (fin s m e) (signed_number s (fin s m e) refl)) (square_signed (fin t n d) (signed_number t (fin t n d) refl))

-- ---- counts in order

lt_le : (x y : Float) → lt x y ≡ true → le x y ≡ true
unfolding le
lt_le x y h = rw h

-- x not negative and below y
below_size : (x y : Float) → T (fits binary64 x) → T (fits binary64 y) → is_finite y ≡ true → Signed false x → lt x y ≡ true → size x ≤ size y
below_size x y f g h s l = (at_most_units x y f g h (rw (absolute_same x s) (lt_le x y l))).1

-- ---- whole numbers: w the sum of the squares, s the square of the rating, d = 2^1074, k = 2^40 and n = 2^60

-- a * k is g less g / k
shrunk : (n k w a g s d : ℕ) → 0 < n → 0 < k → 2 * (519 * k) ≤ n → 50181 ≤ n → k * a + g ≡ k * g → n * w ≤ (n + 389) * a + n * (10 * d) → n * g ≤ (n + 129) * s + n * d → 88 * (k * d) ≤ s
    → 4 * (k * w) ≤ (4 * k - 1) * s
shrunk n k w a g s d N K l o e h i r =
    let j = k - 1 in
    let f : k ≡ j + 1 = omega arith in
    let y : k * a ≡ j * g = less k j a g f e in
    let p : n * (k * w) ≤ (n + 389) * (j * g) + n * (k * (10 * d)) = let m = mul-le-mul_left k h in times n k w a (j * g) d y m in
    let q : n * (j * g) ≤ (n + 129) * (j * s) + n * (k * d) = let m = mul-le-mul_left j i in weaker n j k g s d f m in
    let c = chain n 389 129 (k * (10 * d)) (k * d) (k * w) (j * g) (j * s) N o (omega arith) p q in
    last n k j w s d N f l r c
  where
    less : (k j a g : ℕ) → k ≡ j + 1 → k * a + g ≡ k * g → k * a ≡ j * g
    less k j a g f e = let m : k * g ≡ (j + 1) * g = ap (λ (x : ℕ). x * g) f in omega arith

    times : (n k w a y d : ℕ) → k * a ≡ y → k * (n * w) ≤ k * ((n + 389) * a + n * (10 * d)) → n * (k * w) ≤ (n + 389) * y + n * (k * (10 * d))
    times n k w a y d e h = let m : (n + 389) * (k * a) ≡ (n + 389) * y = ap (λ (x : ℕ). (n + 389) * x) e in omega arith

    weaker : (n j k g s d : ℕ) → k ≡ j + 1 → j * (n * g) ≤ j * ((n + 129) * s + n * d) → n * (j * g) ≤ (n + 129) * (j * s) + n * (k * d)
    weaker n j k g s d f h =
        let m : j * (n * d) ≤ k * (n * d) = mul-le-mul_right (n * d) (omega arith) in
        omega arith

    last : (n k j w s d : ℕ) → 0 < n → k ≡ j + 1 → 2 * (519 * k) ≤ n → 88 * (k * d) ≤ s → n * (k * w) ≤ (n + (389 + 129 + 1)) * (j * s) + n * (2 * (k * (10 * d) + k * d)) → 4 * (k * w) ≤ (4 * k - 1) * s
    last n k j w s d N f l r c =
        let a : 2 * (519 * k) * s ≤ n * s = mul-le-mul_right s l in
        let b : k * s ≡ (j + 1) * s = ap (λ (x : ℕ). x * s) f in
        let e = mul-le-mul_left n r in
        let t : 4 * k - 1 ≡ 4 * j + 3 = omega arith in
        let g : n * (4 * (k * w)) ≤ n * ((4 * j + 3) * s) = omega arith in
        rw t (le_of_mul-le-mul_left {k = n} g N)

-- and the hypotenuse is at most the rating
at_most_rating : (n c k j w s h : ℕ) → 0 < s → c * c * j < k * (n * n) → k * w ≤ j * (s * s) → n * n * ((h - 1) * (h - 1)) ≤ c * c * w → h ≤ s
at_most_rating n c k j w s h S l p q = go (ltb s h) refl
  where
    cross : (n c k j w s : ℕ) → 0 < s * s → c * c * j < k * (n * n) → k * w ≤ j * (s * s) → n * n * (s * s) ≤ c * c * w → ⊥
    cross n c k j w s S l p q =
        let a = mul-le-mul_left k q in
        let b = mul-le-mul_left (c * c) p in
        let d = mul-lt-mul_of_pos_right l S in
        omega arith

    go : (t : Bool) → ltb s h ≡ t → h ≤ s
    go true e =
        let o : s ≤ h - 1 = let m = ltb-true s h e in omega arith in
        absurd (cross n c k j w s (mul-pos S S) l p (le_trans (mul-le-mul_left (n * n) (mul-le-mul o o)) q))
    go false e = ltb-false s h e

-- a rating whose square is not small
rating_large : (a g s d c : ℕ) → a ≤ g → 2 ^ 60 * (c * d) ≤ (2 ^ 60 + 129) * a + 2 ^ 60 * d → 2 ^ 60 * g ≤ (2 ^ 60 + 129) * s + 2 ^ 60 * d → 2 ^ 60 ≤ c → 0 < d → (88 * (2 ^ 40 * d) ≤ s) × (0 < s)
rating_large a g s d c l h i o D = large (c * d) a g s d l (twice (c * d) a d h) (twice g s d i) (mul-le-mul_right d o) D
  where
    twice : (x a d : ℕ) → 2 ^ 60 * x ≤ (2 ^ 60 + 129) * a + 2 ^ 60 * d → x ≤ 2 * a + d
    twice x a d h = omega arith

    large : (x a g s d : ℕ) → a ≤ g → x ≤ 2 * a + d → g ≤ 2 * s + d → 2 ^ 60 * d ≤ x → 0 < d → (88 * (2 ^ 40 * d) ≤ s) × (0 < s)
    large x a g s d l p q r D = (omega arith, omega arith)

-- ---- the hypotenuse is at most the rating

nearly_units : Units nearly64 false ((2 ^ 40 - 1) * 2 ^ 1034)
unfolding of_bits
nearly_units = (refl, refl)

-- g times 1 - 2^-40
nearly_parts : (g j d e : ℕ) → 2 ^ 40 * e ≡ d → 2 ^ 40 * (g * (j * e)) + g * d ≡ (j + 1) * (g * d)
nearly_parts g j d e h =
    let m : 2 ^ 40 * e * (g * j) ≡ d * (g * j) = ap (λ (x : ℕ). x * (g * j)) h in
    omega arith

nearly_less : (g j d e : ℕ) → j ≤ 2 ^ 40 → 2 ^ 40 * e ≡ d → g * (j * e) ≤ g * d
nearly_less g j d e l h = mul-le-mul_left g (subst (λ (x : ℕ). j * e ≤ x) h (mul-le-mul_right e l))

floor_large : 2 ^ 60 ≤ size floor64
unfolding units of_bits
floor_large = lit≤ tt

ceiling_small : size ceiling64 ≤ 2 ^ 2034
unfolding units of_bits
ceiling_small = lit≤ tt

pub record AtMost (h s : Float) : Type 0 where
  pub count : ℕ
  pub value : Units h false count
  pub rating : Units s false (size s)
  pub least : count ≤ size s

like_self : (s : Bool) → unlike s s ≡ false
like_self true = refl
like_self false = refl

square_times : (p : Float) → T (fits binary64 p) → is_finite (p ⊗ p) ≡ true → Times (p ⊗ p) false (size p * size p)
square_times p f h =
    let w = units_whole p f (mul_finite p p h).0 in
    let m = mul_near p p w.negative w.negative w.count w.count w.value w.value h in
    let e : size p ≡ w.count = ap nat_abs w.are ∙ abs_signed w.negative w.count in
    rw (e, ← like_self w.negative) m

and_left : (b c : Bool) → b && c ≡ true → b ≡ true
and_left true c h = refl
and_left false c h = absurd (false≢true h)

and_right : (b c : Bool) → b && c ≡ true → c ≡ true
and_right true c h = h
and_right false c h = absurd (false≢true h)

-- the sum of the squares, by the count of c that the rounded sum is below
sum_below : (w x c d : ℕ) → x ≤ c → 2 ^ 60 * w ≤ (2 ^ 60 + 259) * (x * d) + 2 ^ 60 * (4 * d) → 2 ^ 60 * w ≤ (2 ^ 60 + 259) * (c * d) + 2 ^ 60 * (4 * d)
sum_below w x c d l h = let p = mul-le-mul_left (2 ^ 60 + 259) (mul-le-mul_right d l) in omega arith

bounded : (w c d m : ℕ) → c ≤ m → 2 ^ 60 * w ≤ (2 ^ 60 + 259) * (c * d) + 2 ^ 60 * (4 * d) → w ≤ (2 * m + 4) * d
bounded w c d m l h =
    let p = mul-le-mul_right d l in
    let q = go w (c * d) d h in
    omega (arith, p, q)
  where
    go : (w x d : ℕ) → 2 ^ 60 * w ≤ (2 ^ 60 + 259) * x + 2 ^ 60 * (4 * d) → w ≤ 2 * x + 4 * d
    go w x d h = omega arith

floor_signed : Signed false floor64
unfolding of_bits
floor_signed = refl

ceiling_finite : is_finite ceiling64 ≡ true
unfolding of_bits is_finite
ceiling_finite = refl

positive : (s : ℕ) → 0 < s * s → 0 < s
positive zero h = h
positive (suc s) h = omega arith

flat : (w r : ℕ) → 4 * (2 ^ 40 * w) ≤ (4 * 2 ^ 40 - 1) * r → 4 * 2 ^ 40 * w ≤ (4 * 2 ^ 40 - 1) * r
flat w r h = omega arith

-- the rounded sum of two rounded products
sum_near : {x y z : Float} {s t u : Bool} {a b : ℕ} (m : Times x s a) (n : Times y t b) (r : Sum z u (m.count + n.count)) → Near 259 (4 * 2 ^ 1074) (a + b) (r.count * 2 ^ 1074)
sum_near {a = a} {b = b} m n r =
    let k : Near 129 (2 * 2 ^ 1074) (a + b) ((m.count + n.count) * 2 ^ 1074) = rw (add-mul m.count n.count (2 ^ 1074)) (near_add m.near n.near) in
    near_then (lit≤ tt) (lit≤ tt) (lit≤ tt) k (near_scale (2 ^ 1074) r.near)

pub quick_at_most : (p q s : Float) → T (fits binary64 p) → T (fits binary64 q) → T (fits binary64 s) → Signed false s → far_below p q s ≡ true → AtMost (hypotenuse p q) s
quick_at_most p q s fp fq fs sign test =
    let d = 2 ^ 1074 in
    let c = s ⊗ s ⊗ nearly64 in
    let sum = p ⊗ p ⊕ q ⊗ q in
    let t1 = and_left (lt sum c && lt floor64 c) (lt c ceiling64) test in
    let below = and_left (lt sum c) (lt floor64 c) t1 in
    let above = and_right (lt sum c) (lt floor64 c) t1 in
    let under = and_right (lt sum c && lt floor64 c) (lt c ceiling64) test in
    let C = between_finite c above under in
    let F = mul_finite (s ⊗ s) nearly64 C.0 in
    let hs = (mul_finite s s F.0).0 in
    let S = plus_units s fs hs sign in
    let G = mul_near s s false false (size s) (size s) S S F.0 in
    let M = mul_near (s ⊗ s) nearly64 false false G.count ((2 ^ 40 - 1) * 2 ^ 1034) G.value nearly_units C.0 in
    let P = squares_signed p q c below in
    let f = below_finite sum c P C.0 below in
    let g = add_finite (p ⊗ p) (q ⊗ q) f in
    let X = square_times p fp g.0 in
    let Y = square_times q fq g.1 in
    let Z = add_like (p ⊗ p) (q ⊗ q) false X.count Y.count X.value Y.value f in
    let w = exact_square p q in
    let k = sum_near X Y Z in
    let zc : Z.count ≤ M.count = counts sum c Z.count M.count Z.value M.value (below_size sum c (add-fits binary64 (p ⊗ p) (q ⊗ q)) (mul-fits binary64 (s ⊗ s) nearly64) C.0 P below) in
    let a = sum_below w Z.count M.count d zc k.to.bound in
    main p q s fp fq S (mul_finite p p g.0).0 (mul_finite q q g.1).0 G.count M.count a M.near.from.bound G.near.from.bound
    (counts_right c M.count M.value (below_size floor64 c (of_bits-fits binary64 _) (mul-fits binary64 (s ⊗ s) nearly64) C.0 floor_signed above))
    (counts_left c M.count M.value (below_size c ceiling64 (mul-fits binary64 (s ⊗ s) nearly64) (of_bits-fits binary64 _) ceiling_finite C.1 under))
  where
    counts : (x y : Float) (a b : ℕ) → Units x false a → Units y false b → size x ≤ size y → a ≤ b
    counts x y a b u v l = rw (ap nat_abs (units_of x false a u), ap nat_abs (units_of y false b v)) at l

    counts_right : (y : Float) (b : ℕ) → Units y false b → size floor64 ≤ size y → 2 ^ 60 ≤ b
    counts_right y b v l = subst (λ (n : ℕ). 2 ^ 60 ≤ n) (ap nat_abs (units_of y false b v)) (le_trans floor_large l)

    counts_left : (x : Float) (a : ℕ) → Units x false a → size x ≤ size ceiling64 → a ≤ 2 ^ 2034
    counts_left x a u l = subst (λ (n : ℕ). n ≤ 2 ^ 2034) (ap nat_abs (units_of x false a u)) (le_trans l ceiling_small)

    main : (p q s : Float) → T (fits binary64 p) → T (fits binary64 q) → Units s false (size s) → is_finite p ≡ true → is_finite q ≡ true → (g c : ℕ)
        → 2 ^ 60 * exact_square p q ≤ (2 ^ 60 + 259) * (c * 2 ^ 1074) + 2 ^ 60 * (4 * 2 ^ 1074)
        → 2 ^ 60 * (c * 2 ^ 1074) ≤ (2 ^ 60 + 129) * (g * ((2 ^ 40 - 1) * 2 ^ 1034)) + 2 ^ 60 * 2 ^ 1074
        → 2 ^ 60 * (g * 2 ^ 1074) ≤ (2 ^ 60 + 129) * (size s * size s) + 2 ^ 60 * 2 ^ 1074
        → 2 ^ 60 ≤ c → c ≤ 2 ^ 2034 → AtMost (hypotenuse p q) s
    main p q s fp fq S hp hq g c a b e l u =
        let d = 2 ^ 1074 in
        let w = exact_square p q in
        let x = g * ((2 ^ 40 - 1) * 2 ^ 1034) in
        let y = g * d in
        let r = size s * size s in
        let i = chain (2 ^ 60) 259 129 (4 * d) d w (c * d) x (pow_pos 60) (lit≤ tt) (lit≤ tt) a b in
        let j = rating_large x y r d c (nearly_less g (2 ^ 40 - 1) d (2 ^ 1034) (lit≤ tt) refl) b e l (pow_pos 1074) in
        let k = shrunk (2 ^ 60) (2 ^ 40) w x y r d (pow_pos 60) (pow_pos 40) (lit≤ tt) (lit≤ tt) (nearly_parts g (2 ^ 40 - 1) d (2 ^ 1034) refl) i e j.0 in
        let h = hypot_near p q fp fq hp hq (hypot_finite p q fp fq hp hq (le_trans (bounded w c d (2 ^ 2034) u a) (lit≤ tt))) in
        record {
          count = h.count;
          value = h.value;
          rating = S;
          least = at_most_rating (2 ^ 60) (2 ^ 60 + 456) (4 * 2 ^ 40) (4 * 2 ^ 40 - 1) w (size s) h.count (positive (size s) j.1) (lit≤ tt) (flat w r k) (loose w h.count h.near).under;
        }

pub quick_below : (p q s : Float) → T (fits binary64 p) → T (fits binary64 q) → T (fits binary64 s) → Signed false s → far_below p q s ≡ true → le (hypotenuse p q) s ≡ true
quick_below p q s fp fq fs sign test =
    let a = quick_at_most p q s fp fq fs sign test in
    is_true _ (le_of_values (hypotenuse p q) s a.count (2 ^ 1074) (size s) (2 ^ 1074) (pow_pos 1074) (pow_pos 1074) a.value a.rating (mul-le-mul_right (2 ^ 1074) a.least))
