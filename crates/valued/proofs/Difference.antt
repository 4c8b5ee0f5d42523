-- Two accepted angles differ by an argument that a sine or cosine takes: each is at most 1,024 in size, so the difference is at most 2,048, and rounding keeps the order.
use mathlib.Core.Path.{◌≡◌, refl, sym, subst}
use mathlib.Core.Bool.{Bool, true, false, cond, not, ◌&&◌, ◌||◌, beq, true≢false, false≢true}
use Prim.Native.Nat.{ℕ, ◌+◌, ◌-◌, ◌*◌, ◌≤◌, ◌<◌}
use native.Mathlib.Omega.{arith}
use native.Mathlib.Nat.{mul_assoc, mul_comm, mul-pos, mul-le-mul_right}
use lib.Dec.{ltb, eqb}
use lib.IntN.{pos}
use lib.Ieee.{Float, nan, inf, fin, binary64, up, down, neg, odd, size, units, round, sum, add, sub, lt, eq, le, of_bits, of_fields}
use lib.Ieee.Bits.{is_true}
use lib.Ieee.Fits.{down_pos}
use lib.Ieee.Order.{round_mono}
use borrow.Author.Tests.{ltb-true, ltb-false, eqb-true, lt-ltb, eq-eqb}
use Rattle.float.specs.Number.{◌⊖◌}
use Rattle.float.proofs.Really.{Signed, round_signed}
use Rattle.float.proofs.Negated.{round_neg}
use Rattle.bounds.specs.Bounds.{swing64, angle_right}
use Rattle.valued.proofs.Constants.{and_both}
use Rattle.expression.specs.Value.{argument_limit, inside}

-- ---- the two limits

swing_is : swing64 ≡ fin false 1 (pos 10)
unfolding of_bits of_fields odd
swing_is = refl

limit_is : argument_limit ≡ fin false 1 (pos 12)
unfolding of_bits of_fields odd
limit_is = refl

limit_rounds : round binary64 false 4096 1 ≡ fin false 1 (pos 12)
unfolding round units odd size
limit_rounds = refl

-- ---- tests

-- what an order of two numbers of one sign says of their sizes, and the other way round
sizes : (a b : ℕ) (level c : Bool) → (level ≡ true → a ≡ b) → ltb a b || (level && c) ≡ true → a ≤ b
sizes a b level c q h = go (ltb a b) level refl refl h
  where
    go : (l m : Bool) → ltb a b ≡ l → level ≡ m → l || (m && c) ≡ true → a ≤ b
    go true m e f h = omega (arith, ltb-true a b e)
    go false true e f h = omega (arith, q f)
    go false false e f h = absurd (false≢true h)

of_sizes : (a b : ℕ) (level : Bool) → (a ≡ b → level ≡ true) → a ≤ b → ltb a b || (level && true) ≡ true
of_sizes a b level q h = go (ltb a b) refl
  where
    go : (l : Bool) → ltb a b ≡ l → l || (level && true) ≡ true
    go true e = refl
    go false e = rw (q (omega (arith, ltb-false a b e)))

-- ---- an accepted angle's size

abbrev Small : Float → Type 0
Small nan = ⊥
Small (inf s) = ⊥
Small (fin s m e) = m * up e ≤ 1024 * down e

small_by : (x : Float) → le (neg (fin false 1 (pos 10))) x ≡ true → le x (fin false 1 (pos 10)) ≡ true → Small x
unfolding le lt eq neg
small_by nan h k = false≢true h
small_by (inf true) h k = false≢true h
small_by (inf false) h k = false≢true k
small_by (fin true m e) h k = let l = sizes (m * up e * 1) (1024 * down e) (eqb (1024 * down e) (m * up e * 1)) true (λ q. sym (eqb-true _ _ q)) h in omega (arith, l)
small_by (fin false m e) h k = let l = sizes (m * up e * 1) (1024 * down e) (eqb (m * up e * 1) (1024 * down e)) true (eqb-true _ _) k in omega (arith, l)

small : (x : Float) → angle_right x ≡ true → Small x
unfolding angle_right
small x h =
    let p = and_both (le (neg swing64) x) (le x swing64) h in
    small_by x (subst (λ (y : Float). le (neg y) x ≡ true) swing_is p.0) (subst (λ (y : Float). le x y ≡ true) swing_is p.1)

pub nan_not_right : angle_right nan ≡ true → ⊥
nan_not_right = small nan

-- ---- a rounded fraction of at most 4,096

abbrev Limited : Float → Type 0
Limited x = le (neg (fin false 1 (pos 12))) x && le x (fin false 1 (pos 12)) ≡ true

-- a number that is not negative, and its negation
with_sign : (z : Float) → Signed false z → le z (fin false 1 (pos 12)) ≡ true → Limited z × Limited (neg z)
unfolding le lt eq neg
with_sign nan s h = absurd s
with_sign (inf true) s h = absurd (true≢false s)
with_sign (inf false) s h = absurd (false≢true h)
with_sign (fin true m e) s h = absurd (true≢false s)
with_sign (fin false m e) s h =
    let a = m * up e * 1 in
    let b = 4096 * down e in
    let p : 0 < b + a = omega (arith, down_pos e) in
    let q : 0 < a + b = omega (arith, p) in
    (rw (lt-ltb 0 (b + a) p, h), rw (of_sizes a b (eqb b a) (λ e. eq-eqb b a (sym e)) (sizes a b (eqb a b) true (eqb-true a b) h), lt-ltb 0 (a + b) q))

rounds_limited : (s : Bool) (n c : ℕ) → 0 < c → n ≤ 4096 * c → Limited (round binary64 s n c)
rounds_limited s n c C h =
    let z = round binary64 false n c in
    let l : le z (fin false 1 (pos 12)) ≡ true = subst (λ (y : Float). le z y ≡ true) limit_rounds (is_true _ (round_mono binary64 n c 4096 1 C (omega arith) (omega (arith, h)))) in
    go s (with_sign z (round_signed binary64 false n c) l)
  where
    go : (s : Bool) → Limited (round binary64 false n c) × Limited (neg (round binary64 false n c)) → Limited (round binary64 s n c)
    go false p = p.0
    go true p = rw (round_neg binary64 false n c) p.1

-- ---- the difference

limited_cond : (b : Bool) (x y : Float) → Limited x → Limited y → Limited (cond b x y)
limited_cond true x y h k = h
limited_cond false x y h k = k

sum_limited : (s t : Bool) (a b c : ℕ) → 0 < c → a ≤ 1024 * c → b ≤ 1024 * c → Limited (sum binary64 s a t b c)
unfolding sum
sum_limited s t a b c C h k =
    limited_cond (beq s t) (round binary64 s (a + b) c) (cond (ltb a b) (round binary64 t (b - a) c) (round binary64 (s && ltb b a) (a - b) c))
    (rounds_limited s (a + b) c C (omega (arith, h, k)))
    (limited_cond (ltb a b) (round binary64 t (b - a) c) (round binary64 (s && ltb b a) (a - b) c)
    (rounds_limited t (b - a) c C (omega (arith, k))) (rounds_limited (s && ltb b a) (a - b) c C (omega (arith, h))))

difference_limited : (x y : Float) → Small x → Small y → Limited (x ⊖ y)
unfolding sub add neg
difference_limited nan y h k = absurd h
difference_limited (inf s) y h k = absurd h
difference_limited (fin s m e) nan h k = absurd k
difference_limited (fin s m e) (inf t) h k = absurd k
difference_limited (fin s m e) (fin t n d) h k =
    let p : m * up e * down d ≤ 1024 * (down e * down d) = rw (mul_assoc 1024 (down e) (down d)) at (mul-le-mul_right (down d) h) in
    let q : n * up d * down e ≤ 1024 * (down e * down d) = rw (mul_assoc 1024 (down d) (down e), mul_comm (down d) (down e)) at (mul-le-mul_right (down e) k) in
    sum_limited s (not t) (m * up e * down d) (n * up d * down e) (down e * down d) (mul-pos (down_pos e) (down_pos d)) p q

-- "so that no difference of two accepted angles is refused"
pub difference_inside : (x y : Float) → angle_right x ≡ true → angle_right y ≡ true → inside (x ⊖ y) ≡ true
unfolding inside
difference_inside x y h k = subst (λ (l : Float). le (neg l) (x ⊖ y) && le (x ⊖ y) l ≡ true) (sym limit_is) (difference_limited x y (small x h) (small y k))
