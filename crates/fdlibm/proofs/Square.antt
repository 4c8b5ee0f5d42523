-- The bitwise loop is the whole square root, and what is rounded from it is the nearest number.
use mathlib.Core.Path.{◌≡◌, refl, ap, subst, ◌∙◌}
use mathlib.Core.Bool.{Bool, true, false}
use Prim.Native.Nat.{ℕ, zero, suc, ◌+◌, ◌-◌, ◌*◌, ◌/◌, ◌%◌, ◌<◌, ◌≤◌, ◌^◌}
use native.Mathlib.Omega.{arith}
use native.Mathlib.Nat.{pow-suc, mul-le-mul, mul-add, add-mul, mul_comm, mul_assoc, mul_left_comm}
use lib.Dec.{leb, ltb, eqb}
use borrow.Author.Tests.{leb-true, ltb-true, ltb-false, eqb-true}
use Rattle.fdlibm.specs.declared.e_sqrt.Root.{Root}
use Rattle.fdlibm.specs.Sqrt.{next_bit, bit_by_bit, start, rounded, root_of, even_exponent}
use Rattle.fdlibm.specs.internal.Near.{Near}
use Rattle.fdlibm.proofs.Turns.{Good, good_start, good_step, turns, one_more_is}

-- q is n's root, rounded down
pub record Floor (n q : ℕ) : Type 0 where
  pub low : q * q ≤ n
  pub high : n < (q + 1) * (q + 1)

-- ---- squares
pub sq_add : (a b : ℕ) → (a + b) * (a + b) ≡ a * a + 2 * (a * b) + b * b
sq_add a b =
    let e = mul-add (a + b) a b in
    let f = add-mul a b a in
    let g = add-mul a b b in
    let h = mul_comm b a in
    omega arith

pub sq_suc : (a : ℕ) → (a + 1) * (a + 1) ≡ a * a + 2 * a + 1
sq_suc a = let e = sq_add a 1 in omega arith

sq_twice : (a : ℕ) → (2 * a) * (2 * a) ≡ 4 * (a * a)
sq_twice a =
    let e = mul_assoc 2 a (2 * a) in
    let f = mul_left_comm a 2 a in
    omega arith

pub sq_odd : (a : ℕ) → (2 * a + 1) * (2 * a + 1) ≡ 4 * (a * a) + 4 * a + 1
sq_odd a = let e = sq_suc (2 * a) in let f = sq_twice a in omega arith

-- ---- the turns
-- with k turns left: what is left, and the square of what was found, make up the whole
abbrev Whole : ℕ → Root → ℕ → Type 0
Whole k v n = v.ix * 2 ^ k + 2 * (v.q * v.q) ≡ n

taken : (q P j : ℕ) → j * 2 * P + 2 * ((q + P) * (q + P)) ≡ (q * 2 + P + j) * (P * 2) + 2 * (q * q)
taken q P j =
    let a = sq_add q P in
    let b = add-mul (q * 2 + P) j (P * 2) in
    let c = add-mul (q * 2) P (P * 2) in
    let d : q * 2 * (P * 2) ≡ 2 * (2 * (q * P)) = simp (mul_comm, mul_left_comm, mul_assoc) in
    let e : P * (P * 2) ≡ 2 * (P * P) = simp (mul_comm, mul_left_comm, mul_assoc) in
    let f : j * (P * 2) ≡ 2 * (j * P) = simp (mul_comm, mul_left_comm, mul_assoc) in
    let g : j * 2 * P ≡ 2 * (j * P) = simp (mul_comm, mul_left_comm, mul_assoc) in
    omega arith

whole_step : (k n : ℕ) (v : Root) → Good (suc k) v → Whole (suc k) v n → Whole k (next_bit (2 ^ k) v) n
whole_step k n v g w = go (leb (v.s + 2 ^ k) v.ix) refl
  where
    w' : v.ix * (2 ^ k * 2) + 2 * (v.q * v.q) ≡ n
    w' = rw (pow-suc 2 k) at w

    go : (b : Bool) → leb (v.s + 2 ^ k) v.ix ≡ b → Whole k (next_bit (2 ^ k) v) n
    go true e =
        let l = leb-true (v.s + 2 ^ k) v.ix e in
        let j = v.ix - (v.s + 2 ^ k) in
        let x : v.q * 2 + 2 ^ k + j ≡ v.ix = let t = g.twice in omega arith in
        rw e (taken v.q (2 ^ k) j ∙ ap (λ (y : ℕ). y * (2 ^ k * 2) + 2 * (v.q * v.q)) x ∙ w')
    go false e =
        let a = mul_assoc v.ix 2 (2 ^ k) in
        let b = mul_comm 2 (2 ^ k) in
        rw e (ap (λ (y : ℕ). y + 2 * (v.q * v.q)) (a ∙ ap (λ (z : ℕ). v.ix * z) b) ∙ w')

-- what the turns leave
pub record Left (n : ℕ) (v : Root) : Type 0 where
  pub whole : v.ix + 2 * (v.q * v.q) ≡ n
  pub less : v.ix < 4 * v.q + 2

through : (k n : ℕ) (v : Root) → Good k v → Whole k v n → Left n (turns k v)
unfolding bit_by_bit
through zero n v g w =
    let a = g.rest in
    let b = g.twice in
    record { whole = omega arith; less = omega arith }
through (suc k) n v g w = rw (one_more_is k v) (through k n (next_bit (2 ^ k) v) (good_step k v g) (whole_step k n v g w))

-- the 54 turns from x: q is the root of x * 2 ^ 53, rounded down, and ix twice what q * q lacks of it
pub turns_left : (x : ℕ) → x < 2 ^ 55 → Left (x * 2 ^ 54) (bit_by_bit 54 (2 ^ 53) (start x))
turns_left x h = through 54 (x * 2 ^ 54) (start x) (good_start x h) (omega arith)

left_floor : (n : ℕ) (v : Root) → Left (2 * n) v → Floor n v.q
left_floor n v l =
    let a = l.whole in
    let b = l.less in
    let c = sq_suc v.q in
    record { low = omega arith; high = omega arith }

-- ---- the rounding
-- no root of 4 * m is odd
even : (m q j : ℕ) → q * q ≡ 4 * m → q ≡ 2 * j + 1 → ⊥
even m q j e f =
    let g : (2 * j + 1) * (2 * j + 1) ≡ 4 * m = rw f at e in
    let x = sq_suc (2 * j) in
    let y = sq_twice j in
    omega arith

strict : (m p : ℕ) → 0 < m → p * p ≤ m → p * p < m + p
strict m zero h l = omega arith
strict m (suc j) h l = omega arith

half_near : (m q p : ℕ) → 0 < m → Floor (4 * m) q → p ≡ (q + 1) / 2 → Near m p
half_near m q p h f e = go (q % 2) refl
  where
    go : (r : ℕ) → q % 2 ≡ r → Near m p
    go zero z =
        let a : q ≡ 2 * p = omega arith in
        let b : 2 * p * (2 * p) ≤ 4 * m = rw a at f.low in
        let c : 4 * m < (2 * p + 1) * (2 * p + 1) = rw a at f.high in
        let s = sq_twice p in
        let t = sq_suc (2 * p) in
        record { low = strict m p h (omega arith); high = omega arith }
    go (suc r) z =
        let j = p - 1 in
        let a : q ≡ 2 * j + 1 = omega arith in
        let k : p ≡ j + 1 = omega arith in
        let b : (2 * j + 1) * (2 * j + 1) ≤ 4 * m = rw a at f.low in
        let c : 4 * m < (2 * j + 1 + 1) * (2 * j + 1 + 1) = rw a at f.high in
        let s = sq_twice j in
        let t = sq_suc (2 * j) in
        let u = sq_suc (2 * j + 1) in
        let w : p * p ≡ j * j + 2 * j + 1 = ap (λ (x : ℕ). x * x) k ∙ sq_suc j in
        record { low = omega arith; high = omega arith }

rounded_half : (m : ℕ) (v : Root) → Left (8 * m) v → rounded v / 2 ≡ (v.q + 1) / 2
rounded_half m v l = go (eqb v.ix 0) refl
  where
    go : (b : Bool) → eqb v.ix 0 ≡ b → rounded v / 2 ≡ (v.q + 1) / 2
    go true e =
        let z = eqb-true v.ix 0 e in
        let w = l.whole in
        let o : v.q ≡ 2 * (v.q / 2) + 1 → ⊥ = even m v.q (v.q / 2) (omega arith) in
        rw e (omega arith)
    go false e = rw e (omega arith)

-- the number that root_of makes of a significand
unfoldable pub found : (d : ℕ) → ℕ
found d = rounded (bit_by_bit 54 (2 ^ 53) (start (d * 2))) / 2

pub found_near : (d : ℕ) → 0 < d → d < 2 ^ 54 → Near (d * 2 ^ 52) (found d)
unfolding found
found_near d z h =
    let v = bit_by_bit 54 (2 ^ 53) (start (d * 2)) in
    let l : Left (8 * (d * 2 ^ 52)) v = subst (λ (x : ℕ). Left x v) (omega arith) (turns_left (d * 2) (omega arith)) in
    let f : Floor (4 * (d * 2 ^ 52)) v.q = left_floor (4 * (d * 2 ^ 52)) v (subst (λ (x : ℕ). Left x v) (omega arith) l) in
    half_near (d * 2 ^ 52) v.q (rounded v / 2) (omega arith) f (rounded_half (d * 2 ^ 52) v l)

-- and there is one such number
pub near_unique : (m p q : ℕ) → Near m p → Near m q → p ≡ q
near_unique m p q f g = let a = side p q f g in let b = side q p g f in omega arith
  where
    side : (p q : ℕ) → Near m p → Near m q → p ≤ q
    side p q f g = go (ltb q p) refl
      where
        go : (t : Bool) → ltb q p ≡ t → p ≤ q
        go true e =
            let l = ltb-true q p e in
            let j = p - 1 in
            let k : p ≡ j + 1 = omega arith in
            let x : q ≤ j = omega arith in
            let y = mul-le-mul x x in
            let w : p * p ≡ j * j + 2 * j + 1 = ap (λ (x : ℕ). x * x) k ∙ sq_suc j in
            let c = f.low in
            let d = g.high in
            absurd (omega arith)
        go false e = ltb-false q p e

-- of a significand from 2 ^ 52 below 2 ^ 54 - 1 it has 53 digits
pub found_digits : (d : ℕ) → 2 ^ 52 ≤ d → d ≤ 2 ^ 54 - 2 → (2 ^ 52 ≤ found d) × (found d < 2 ^ 53)
found_digits d l h = (low (ltb p (2 ^ 52)) refl, high (ltb p (2 ^ 53)) refl)
  where
    p : ℕ
    p = found d

    n : Near (d * 2 ^ 52) p
    n = found_near d (omega arith) (omega arith)

    low : (t : Bool) → ltb p (2 ^ 52) ≡ t → 2 ^ 52 ≤ p
    low false e = ltb-false p (2 ^ 52) e
    low true e =
        let x : p ≤ 2 ^ 52 - 1 = let y = ltb-true p (2 ^ 52) e in omega arith in
        let y = mul-le-mul x x in
        let z = n.high in
        absurd (omega arith)

    high : (t : Bool) → ltb p (2 ^ 53) ≡ t → p < 2 ^ 53
    high true e = ltb-true p (2 ^ 53) e
    high false e =
        let j = p - 1 in
        let k : p ≡ j + 1 = let y = ltb-false p (2 ^ 53) e in omega arith in
        let x : 2 ^ 53 - 1 ≤ j = let y = ltb-false p (2 ^ 53) e in omega arith in
        let y = mul-le-mul x x in
        let w : p * p ≡ j * j + 2 * j + 1 = ap (λ (x : ℕ). x * x) k ∙ sq_suc j in
        let z = n.low in
        absurd (omega arith)

pub root_of_found : (m e : ℕ) → root_of m e ≡ found (even_exponent m e) + e / 2 * 2 ^ 52
unfolding found
root_of_found m e = refl

pub evened_in : (m e : ℕ) → 2 ^ 52 ≤ m → m < 2 ^ 53 → (2 ^ 52 ≤ even_exponent m e) × (even_exponent m e ≤ 2 ^ 54 - 2)
evened_in m e l h = go (eqb (e % 2) 1) refl
  where
    go : (b : Bool) → eqb (e % 2) 1 ≡ b → (2 ^ 52 ≤ even_exponent m e) × (even_exponent m e ≤ 2 ^ 54 - 2)
    go true q = rw q (omega arith, omega arith)
    go false q = rw q (omega arith, omega arith)

-- the root of a normal number, from any p that is near
pub root_near : (m e p : ℕ) → 2 ^ 52 ≤ m → m < 2 ^ 53 → Near (even_exponent m e * 2 ^ 52) p → root_of m e ≡ p + e / 2 * 2 ^ 52
root_near m e p l h n =
    let d = even_exponent m e in
    let b = evened_in m e l h in
    let f = found_near d (omega (arith, b.0)) (omega (arith, b.1)) in
    root_of_found m e ∙ ap (λ (x : ℕ). x + e / 2 * 2 ^ 52) (near_unique (d * 2 ^ 52) (found d) p f n)
