-- The square root is correctly rounded at every finite x >= 0 (`root_rounded`): a zero is its own root, sign and all, and of any other the root is `Nearest`,
-- so that no double is nearer to the true root (`closest`).
use mathlib.Core.Path.{◌≡◌, refl, sym, ap, subst, ◌∙◌}
use mathlib.Core.Bool.{Bool, true, false, ◌&&◌, false≢true}
use mathlib.Core.Logic.{◌⊎◌, inl, inr}
use Prim.Native.Nat.{ℕ, zero, suc, ◌+◌, ◌-◌, ◌*◌, ◌/◌, ◌%◌, ◌<◌, ◌≤◌, ◌^◌}
use native.Mathlib.Omega.{arith}
use native.Mathlib.Nat.{eq_of_mul-eq-mul_right, zero-mul, pow-suc, mul-one, mul-le-mul_left, mul-le-mul_right, mul-le-mul, add-mul, lt_of_mul-lt-mul_right, mul_assoc, mul_comm, mul_left_comm, mul_right_comm, mul-lt-mul_of_pos_right, mul-pos}
use lib.Pow.{pow-add, pow_pos, pow-lt}
use lib.Dec.{T, ltb, leb, eqb, ltb→lt, leb→le}
use lib.IntN.{ℤ, pos, negsuc}
use lib.Ieee.Fits.{and_l, and_r, up_pos, down_pos}
use lib.Ieee.Digits.{back}
use lib.Ieee.{Float, nan, inf, fin, up, down, binary64, to_bits, of_bits, fits, neg, le, eq}
use lib.Ieee.Exact.{HasValue}
use lib.Ieee.Bits.{of_bits-to_bits}
use borrow.Author.Tests.{lt-leb, ne_eqb, eq-eqb, ltb-true, ltb-false, leb-true, leb-false, eqb-true, eqb-false}
use Rattle.float.specs.Number.{is_finite, absolute}
use Rattle.float.proofs.Patterns.{normal_value, subnormal_value, zero_bits, absolute_bits, finite_bits_is}
use Rattle.fdlibm.specs.Sqrt.{square_root, root_of, normalized, even_exponent}
use Rattle.fdlibm.specs.Near.{Nearest}
use Rattle.fdlibm.specs.internal.Near.{Near}
use Rattle.fdlibm.proofs.Turns.{norm_up, norm_same, norm_none}
use Rattle.fdlibm.proofs.Quick.{root_normal}
use Rattle.fdlibm.proofs.Square.{sq_add, sq_suc, sq_odd, found, found_near, found_digits, root_of_found, evened_in}

-- ---- the root of m * 2 ^ e / 2 ^ 2096, m of 53 digits
-- the exponent's two halves
halves : (m e : ℕ) → m * 2 ^ e ≡ even_exponent m e * (2 ^ (e / 2) * 2 ^ (e / 2))
halves m e = go (e % 2) refl
  where
    Q : ℕ
    Q = 2 ^ (e / 2)

    go : (r : ℕ) → e % 2 ≡ r → m * 2 ^ e ≡ even_exponent m e * (Q * Q)
    go zero z =
        let n : e % 2 ≡ 1 → ⊥ = λ q. omega arith in
        let a : e ≡ e / 2 + e / 2 = omega arith in
        rw (ne_eqb (e % 2) 1 n) (ap (λ (x : ℕ). m * 2 ^ x) a ∙ ap (λ (x : ℕ). m * x) (pow-add 2 (e / 2) (e / 2)))
    go (suc r) z =
        let n : e % 2 ≡ 1 = omega arith in
        let a : e ≡ 1 + (e / 2 + e / 2) = omega arith in
        rw (eq-eqb (e % 2) 1 n) (ap (λ (x : ℕ). m * 2 ^ x) a ∙ ap (λ (x : ℕ). m * x) (pow-add 2 1 (e / 2 + e / 2) ∙ ap (λ (x : ℕ). 2 * x) (pow-add 2 (e / 2) (e / 2))) ∙ sym (mul_assoc m 2 (Q * Q)))

spread : (a Q : ℕ) → a * Q * (a * Q) ≡ a * a * (Q * Q)
spread a Q = simp (mul_assoc, mul_left_comm, mul_comm)

low_side : (M p : ℕ) → 0 < p → Near M p → (2 * p - 1) * (2 * p - 1) < 4 * M
low_side M p z n =
    let j = p - 1 in
    let k : p ≡ j + 1 = omega arith in
    let o : 2 * p - 1 ≡ 2 * j + 1 = omega arith in
    let w : p * p ≡ j * j + 2 * j + 1 = ap (λ (x : ℕ). x * x) k ∙ sq_suc j in
    let s = sq_odd j in
    let c = n.low in
    rw o (omega arith)

high_side : (M p : ℕ) → Near M p → 4 * M < (2 * p + 1) * (2 * p + 1)
high_side M p n = let s = sq_odd p in let c = n.high in omega arith

made : (x : Float) (X m e : ℕ) → HasValue x false X (2 ^ 1074) → 2 ^ 52 ≤ m → m < 2 ^ 53 → e / 2 < 2046 → X * 2 ^ 1022 ≡ m * 2 ^ e → Nearest x (of_bits binary64 (root_of m e))
made x X m e v l h u s =
    record {
      size = X;
      p = p;
      k = k;
      of_x = v;
      of_r = subst (λ (n : ℕ). HasValue (of_bits binary64 n) false (p * Q) (2 ^ 1074)) (sym (root_of_found m e)) (normal_value p k g.0 g.1 u);
      least = g.0;
      most = g.1;
      below = subst (λ (n : ℕ). (2 * p - 1) * Q * ((2 * p - 1) * Q) < 4 * n) (sym S) (scaled (2 * p - 1) (low_side M p (let a = g.0 in omega arith) n));
      above = subst (λ (n : ℕ). 4 * n < (2 * p + 1) * Q * ((2 * p + 1) * Q)) (sym S) (scaled_up (2 * p + 1) (high_side M p n));
      edge = λ q. subst (λ (n : ℕ). p * Q * (p * Q) ≤ n) (sym S) (rw (spread p Q) (mul-le-mul_right (Q * Q) (at_edge q)));
    }
  where
    d : ℕ
    d = even_exponent m e

    k : ℕ
    k = e / 2

    Q : ℕ
    Q = 2 ^ k

    p : ℕ
    p = found d

    M : ℕ
    M = d * 2 ^ 52

    b : (2 ^ 52 ≤ d) × (d ≤ 2 ^ 54 - 2)
    b = evened_in m e l h

    g : (2 ^ 52 ≤ p) × (p < 2 ^ 53)
    g = found_digits d b.0 b.1

    n : Near M p
    n = found_near d (let a = b.0 in omega arith) (let a = b.1 in omega arith)

    at_edge : p ≡ 2 ^ 52 → p * p ≤ M
    at_edge q = let a = b.0 in let c : p * p ≡ 2 ^ 52 * 2 ^ 52 = ap (λ (x : ℕ). x * x) q in omega arith

    S : X * 2 ^ 1074 ≡ M * (Q * Q)
    S =
        sym (mul_assoc X (2 ^ 1022) (2 ^ 52)) ∙ ap (λ (y : ℕ). y * 2 ^ 52) (s ∙ halves m e) ∙ mul_right_comm d (Q * Q) (2 ^ 52)

    scaled : (a : ℕ) → a * a < 4 * M → a * Q * (a * Q) < 4 * (M * (Q * Q))
    scaled a c = rw (spread a Q, ← mul_assoc 4 M (Q * Q)) (mul-lt-mul_of_pos_right c (mul-pos (pow_pos k) (pow_pos k)))

    scaled_up : (a : ℕ) → 4 * M < a * a → 4 * (M * (Q * Q)) < a * Q * (a * Q)
    scaled_up a c = rw (spread a Q, ← mul_assoc 4 M (Q * Q)) (mul-lt-mul_of_pos_right c (mul-pos (pow_pos k) (pow_pos k)))

-- ---- a subnormal number's significand, moved up
record Moved (k m e : ℕ) : Type 0 where
  m' : ℕ
  e' : ℕ
  is : normalized k m e ≡ root_of m' e'
  least : 2 ^ 52 ≤ m'
  most : m' < 2 ^ 53
  same : m' * 2 ^ e' ≡ m * 2 ^ e
  down : e' ≤ e

moved_up : (k m e : ℕ) → 2 ^ 52 ≤ m * 2 ^ k → m < 2 ^ 53 → k ≤ e → Moved k m e
moved_up zero m e l h u = record { m' = m; e' = e; is = norm_none m e; least = omega arith; most = h; same = refl; down = omega arith }
moved_up (suc k) m e l h u = go (λ m' e' l' h' u'. moved_up k m' e' l' h' u') (ltb m (2 ^ 52)) refl
  where
    go : ((m e : ℕ) → 2 ^ 52 ≤ m * 2 ^ k → m < 2 ^ 53 → k ≤ e → Moved k m e) → (b : Bool) → ltb m (2 ^ 52) ≡ b → Moved (suc k) m e
    go rest true q =
        let c = ltb-true m (2 ^ 52) q in
        let a : m * 2 ^ suc k ≡ m * 2 * 2 ^ k = ap (λ (x : ℕ). m * x) (pow-suc 2 k ∙ mul_comm (2 ^ k) 2) ∙ sym (mul_assoc m 2 (2 ^ k)) in
        let i = rest (m * 2) (e - 1) (omega arith) (omega arith) (omega arith) in
        let j : e ≡ suc (e - 1) = omega arith in
        let t : m * 2 * 2 ^ (e - 1) ≡ m * 2 ^ e = mul_assoc m 2 (2 ^ (e - 1)) ∙ ap (λ (x : ℕ). m * x) (mul_comm 2 (2 ^ (e - 1)) ∙ sym (pow-suc 2 (e - 1)) ∙ ap (λ (x : ℕ). 2 ^ x) (sym j)) in
        record { m' = i.m'; e' = i.e'; is = norm_up k m e c ∙ i.is; least = i.least; most = i.most; same = i.same ∙ t; down = let y = i.down in omega arith }
    go rest false q =
        let c = ltb-false m (2 ^ 52) q in
        let a = mul-le-mul_left m (pow_pos k) in
        let i = rest m e (omega arith) h (omega arith) in
        record { m' = i.m'; e' = i.e'; is = norm_same k m e c ∙ i.is; least = i.least; most = i.most; same = i.same; down = i.down }

-- ---- root
root_small : (x : Float) → 0 < to_bits binary64 x → to_bits binary64 x < 2 ^ 52 → square_root x ≡ of_bits binary64 (normalized 52 (to_bits binary64 x) 1022)
unfolding square_root
root_small x l h =
    let b = to_bits binary64 x in
    let i : b / 2 ^ 52 % 2 ^ 11 ≡ 0x7ff → ⊥ = λ q. omega arith in
    let j : b % 2 ^ 63 ≡ 0 → ⊥ = λ q. omega arith in
    let k : b / 2 ^ 52 ≡ 0 = omega arith in
    let f : b % 2 ^ 52 ≡ b = omega arith in
    rw (ne_eqb _ _ i, ne_eqb _ _ j, lt-leb (2 ^ 63) b (omega arith), eq-eqb _ _ k, f)

-- every positive finite number's root is correctly rounded
pub root_nearest : (x : Float) → T (fits binary64 x) → 0 < to_bits binary64 x → to_bits binary64 x < 0x7ff0_0000_0000_0000 → Nearest x (square_root x)
root_nearest x f z h = go (ltb b (2 ^ 52)) refl
  where
    b : ℕ
    b = to_bits binary64 x

    go : (t : Bool) → ltb b (2 ^ 52) ≡ t → Nearest x (square_root x)
    go true q =
        let c = ltb-true b (2 ^ 52) q in
        let v : HasValue x false (b * 2 ^ 0) (2 ^ 1074) = subst (λ (y : Float). HasValue y false (b * 2 ^ 0) (2 ^ 1074)) (of_bits-to_bits binary64 x f) (subnormal_value b c) in
        let i = moved_up 52 b 1022 (omega arith) (omega arith) (omega arith) in
        let s : b * 2 ^ 0 * 2 ^ 1022 ≡ i.m' * 2 ^ i.e' = ap (λ (n : ℕ). n * 2 ^ 1022) (mul-one b) ∙ sym i.same in
        let u : i.e' / 2 < 2046 = omega (arith, i.down) in
        subst (λ (r : Float). Nearest x r) (sym (root_small x z c ∙ ap (λ (n : ℕ). of_bits binary64 n) i.is)) (made x (b * 2 ^ 0) i.m' i.e' v i.least i.most u s)
    go false q =
        let c = ltb-false b (2 ^ 52) q in
        let m = b % 2 ^ 52 + 2 ^ 52 in
        let k = b / 2 ^ 52 - 1 in
        let e = b / 2 ^ 52 + 1021 in
        let w : m + k * 2 ^ 52 ≡ b = omega arith in
        let y : of_bits binary64 (m + k * 2 ^ 52) ≡ x = ap (λ (n : ℕ). of_bits binary64 n) w ∙ of_bits-to_bits binary64 x f in
        let v : HasValue x false (m * 2 ^ k) (2 ^ 1074) = subst (λ (y : Float). HasValue y false (m * 2 ^ k) (2 ^ 1074)) y (normal_value m k (omega arith) (omega arith) (omega arith)) in
        let j : k + 1022 ≡ e = omega arith in
        let s : m * 2 ^ k * 2 ^ 1022 ≡ m * 2 ^ e = mul_assoc m (2 ^ k) (2 ^ 1022) ∙ ap (λ (n : ℕ). m * n) (sym (pow-add 2 k 1022) ∙ ap (λ (n : ℕ). 2 ^ n) j) in
        subst (λ (r : Float). Nearest x r) (sym (root_normal x c h)) (made x (m * 2 ^ k) m e v (omega arith) (omega arith) (omega arith) s)

-- ---- no double is nearer
-- a * 2 ^ j against p * Q, Q = 2 ^ k
data Grid (a j k : ℕ) : Type 0 where
  coarse : (c : ℕ) → a * 2 ^ j ≡ c * 2 ^ k → Grid a j k
  fine : a * 2 ^ j < 2 ^ 52 * 2 ^ k → Grid a j k

grid_of : (a j k : ℕ) → a < 2 ^ 53 → Grid a j k
grid_of a j k h = go (leb k j) refl
  where
    go : (b : Bool) → leb k j ≡ b → Grid a j k
    go true e =
        let l = leb-true k j e in
        let i : j - k + k ≡ j = omega arith in
        coarse (a * 2 ^ (j - k)) (ap (λ (n : ℕ). a * 2 ^ n) (sym i) ∙ ap (λ (n : ℕ). a * n) (pow-add 2 (j - k) k) ∙ sym (mul_assoc a (2 ^ (j - k)) (2 ^ k)))
    go false e =
        let l = leb-false k j e in
        let i : k ≡ 1 + (j + (k - j - 1)) = omega arith in
        let c : 2 ^ k ≡ 2 * (2 ^ j * 2 ^ (k - j - 1)) = ap (λ (n : ℕ). 2 ^ n) i ∙ pow-add 2 1 (j + (k - j - 1)) ∙ ap (λ (n : ℕ). 2 * n) (pow-add 2 j (k - j - 1)) in
        let d : 2 ^ j * 1 ≤ 2 ^ j * 2 ^ (k - j - 1) = mul-le-mul_left (2 ^ j) (pow_pos (k - j - 1)) in
        let f : a * 2 ^ j < 2 ^ 53 * 2 ^ j = mul-lt-mul_of_pos_right h (pow_pos j) in
        fine (omega arith)

under : (a j k p : ℕ) → a < 2 ^ 53 → 2 ^ 52 < p → a * 2 ^ j < p * 2 ^ k → a * 2 ^ j + 2 ^ k ≤ p * 2 ^ k
under a j k p h l u = go (grid_of a j k h)
  where
    go : Grid a j k → a * 2 ^ j + 2 ^ k ≤ p * 2 ^ k
    go (coarse c e) =
        let w : c * 2 ^ k < p * 2 ^ k = omega arith in
        let v : c + 1 ≤ p = let z = lt_of_mul-lt-mul_right (2 ^ k) {m = c} {n = p} w in omega arith in
        let y = mul-le-mul_right (2 ^ k) v in
        let x = add-mul c 1 (2 ^ k) in
        omega arith
    go (fine f) =
        let v : 2 ^ 52 + 1 ≤ p = omega arith in
        let y = mul-le-mul_right (2 ^ k) v in
        omega arith

over : (a j k p : ℕ) → a < 2 ^ 53 → 2 ^ 52 ≤ p → p * 2 ^ k < a * 2 ^ j → p * 2 ^ k + 2 ^ k ≤ a * 2 ^ j
over a j k p h l u = go (grid_of a j k h)
  where
    go : Grid a j k → p * 2 ^ k + 2 ^ k ≤ a * 2 ^ j
    go (coarse c e) =
        let w : p * 2 ^ k < c * 2 ^ k = omega arith in
        let v : p + 1 ≤ c = let z = lt_of_mul-lt-mul_right (2 ^ k) {m = p} {n = c} w in omega arith in
        let y = mul-le-mul_right (2 ^ k) v in
        let x = add-mul p 1 (2 ^ k) in
        omega arith
    go (fine f) = let y = mul-le-mul_right (2 ^ k) l in absurd (omega arith)

-- twice r less a unit, and more a unit
less_one : (p Q : ℕ) → 0 < p → (2 * p - 1) * Q + Q ≡ p * Q + p * Q
less_one p Q z =
    let a : 2 * p - 1 + 1 ≡ p + p = omega arith in
    let b = add-mul (2 * p - 1) 1 Q in
    let c : (2 * p - 1 + 1) * Q ≡ (p + p) * Q = ap (λ (n : ℕ). n * Q) a in
    let d = add-mul p p Q in
    omega arith

more_one : (p Q : ℕ) → (2 * p + 1) * Q ≡ p * Q + p * Q + Q
more_one p Q =
    let a : 2 * p + 1 ≡ p + p + 1 = omega arith in
    let c : (2 * p + 1) * Q ≡ (p + p + 1) * Q = ap (λ (n : ℕ). n * Q) a in
    let b = add-mul (p + p) 1 Q in
    let d = add-mul p p Q in
    omega arith

-- of a double y the value is a * 2 ^ j units, a below 2 ^ 53
record Whole (y : ℕ) : Type 0 where
  a : ℕ
  j : ℕ
  small : a < 2 ^ 53
  is : y ≡ a * 2 ^ j

module _ (S p k y : ℕ) (w : Whole y) (least : 2 ^ 52 ≤ p) where
  lower : (2 * p - 1) * 2 ^ k * ((2 * p - 1) * 2 ^ k) < 4 * S → (p ≡ 2 ^ 52 → p * 2 ^ k * (p * 2 ^ k) ≤ S) → y < p * 2 ^ k → (y + p * 2 ^ k) * (y + p * 2 ^ k) < 4 * S
  lower below edge l = go (eqb p (2 ^ 52)) refl
    where
      go : (b : Bool) → eqb p (2 ^ 52) ≡ b → (y + p * 2 ^ k) * (y + p * 2 ^ k) < 4 * S
      go true e =
          let c = edge (eqb-true p (2 ^ 52) e) in
          let v : y + p * 2 ^ k + 1 ≤ p * 2 ^ k + p * 2 ^ k = omega arith in
          let m = mul-le-mul v v in
          let s = sq_suc (y + p * 2 ^ k) in
          let t = sq_add (p * 2 ^ k) (p * 2 ^ k) in
          omega arith
      go false e =
          let z = eqb-false p (2 ^ 52) e in
          let f : y + 2 ^ k ≤ p * 2 ^ k = rw w.is (under w.a w.j k p w.small (omega arith) (rw w.is at l)) in
          let o = less_one p (2 ^ k) (omega arith) in
          let v : y + p * 2 ^ k ≤ (2 * p - 1) * 2 ^ k = omega arith in
          let m = mul-le-mul v v in
          omega arith

  upper : 4 * S < (2 * p + 1) * 2 ^ k * ((2 * p + 1) * 2 ^ k) → p * 2 ^ k < y → 4 * S < (y + p * 2 ^ k) * (y + p * 2 ^ k)
  upper above l =
      let f : p * 2 ^ k + 2 ^ k ≤ y = rw w.is (over w.a w.j k p w.small least (rw w.is at l)) in
      let o = more_one p (2 ^ k) in
      let v : (2 * p + 1) * 2 ^ k ≤ y + p * 2 ^ k = omega arith in
      let m = mul-le-mul v v in
      omega arith

-- every double that is not negative is such a number of units
pow_le_back : (a l : ℕ) → 2 ^ a ≤ 2 ^ l → a ≤ l
pow_le_back a l h = go (ltb l a) refl
  where
    go : (b : Bool) → ltb l a ≡ b → a ≤ l
    go true e = let z = pow-lt (ltb-true l a e) in absurd (omega arith)
    go false e = ltb-false l a e

whole_of : (m : ℕ) (e : ℤ) (Y : ℕ) → m < 2 ^ 53 → down e ≤ 2 ^ 1074 → m * up e * 2 ^ 1074 ≡ Y * down e → Whole Y
whole_of m (pos j) Y h d v =
    record { a = m; j = j + 1074; small = h; is = sym (mul-one Y) ∙ sym v ∙ mul_assoc m (2 ^ j) (2 ^ 1074) ∙ ap (λ (n : ℕ). m * n) (sym (pow-add 2 j 1074)) }
whole_of m (negsuc j) Y h d v =
    let le : suc j ≤ 1074 = pow_le_back (suc j) 1074 d in
    let i : 1074 - suc j + suc j ≡ 1074 = back 1074 (suc j) le in
    let w : 2 ^ 1074 ≡ 2 ^ (1074 - suc j) * 2 ^ suc j = ap (λ (n : ℕ). 2 ^ n) (sym i) ∙ pow-add 2 (1074 - suc j) (suc j) in
    let t : Y * 2 ^ suc j ≡ m * 2 ^ (1074 - suc j) * 2 ^ suc j = sym v ∙ ap (λ (n : ℕ). n * 2 ^ 1074) (mul-one m) ∙ ap (λ (n : ℕ). m * n) w ∙ sym (mul_assoc m (2 ^ (1074 - suc j)) (2 ^ suc j)) in
    record { a = m; j = 1074 - suc j; small = h; is = eq_of_mul-eq-mul_right (2 ^ suc j) (pow_pos (suc j)) Y (m * 2 ^ (1074 - suc j)) t }

whole_value : (y : Float) (Y : ℕ) → T (fits binary64 y) → HasValue y false Y (2 ^ 1074) → Whole Y
unfolding fits
whole_value nan Y f v = absurd v
whole_value (inf s) Y f v = absurd v
whole_value (fin s zero e) Y f v =
    let t : Y * down e ≡ 0 * down e = sym v.1 ∙ ap (λ (n : ℕ). n * 2 ^ 1074) (zero-mul (up e)) ∙ zero-mul (2 ^ 1074) ∙ sym (zero-mul (down e)) in
    record { a = 0; j = 0; small = omega arith; is = eq_of_mul-eq-mul_right (down e) (down_pos e) Y 0 t }
whole_value (fin s (suc m) e) Y f v =
    let A = eqb (suc m % 2) 1 in
    let B = ltb (suc m) (2 ^ 53) in
    let C = leb (down e) (2 ^ 1074) in
    let D = ltb (suc m * up e) (2 ^ 1024 * down e) in
    let abc = and_l (A && B && C) D f in
    whole_of (suc m) e Y (ltb→lt (suc m) (2 ^ 53) (and_r A B (and_l (A && B) C abc))) (leb→le (down e) (2 ^ 1074) (and_r (A && B) C abc)) v.1

-- r is x's root correctly rounded: of no other double is the midpoint with r on r's side of the root. y is Y units of 2 ^ -1074, r is n.p * 2 ^ n.k.
pub closest : (x r y : Float) (n : Nearest x r) (Y : ℕ) → T (fits binary64 y) → HasValue y false Y (2 ^ 1074)
    → (Y < n.p * 2 ^ n.k → (Y + n.p * 2 ^ n.k) * (Y + n.p * 2 ^ n.k) < 4 * (n.size * 2 ^ 1074))
    × (n.p * 2 ^ n.k < Y → 4 * (n.size * 2 ^ 1074) < (Y + n.p * 2 ^ n.k) * (Y + n.p * 2 ^ n.k))
closest x r y n Y f v =
    let w = whole_value y Y f v in
    (lower (n.size * 2 ^ 1074) n.p n.k Y w n.least n.below n.edge, upper (n.size * 2 ^ 1074) n.p n.k Y w n.least n.above)

-- ---- every finite number that is not below zero

pub root_zero : (s : Bool) (e : ℤ) → square_root (fin s 0 e) ≡ fin s 0 e
unfolding square_root
root_zero true e = rw (zero_bits true e)
root_zero false e = rw (zero_bits false e)

-- as the two zeros' bits have it
pub root_plus_zero : square_root (of_bits binary64 0) ≡ of_bits binary64 0
unfolding of_bits
root_plus_zero = root_zero false (pos 0)

pub root_minus_zero : square_root (neg (of_bits binary64 0)) ≡ neg (of_bits binary64 0)
unfolding of_bits neg
root_minus_zero = root_zero true (pos 0)

above_bits : (m : ℕ) (e : ℤ) → T (fits binary64 (fin false (suc m) e)) → 0 < to_bits binary64 (fin false (suc m) e)
unfolding of_bits
above_bits m e f = go (to_bits binary64 x) refl
  where
    x : Float
    x = fin false (suc m) e

    go : (b : ℕ) → to_bits binary64 x ≡ b → 0 < b
    go zero q =
        let p : of_bits binary64 0 ≡ x = ap (λ (n : ℕ). of_bits binary64 n) (sym q) ∙ of_bits-to_bits binary64 x f in
        let z : ◌≡◌ {A = ℕ} 0 (suc m) = cc p in
        absurd (omega arith)
    go (suc b) q = omega arith

finite_above : (m : ℕ) (e : ℤ) → T (fits binary64 (fin false m e)) → to_bits binary64 (fin false m e) < 0x7ff0_0000_0000_0000
unfolding is_finite absolute
finite_above m e f =
    let a = absolute_bits (fin false m e) f refl in
    let b = finite_bits_is (fin false m e) f refl in
    omega arith

zeros_equal : (s : Bool) (e : ℤ) → eq (fin s 0 e) (of_bits binary64 0) ≡ true
unfolding eq of_bits
zeros_equal true e = rw (zero-mul (up e), zero-mul (down e))
zeros_equal false e = rw (zero-mul (up e), zero-mul (down e))

below_zero : (m : ℕ) (e : ℤ) → le (of_bits binary64 0) (fin true (suc m) e) ≡ false
unfolding le of_bits
below_zero m e =
    let z : 0 < suc m * up e = mul-pos (omega arith) (up_pos e) in
    let n : 0 * down e ≡ suc m * up e * 1 → ⊥ = λ q. omega arith in
    rw (ne_eqb (0 * down e) (suc m * up e * 1) n)

pub root_rounded : (x : Float) → T (fits binary64 x) → is_finite x ≡ true → le (of_bits binary64 0) x ≡ true → ((eq x (of_bits binary64 0) ≡ true) × (square_root x ≡ x)) ⊎ Nearest x (square_root x)
unfolding is_finite
root_rounded nan f h l = absurd (false≢true h)
root_rounded (inf s) f h l = absurd (false≢true h)
root_rounded (fin s zero e) f h l = inl (zeros_equal s e, root_zero s e)
root_rounded (fin true (suc m) e) f h l = absurd (false≢true (sym (below_zero m e) ∙ l))
root_rounded (fin false (suc m) e) f h l = inr (root_nearest (fin false (suc m) e) f (above_bits m e f) (finite_above (suc m) e f))
