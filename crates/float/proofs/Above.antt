-- The order of floats: what a maximum is not above.
use Rattle.std.proofs.Common.{◌≡◌, ℕ, zero, suc, ◌+◌, ◌*◌, ◌^◌, ◌<◌, ◌≤◌, Bool, true, false, cond, T, ltb, ◌↔◌, sym, refl, ap, ◌∙◌, subst, true≢false, mul-le-mul_right, mul-lt-mul_of_pos_right, arith, ltb-false, ltb-true, le-ltb, lt-ltb}
use mathlib.Core.Bool.{false≢true}
use lib.Ieee.{Float, nan, inf, fin, binary64, up, down, below, lt, ne, is_nan, to_bits}
use lib.Ieee.Compare.{differs_from_itself, nan_differs}
use lib.Ieee.Fits.{down_pos}
use Rattle.float.specs.Number.{maximum}

-- ---- fractions: t < a, and not b < a, so t < b

sum_pos : (a b p q p' q' : ℕ) → 0 < p' → 0 < q' → 0 < a * p + b * q → 0 < a * p' + b * q'
sum_pos zero zero p q p' q' h k l = absurd (omega arith)
sum_pos zero (suc b) p q p' q' h k l = omega arith
sum_pos (suc a) b p q p' q' h k l = omega arith

less_not_more : (nt dt na da nb db : ℕ) → 0 < db → nt * da < na * dt → na * db ≤ nb * da → nt * db < nb * dt
less_not_more nt dt na da nb db p h k = go (ltb (nt * db) (nb * dt)) refl
  where
    go : (b : Bool) → ltb (nt * db) (nb * dt) ≡ b → nt * db < nb * dt
    go true e = ltb-true _ _ e
    go false e =
        let l = ltb-false (nt * db) (nb * dt) e in
        absurd (omega (arith, mul-lt-mul_of_pos_right h p, mul-le-mul_right dt k, mul-le-mul_right da l))

below_weak : (s v u : Bool) (nt dt na da nb db : ℕ) → 0 < dt → 0 < da → 0 < db → below s (nt * da) v (na * dt) ≡ true → below u (nb * da) v (na * db) ≡ false → below s (nt * db) u (nb * dt) ≡ true
below_weak false false false nt dt na da nb db p q r h k = lt-ltb _ _ (less_not_more nt dt na da nb db r (ltb-true _ _ h) (ltb-false _ _ k))
below_weak false false true nt dt na da nb db p q r h k =
    let z : nb * da + na * db ≤ 0 = ltb-false 0 (nb * da + na * db) k in
    absurd (go na (ltb-true (nt * da) (na * dt) h) (omega arith))
  where
    go : (na : ℕ) → nt * da < na * dt → na * db ≤ 0 → ⊥
    go zero h k = omega arith
    go (suc n) h k = omega arith
below_weak false true u nt dt na da nb db p q r h k = absurd (false≢true h)
below_weak true false false nt dt na da nb db p q r h k = go nt na (ltb-true 0 (nt * da + na * dt) h) (ltb-false (nb * da) (na * db) k)
  where
    go : (nt na : ℕ) → 0 < nt * da + na * dt → na * db ≤ nb * da → ltb 0 (nt * db + nb * dt) ≡ true
    go (suc t) na h k = lt-ltb 0 (suc t * db + nb * dt) (omega arith)
    go zero zero h k = absurd (omega arith)
    go zero (suc a) h k = lt-ltb 0 (zero * db + nb * dt) (rest nb k)
      where
        rest : (nb : ℕ) → suc a * db ≤ nb * da → 0 < zero * db + nb * dt
        rest zero k = absurd (omega arith)
        rest (suc b) k = omega arith
below_weak true false true nt dt na da nb db p q r h k =
    go nt nb na (ltb-true 0 (nt * da + na * dt) h) (ltb-false 0 (nb * da + na * db) k)
  where
    go : (nt nb na : ℕ) → 0 < nt * da + na * dt → nb * da + na * db ≤ 0 → ltb (nb * dt) (nt * db) ≡ true
    go nt (suc b) na h k = absurd (omega arith)
    go nt zero (suc a) h k = absurd (omega arith)
    go zero zero zero h k = absurd (omega arith)
    go (suc t) zero zero h k = lt-ltb (zero * dt) (suc t * db) (omega arith)
below_weak true true false nt dt na da nb db p q r h k = go nt (ltb-true (na * dt) (nt * da) h)
  where
    go : (nt : ℕ) → na * dt < nt * da → ltb 0 (nt * db + nb * dt) ≡ true
    go zero h = absurd (omega arith)
    go (suc t) h = lt-ltb 0 (suc t * db + nb * dt) (omega arith)
below_weak true true true nt dt na da nb db p q r h k = go (ltb (nb * dt) (nt * db)) refl
  where
    go : (b : Bool) → ltb (nb * dt) (nt * db) ≡ b → ltb (nb * dt) (nt * db) ≡ true
    go true e = e
    go false e =
        let l = ltb-false (nb * dt) (nt * db) e in
        absurd (omega (arith, mul-lt-mul_of_pos_right (ltb-true (na * dt) (nt * da) h) r, mul-le-mul_right dt (ltb-false (na * db) (nb * da) k), mul-le-mul_right da l))

below_asym : (s t : Bool) (x y : ℕ) → below s x t y ≡ true → below t y s x ≡ false
below_asym false false x y h = le-ltb y x (omega (arith, ltb-true x y h))
below_asym false true x y h = absurd (false≢true h)
below_asym true false x y h = refl
below_asym true true x y h = le-ltb x y (omega (arith, ltb-true y x h))

-- ---- floats

pub lt_nan : (t : Float) → lt t nan ≡ false
unfolding lt
lt_nan nan = refl
lt_nan (inf s) = refl
lt_nan (fin s m e) = refl

pub lt_asym : (a b : Float) → lt a b ≡ true → lt b a ≡ false
unfolding lt
lt_asym nan b h = absurd (false≢true h)
lt_asym (inf s) nan h = absurd (false≢true h)
lt_asym (inf true) (inf true) h = absurd (false≢true h)
lt_asym (inf true) (inf false) h = refl
lt_asym (inf false) (inf t) h = absurd (false≢true h)
lt_asym (inf true) (fin t n d) h = refl
lt_asym (inf false) (fin t n d) h = absurd (false≢true h)
lt_asym (fin s m e) nan h = absurd (false≢true h)
lt_asym (fin s m e) (inf true) h = absurd (false≢true h)
lt_asym (fin s m e) (inf false) h = refl
lt_asym (fin s m e) (fin t n d) h = below_asym s t (m * up e * down d) (n * up d * down e) h

-- t below a, and b a number that is not below a: t below b
pub lt_weak : (t a b : Float) → is_nan b ≡ false → lt t a ≡ true → lt b a ≡ false → lt t b ≡ true
unfolding lt is_nan
lt_weak t a nan z h k = absurd (true≢false z)
lt_weak nan a (inf u) z h k = absurd (false≢true h)
lt_weak nan a (fin u n d) z h k = absurd (false≢true h)
lt_weak (inf s) nan (inf u) z h k = absurd (false≢true h)
lt_weak (inf s) nan (fin u n d) z h k = absurd (false≢true h)
lt_weak (fin s m e) nan (inf u) z h k = absurd (false≢true h)
lt_weak (fin s m e) nan (fin u n d) z h k = absurd (false≢true h)
lt_weak (inf false) (inf v) (inf u) z h k = absurd (false≢true h)
lt_weak (inf true) (inf true) (inf u) z h k = absurd (false≢true h)
lt_weak (inf true) (inf false) (inf true) z h k = absurd (true≢false k)
lt_weak (inf true) (inf false) (inf false) z h k = refl
lt_weak (inf s) (fin v o f) (inf true) z h k = absurd (true≢false k)
lt_weak (inf true) (fin v o f) (inf false) z h k = refl
lt_weak (inf false) (fin v o f) (inf false) z h k = absurd (false≢true h)
lt_weak (fin s m e) (inf true) (inf u) z h k = absurd (false≢true h)
lt_weak (fin s m e) (inf false) (inf true) z h k = absurd (true≢false k)
lt_weak (fin s m e) (inf false) (inf false) z h k = refl
lt_weak (fin s m e) (fin v o f) (inf true) z h k = absurd (true≢false k)
lt_weak (fin s m e) (fin v o f) (inf false) z h k = refl
lt_weak (inf true) (inf v) (fin u n d) z h k = refl
lt_weak (inf false) (inf v) (fin u n d) z h k = absurd (false≢true h)
lt_weak (inf true) (fin v o f) (fin u n d) z h k = refl
lt_weak (inf false) (fin v o f) (fin u n d) z h k = absurd (false≢true h)
lt_weak (fin s m e) (inf true) (fin u n d) z h k = absurd (false≢true h)
lt_weak (fin s m e) (inf false) (fin u n d) z h k = absurd (true≢false k)
lt_weak (fin s m e) (fin v o f) (fin u n d) z h k =
    below_weak s v u (m * up e) (down e) (o * up f) (down f) (n * up d) (down d) (down_pos e) (down_pos f) (down_pos d) h k

-- a number is not above t, from one that is not below it
pub not_above : (t a b : Float) → is_nan b ≡ false → lt b a ≡ false → lt t b ≡ false → lt t a ≡ false
not_above t a b z k h = go (lt t a) refl
  where
    go : (c : Bool) → lt t a ≡ c → c ≡ false
    go false e = refl
    go true e = absurd (true≢false (sym (lt_weak t a b z e k) ∙ h))

is_number : (a : Float) → ne a a ≡ false → is_nan a ≡ false
unfolding is_nan
is_number nan h = absurd (true≢false (sym nan_differs ∙ h))
is_number (inf s) h = refl
is_number (fin s m e) h = refl

is_nan_is : (a : Float) → ne a a ≡ true → a ≡ nan
is_nan_is a h = differs_from_itself a (subst T (sym h) tt)

-- the larger of two is above t exactly where one of them is
pub maximum_law : (t a b : Float) → (lt t (maximum a b) ≡ false) ↔ ((lt t a ≡ false) × (lt t b ≡ false))
unfolding maximum
maximum_law t a b = go (ne a a) (ne b b) (lt a b) (lt b a) (ltb (to_bits binary64 a) (2 ^ 63)) refl refl refl refl
  where
    go : (na nb la lb z : Bool) → ne a a ≡ na → ne b b ≡ nb → lt a b ≡ la → lt b a ≡ lb
        → (lt t (cond na b (cond nb a (cond la b (cond lb a (cond z a b))))) ≡ false) ↔ ((lt t a ≡ false) × (lt t b ≡ false))
    go true nb la lb z p q r s = (λ h. (ap (lt t) (is_nan_is a p) ∙ lt_nan t, h), λ h. h.1)
    go false true la lb z p q r s = (λ h. (h, ap (lt t) (is_nan_is b q) ∙ lt_nan t), λ h. h.0)
    go false false true lb z p q r s = (λ h. (not_above t a b (is_number b q) (lt_asym a b r) h, h), λ h. h.1)
    go false false false true z p q r s = (λ h. (h, not_above t b a (is_number a p) r h), λ h. h.0)
    go false false false false true p q r s = (λ h. (h, not_above t b a (is_number a p) r h), λ h. h.0)
    go false false false false false p q r s = (λ h. (not_above t a b (is_number b q) s h, h), λ h. h.1)
