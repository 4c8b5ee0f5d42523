-- Whole numbers: absolute values, signs, and how far two are apart.
use mathlib.Core.Path.{◌≡◌, refl, sym, ap, subst, ◌∙◌}
use mathlib.Core.Bool.{Bool, true, false, cond}
use Prim.Native.Nat.{ℕ, zero, suc, ◌+◌, ◌-◌, ◌*◌, ◌^◌, ◌≤◌}
use native.Mathlib.Omega.{arith}
use native.Mathlib.Nat.{mul-add, mul-le-mul_left}
use lib.Dec.{ltb}
use lib.IntN.{ℤ, pos, negsuc, neg_ℤ, sub_ℕ, ◌+ℤ◌, ◌-ℤ◌, nat_abs, neg_ℤ-+ℤ, +ℤ_assoc, +ℤ_comm, +ℤ_idl, +ℤ_invl, +ℤ_invr}
use borrow.Author.Tests.{ltb-true, ltb-false}
use Rattle.rounding.specs.Units.{signed, above, Within}

-- ---- absolute values

pub abs_neg : (a : ℤ) → nat_abs (neg_ℤ a) ≡ nat_abs a
abs_neg (pos zero) = refl
abs_neg (pos (suc n)) = refl
abs_neg (negsuc n) = refl

pub neg_neg : (a : ℤ) → neg_ℤ (neg_ℤ a) ≡ a
neg_neg (pos zero) = refl
neg_neg (pos (suc n)) = refl
neg_neg (negsuc n) = refl

abs_sub : (a b : ℕ) → nat_abs (sub_ℕ a b) ≡ a - b + (b - a)
abs_sub a b = go (ltb a b) refl
  where
    go : (c : Bool) → ltb a b ≡ c → nat_abs (cond c (negsuc (b - suc a)) (pos (a - b))) ≡ a - b + (b - a)
    go true e = let l = ltb-true a b e in omega arith
    go false e = let l = ltb-false a b e in omega arith

pub abs_add : (a b : ℤ) → nat_abs (a +ℤ b) ≤ nat_abs a + nat_abs b
abs_add (pos a) (pos b) = omega arith
abs_add (pos a) (negsuc b) = omega (arith, abs_sub a (suc b))
abs_add (negsuc a) (pos b) = omega (arith, abs_sub b (suc a))
abs_add (negsuc a) (negsuc b) = omega arith

above_sub : (a b : ℕ) → above (sub_ℕ a b) ≤ a
above_sub a b = go (ltb a b)
  where
    go : (c : Bool) → above (cond c (negsuc (b - suc a)) (pos (a - b))) ≤ a
    go true = omega arith
    go false = omega arith

-- what is above 0 of a sum
pub above_add : (a b : ℤ) → above (a +ℤ b) ≤ above a + nat_abs b
above_add (pos a) (pos b) = omega arith
above_add (pos a) (negsuc b) = omega (arith, above_sub a (suc b))
above_add (negsuc a) (pos b) = omega (arith, above_sub b (suc a))
above_add (negsuc a) (negsuc b) = omega arith

pub abs_signed : (s : Bool) (n : ℕ) → nat_abs (signed s n) ≡ n
abs_signed false n = refl
abs_signed true n = abs_neg (pos n)

-- ---- numbers with signs

less : (a b : ℕ) → pos a -ℤ pos b ≡ sub_ℕ a b
less a zero = go (ltb a 0) refl
  where
    go : (c : Bool) → ltb a 0 ≡ c → pos (a + 0) ≡ cond c (negsuc (0 - suc a)) (pos (a - 0))
    go true e = let l = ltb-true a 0 e in absurd (omega arith)
    go false e = ap pos (omega arith)
less a (suc b) = refl

-- the first no smaller
pub less_pos : (a b : ℕ) → b ≤ a → pos a -ℤ pos b ≡ pos (a - b)
less_pos a b h = less a b ∙ go (ltb a b) refl
  where
    go : (c : Bool) → ltb a b ≡ c → cond c (negsuc (b - suc a)) (pos (a - b)) ≡ pos (a - b)
    go true e = let l = ltb-true a b e in absurd (omega arith)
    go false e = refl

pub less_neg : (a b : ℕ) → b ≤ a → neg_ℤ (pos a) +ℤ pos b ≡ neg_ℤ (pos (a - b))
less_neg a b h = ap (λ (z : ℤ). neg_ℤ (pos a) +ℤ z) (sym (neg_neg (pos b))) ∙ sym (neg_ℤ-+ℤ (pos a) (neg_ℤ (pos b))) ∙ ap neg_ℤ (less_pos a b h)

abs_less : (a b : ℕ) → nat_abs (pos a -ℤ pos b) ≡ a - b + (b - a)
abs_less a b = ap nat_abs (less a b) ∙ abs_sub a b

pub abs_apart : (s : Bool) (a b : ℕ) → nat_abs (signed s a -ℤ signed s b) ≡ a - b + (b - a)
abs_apart false a b = abs_less a b
abs_apart true a b = ap nat_abs (sym (neg_ℤ-+ℤ (pos a) (neg_ℤ (pos b)))) ∙ abs_neg (pos a -ℤ pos b) ∙ abs_less a b

-- ---- how far apart

-- v less S + w, by way of u + w
route : (v u w S : ℤ) → v -ℤ (S +ℤ w) ≡ (v -ℤ (u +ℤ w)) +ℤ (u -ℤ S)
route v u w S =
    ap (λ (z : ℤ). v +ℤ z) (neg_ℤ-+ℤ S w ∙ sym inner)
    ∙ sym (+ℤ_assoc v (neg_ℤ u +ℤ neg_ℤ w) (u +ℤ neg_ℤ S))
    ∙ ap (λ (z : ℤ). v +ℤ z +ℤ (u +ℤ neg_ℤ S)) (sym (neg_ℤ-+ℤ u w))
  where
    inner : (neg_ℤ u +ℤ neg_ℤ w) +ℤ (u +ℤ neg_ℤ S) ≡ neg_ℤ S +ℤ neg_ℤ w
    inner =
        ap (λ (z : ℤ). z +ℤ (u +ℤ neg_ℤ S)) (+ℤ_comm (neg_ℤ u) (neg_ℤ w))
        ∙ +ℤ_assoc (neg_ℤ w) (neg_ℤ u) (u +ℤ neg_ℤ S)
        ∙ ap (λ (z : ℤ). neg_ℤ w +ℤ z) (sym (+ℤ_assoc (neg_ℤ u) u (neg_ℤ S)) ∙ ap (λ (z : ℤ). z +ℤ neg_ℤ S) (+ℤ_invl u) ∙ +ℤ_idl (neg_ℤ S))
        ∙ +ℤ_comm (neg_ℤ w) (neg_ℤ S)

-- m less e, by way of d
pub by_way : (m d e : ℤ) → m -ℤ e ≡ (m -ℤ d) +ℤ (d -ℤ e)
by_way m d e =
    ap (λ (z : ℤ). m +ℤ z) (sym (sym (+ℤ_assoc (neg_ℤ d) d (neg_ℤ e)) ∙ ap (λ (z : ℤ). z +ℤ neg_ℤ e) (+ℤ_invl d) ∙ +ℤ_idl (neg_ℤ e)))
    ∙ sym (+ℤ_assoc m (neg_ℤ d) (d +ℤ neg_ℤ e))

-- the other way round
pub turned_round : (a b : ℤ) → a -ℤ b ≡ neg_ℤ (b -ℤ a)
turned_round a b = sym (neg_ℤ-+ℤ b (neg_ℤ a) ∙ ap (λ (z : ℤ). neg_ℤ b +ℤ z) (neg_neg a) ∙ +ℤ_comm (neg_ℤ b) a)

-- u is within e of S, and v within d of u + w: so v is within both of S + w
pub within_step : (v u w S : ℤ) (d e : ℕ) → Within d v (u +ℤ w) → Within e u S → Within (e + d) v (S +ℤ w)
within_step v u w S d e h k =
    let a = abs_add (v -ℤ (u +ℤ w)) (u -ℤ S) in
    let m = mul-le-mul_left (2 ^ 53) a in
    let n = mul-add (2 ^ 53) (nat_abs (v -ℤ (u +ℤ w))) (nat_abs (u -ℤ S)) in
    rw (route v u w S) (omega arith)

pub within_neg : (a b : ℤ) (e : ℕ) → Within e a b → Within e (neg_ℤ a) (neg_ℤ b)
within_neg a b e h = rw (← neg_ℤ-+ℤ a (neg_ℤ b), abs_neg (a -ℤ b)) h

-- what a is close to is no larger than a and how far they are apart
back_again : (a b : ℤ) → b ≡ a +ℤ neg_ℤ (a -ℤ b)
back_again a b =
    sym (+ℤ_idl b)
    ∙ ap (λ (z : ℤ). z +ℤ b) (sym (+ℤ_invr a))
    ∙ +ℤ_assoc a (neg_ℤ a) b
    ∙ ap (λ (z : ℤ). a +ℤ z) (ap (λ (z : ℤ). neg_ℤ a +ℤ z) (sym (neg_neg b)) ∙ sym (neg_ℤ-+ℤ a (neg_ℤ b)))

pub within_size : (a b : ℤ) (e : ℕ) → Within e a b → 2 ^ 53 * nat_abs b ≤ 2 ^ 53 * nat_abs a + e
within_size a b e h =
    let p : nat_abs b ≤ nat_abs a + nat_abs (neg_ℤ (a -ℤ b)) = subst (λ (z : ℤ). nat_abs z ≤ nat_abs a + nat_abs (neg_ℤ (a -ℤ b))) (sym (back_again a b)) (abs_add a (neg_ℤ (a -ℤ b))) in
    let q = abs_neg (a -ℤ b) in
    omega arith
