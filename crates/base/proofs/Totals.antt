-- Sums over the first n numbers and over lists: lengths and weights of tables turn by turn, and a count place by place.
use mathlib.Core.Path.{◌≡◌, refl, ap, ap₂, ◌∙◌}
use mathlib.Core.List.{List, [], ◌∷◌, ◌++◌, map}
use mathlib.Core.Bool.{Bool, true, false, cond}
use Prim.Native.Nat.{ℕ, zero, suc, ◌+◌, ◌-◌, ◌*◌, ◌≤◌, ◌<◌}
use native.Mathlib.Omega.{arith}
use native.Mathlib.Numerals.{add-one}
use lib.ListN.{length, length-append}
use lib.Dec.{eqb}
use borrow.Author.Tests.{eqb-true, eqb-false, ne_eqb}
use Rattle.base.specs.Loop.{loop, table, each, keep, tally}
use Rattle.base.proofs.Loops.{bit, tally_bit, tally_le}

-- f 0 + f 1 .. + f (n - 1)
unfoldable pub total : ℕ → (ℕ → ℕ) → ℕ
total n f = loop (λ sum i. sum + f i) 0 n

pub total_none : (f : ℕ → ℕ) → total 0 f ≡ 0
unfolding total loop
total_none f = refl

pub total_next : (n : ℕ) (f : ℕ → ℕ) → total (n + 1) f ≡ total n f + f n
unfolding total loop
total_next n f = rw add-one

pub total_same : (n : ℕ) (f g : ℕ → ℕ) → ((i : ℕ) → i < n → f i ≡ g i) → total n f ≡ total n g
unfolding total loop
total_same zero f g h = refl
total_same (suc n) f g h = ap₂ (λ x y. x + y) (total_same n f g (λ i l. h i (omega arith))) (h n (omega arith))

pub total_const : (c n : ℕ) → total n (λ i. c) ≡ c * n
unfolding total loop
total_const c zero = omega arith
total_const c (suc n) = omega (arith, total_const c n)

pub total_sum : (n : ℕ) (f g : ℕ → ℕ) → total n (λ i. f i + g i) ≡ total n f + total n g
unfolding total loop
total_sum zero f g = refl
total_sum (suc n) f g = omega (arith, total_sum n f g)

pub total_times : (c n : ℕ) (f : ℕ → ℕ) → total n (λ i. c * f i) ≡ c * total n f
unfolding total loop
total_times c zero f = omega arith
total_times c (suc n) f = omega (arith, total_times c n f)

pub total_tally : (n : ℕ) (t : ℕ → Bool) → total n (λ i. bit (t i)) ≡ tally n t
unfolding total loop
total_tally zero t = unfold tally in refl
total_tally (suc n) t = omega (arith, total_tally n t, tally_bit n t)

-- a for each that passes the test, b for each other
pub total_cond : (a b n : ℕ) (t : ℕ → Bool) → total n (λ i. cond (t i) a b) ≡ a * tally n t + b * (n - tally n t)
unfolding total loop
total_cond a b zero t = unfold tally in omega arith
total_cond a b (suc n) t = go (t n) (total_cond a b n t) (tally_bit n t)
  where
    go : (p : Bool) → total n (λ i. cond (t i) a b) ≡ a * tally n t + b * (n - tally n t) → tally (suc n) t ≡ tally n t + bit p
        → total n (λ i. cond (t i) a b) + cond p a b ≡ a * tally (suc n) t + b * (suc n - tally (suc n) t)
    go true e k =
        let d : suc n - (tally n t + 1) ≡ n - tally n t = omega arith in
        rw (k, d) (omega arith)
    go false e k =
        let d : suc n - (tally n t + 0) ≡ suc (n - tally n t) = omega (arith, tally_le n t) in
        let z : tally n t + 0 ≡ tally n t = omega arith in
        rw (k, d, z) (omega arith)

pub total_mono : (n m : ℕ) (f : ℕ → ℕ) → n ≤ m → total n f ≤ total m f
unfolding total loop
total_mono n zero f h = let z : n ≡ 0 = omega arith in rw z (omega arith)
total_mono n (suc m) f h = go (eqb n (suc m)) refl (total_mono n m f)
  where
    go : (b : Bool) → eqb n (suc m) ≡ b → (n ≤ m → total n f ≤ total m f) → total n f ≤ total m f + f m
    go true e k = rw (eqb-true n (suc m) e) (omega arith)
    go false e k = let ne = eqb-false n (suc m) e in omega (arith, k (omega arith))

-- each of m things is at one of n places: counted place by place they are m
one_place : (n p : ℕ) → p < n → total n (λ i. bit (eqb p i)) ≡ 1
unfolding total loop
one_place zero p l = absurd (omega arith)
one_place (suc n) p l = go (eqb p n) refl (one_place n p)
  where
    none_below : (m : ℕ) → m ≤ p → total m (λ i. bit (eqb p i)) ≡ 0
    none_below zero l = refl
    none_below (suc m) l = rw (ne_eqb p m (λ e. omega arith)) (omega (arith, none_below m (omega arith)))

    go : (b : Bool) → eqb p n ≡ b → (p < n → total n (λ i. bit (eqb p i)) ≡ 1) → total n (λ i. bit (eqb p i)) + bit b ≡ 1
    go true e k = let z = eqb-true p n e in omega (arith, none_below n (omega arith))
    go false e k = let ne = eqb-false p n e in omega (arith, k (omega arith))

pub by_places : (n m : ℕ) (at : ℕ → ℕ) → ((b : ℕ) → b < m → at b < n) → total n (λ i. tally m (λ b. eqb (at b) i)) ≡ m
unfolding loop tally
by_places n zero at h = total_const 0 n ∙ omega arith
by_places n (suc m) at h =
    total_same n _ (λ i. tally m (λ b. eqb (at b) i) + bit (eqb (at m) i)) (λ i l. tally_bit m (λ b. eqb (at b) i))
    ∙ total_sum n (λ i. tally m (λ b. eqb (at b) i)) (λ i. bit (eqb (at m) i))
    ∙ omega (arith, by_places n m at (λ b l. h b (omega arith)), one_place n (at m) (h m (omega arith)))

-- ---- lists, turn by turn

module _ {A : Type 0} where
  pub length_turns : (n : ℕ) (f : ℕ → List A) → length (each n f) ≡ total n (λ i. length (f i))
  unfolding total loop each
  length_turns zero f = refl
  length_turns (suc n) f = omega (arith, length-append (each n f) (f n), length_turns n f)

  -- the weights of the elements, added
  unfoldable pub weight : (A → ℕ) → List A → ℕ
  weight w [] = 0
  weight w (a ∷ l) = w a + weight w l

  pub weight_append : (w : A → ℕ) (xs ys : List A) → weight w (xs ++ ys) ≡ weight w xs + weight w ys
  unfolding weight
  weight_append w [] ys = omega arith
  weight_append w (x ∷ xs) ys = omega (arith, weight_append w xs ys)

  weight_one : (w : A → ℕ) (a : A) → weight w (a ∷ []) ≡ w a
  unfolding weight
  weight_one w a = omega arith

  pub weight_table : (w : A → ℕ) (n : ℕ) (f : ℕ → A) → weight w (table n f) ≡ total n (λ i. w (f i))
  unfolding loop table total weight
  weight_table w zero f = refl
  weight_table w (suc n) f = omega (arith, weight_append w (table n f) (f n ∷ []), weight_one w (f n), weight_table w n f)

  pub weight_each : (w : A → ℕ) (n : ℕ) (f : ℕ → List A) → weight w (each n f) ≡ total n (λ i. weight w (f i))
  unfolding loop each total weight
  weight_each w zero f = refl
  weight_each w (suc n) f = omega (arith, weight_append w (each n f) (f n), weight_each w n f)

  pub weight_keep : (w : A → ℕ) (t : Bool) (a : A) → weight w (keep t a) ≡ w a * bit t
  unfolding weight
  weight_keep w true a = omega arith
  weight_keep w false a = omega arith

  -- where each kept one weighs c
  pub weight_kept : (w : A → ℕ) (c n : ℕ) (t : ℕ → Bool) (f : ℕ → A) → ((i : ℕ) → w (f i) ≡ c) → weight w (each n (λ i. keep (t i) (f i))) ≡ c * tally n t
  weight_kept w c n t f h =
      weight_each w n (λ i. keep (t i) (f i)) ∙ total_same n _ (λ i. c * bit (t i)) (λ i l. weight_keep w (t i) (f i) ∙ ap (λ x. x * bit (t i)) (h i))
      ∙ total_times c n (λ i. bit (t i)) ∙ ap (λ x. c * x) (total_tally n t)

  pub length_weight : (l : List A) → length l ≡ weight (λ a. 1) l
  unfolding weight
  length_weight [] = refl
  length_weight (a ∷ l) = omega (arith, length_weight l)

pub weight_map : {A : Type 0} {B : Type 0} (w : B → ℕ) (f : A → B) (l : List A) → weight w (map f l) ≡ weight (λ a. w (f a)) l
unfolding weight
weight_map w f [] = refl
weight_map w f (a ∷ l) = ap (λ x. w (f a) + x) (weight_map w f l)
