-- The first element of a list that fails a test, list after list; and lists gathered from the elements of a list.
use mathlib.Core.Path.{◌≡◌, refl, ap, ap₂, sym, ◌∙◌}
use mathlib.Core.List.{List, [], ◌∷◌, ◌++◌, map, append_assoc}
use mathlib.Core.Bool.{Bool, true, false, cond, not, ◌||◌}
use Prim.Native.Nat.{ℕ, zero, suc, ◌+◌, ◌*◌, ◌<◌}
use native.Mathlib.Omega.{arith}
use native.Mathlib.Nat.{add-zero}
use lib.ListN.{length, get_or}
use lib.Dec.{eqb}
use borrow.Author.Tests.{eqb-true}
use Rattle.base.specs.Fault.{Fault}
use Rattle.base.specs.Fault.{fault, clear, unless, or_else, first}
use Rattle.base.specs.Loop.{loop, table, each, keep}
use Rattle.base.proofs.Firsts.{Proper, or_go, unless_clear, unless_proper}
use Rattle.base.proofs.Loops.{AllFrom, Every, all_append, length_each}

-- ---- the first of several, regrouped

pub or_assoc : (f g h : Fault) → or_else (or_else f g) h ≡ or_else f (or_else g h)
unfolding or_else
or_assoc f g h = go (eqb f.number 0) refl
  where
    go : (b : Bool) → eqb f.number 0 ≡ b → cond (eqb (cond b g f).number 0) h (cond b g f) ≡ cond b (cond (eqb g.number 0) h g) f
    go true e = refl
    go false e = rw e

pub or_none : (f : Fault) → Proper f → or_else f clear ≡ f
unfolding or_else
or_none f p = go (eqb f.number 0) refl
  where
    go : (b : Bool) → eqb f.number 0 ≡ b → cond b clear f ≡ f
    go true e = sym (p (eqb-true f.number 0 e))
    go false e = refl

pub none_or : (f : Fault) → or_else clear f ≡ f
none_or f = or_go clear f refl

pub first_same : (n : ℕ) (f g : ℕ → Fault) → ((i : ℕ) → i < n → f i ≡ g i) → first n f ≡ first n g
unfolding first loop
first_same zero f g h = refl
first_same (suc n) f g h = ap₂ or_else (first_same n f g (λ i l. h i (omega arith))) (h n (omega arith))

pub first_cons : (n : ℕ) (f : ℕ → Fault) → Proper (f 0) → first (suc n) f ≡ or_else (f 0) (first n (λ i. f (suc i)))
unfolding first loop
first_cons zero f p = none_or (f 0) ∙ sym (or_none (f 0) p)
first_cons (suc n) f p = ap (λ r. or_else r (f (suc n))) (first_cons n f p) ∙ or_assoc (f 0) (first n (λ i. f (suc i))) (f (suc n))

-- ---- the first that fails; the list's elements are numbered from k on

module _ {A : Type 0} (number : ℕ) (t : A → Bool) where
  unfoldable pub failing : ℕ → List A → Fault
  failing k [] = clear
  failing k (a ∷ l) = or_else (unless (t a) (fault number k)) (failing (k + 1) l)

  pub failing_append : (k : ℕ) (a b : List A) → failing k (a ++ b) ≡ or_else (failing k a) (failing (k + length a) b)
  unfolding failing
  failing_append k [] b = rw add-zero (sym (none_or (failing k b)))
  failing_append k (x ∷ a) b =
      let e : k + suc (length a) ≡ k + 1 + length a = omega arith in
      ap (or_else (unless (t x) (fault number k))) (failing_append (k + 1) a b ∙ ap (λ j. or_else (failing (k + 1) a) (failing j b)) (sym e))
      ∙ sym (or_assoc (unless (t x) (fault number k)) (failing (k + 1) a) (failing (k + suc (length a)) b))

  -- a list whose elements all pass adds its length to the places, and nothing else
  pub failing_none : (i k : ℕ) (a : List A) → AllFrom (λ j x. t x ≡ true) i a → failing k a ≡ clear
  unfolding failing
  failing_none i k [] h = refl
  failing_none i k (x ∷ a) h = ap₂ or_else (unless_clear (t x) (fault number k) h.0) (failing_none (i + 1) (k + 1) a h.1) ∙ none_or clear

  pub failing_pass : (k : ℕ) (a b : List A) → Every (λ j x. t x ≡ true) 0 a → failing k (a ++ b) ≡ failing (k + length a) b
  failing_pass k a b h = failing_append k a b ∙ ap (λ r. or_else r (failing (k + length a) b)) (failing_none 0 k a h.all) ∙ none_or (failing (k + length a) b)

  pub failing_each : (k n : ℕ) (f : ℕ → List A) → failing k (each n f) ≡ first n (λ j. failing (k + length (each j f)) (f j))
  unfolding failing loop each first
  failing_each k zero f = refl
  failing_each k (suc n) f = failing_append k (each n f) (f n) ∙ ap (λ r. or_else r (failing (k + length (each n f)) (f n))) (failing_each k n f)

  -- where each turn has c elements
  pub failing_turns : (c k n : ℕ) (f : ℕ → List A) → ((j : ℕ) → length (f j) ≡ c) → failing k (each n f) ≡ first n (λ j. failing (k + c * j) (f j))
  failing_turns c k n f h = failing_each k n f ∙ first_same n _ (λ j. failing (k + c * j) (f j)) (λ j l. ap (λ m. failing (k + m) (f j)) (length_each c j f h))

  -- by the list's places
  pub failing_at : 0 < number → (d : A) (k : ℕ) (l : List A) → first (length l) (λ i. unless (t (get_or l i d)) (fault number (k + i))) ≡ failing k l
  unfolding failing
  failing_at p d k [] = unfold first loop in refl
  failing_at p d k (x ∷ l) =
      first_cons (length l) (λ i. unless (t (get_or (x ∷ l) i d)) (fault number (k + i))) (unless_proper (t x) number (k + 0) p)
      ∙ ap₂ or_else (ap (λ j. unless (t x) (fault number j)) (add-zero k))
      (first_same (length l) _ _ (λ i m. let e : k + suc i ≡ k + 1 + i = omega arith in ap (λ j. unless (t (get_or l i d)) (fault number j)) e) ∙ failing_at p d (k + 1) l)

  pub failing_pair : 0 < number → (k : ℕ) (x y : A) → failing k (x ∷ y ∷ []) ≡ or_else (unless (t x) (fault number k)) (unless (t y) (fault number (k + 1)))
  unfolding failing
  failing_pair p k x y = ap (or_else (unless (t x) (fault number k))) (or_none (unless (t y) (fault number (k + 1))) (unless_proper (t y) number (k + 1) p))

  pub failing_keep : 0 < number → (k : ℕ) (c : Bool) (x : A) → failing k (keep c x) ≡ unless (not c || t x) (fault number k)
  unfolding failing
  failing_keep p k true x = or_none (unless (t x) (fault number k)) (unless_proper (t x) number k p)
  failing_keep p k false x = unfold unless in refl

-- the same elements by another test, and through a function
pub failing_same : {A : Type 0} (number : ℕ) (t u : A → Bool) (i k : ℕ) (l : List A) → AllFrom (λ j x. t x ≡ u x) i l → failing number t k l ≡ failing number u k l
unfolding failing
failing_same number t u i k [] h = refl
failing_same number t u i k (x ∷ l) h = ap₂ (λ b r. or_else (unless b (fault number k)) r) h.0 (failing_same number t u (i + 1) (k + 1) l h.1)

pub failing_map : {A : Type 0} {B : Type 0} (number : ℕ) (t : B → Bool) (f : A → B) (k : ℕ) (l : List A) → failing number t k (map f l) ≡ failing number (λ a. t (f a)) k l
unfolding failing
failing_map number t f k [] = refl
failing_map number t f k (x ∷ l) = ap (or_else (unless (t (f x)) (fault number k))) (failing_map number t f (k + 1) l)

-- ---- the lists of a list's elements, one after the other

module _ {A : Type 0} {B : Type 0} (f : A → List B) where
  unfoldable pub gather : List A → List B
  gather [] = []
  gather (a ∷ l) = f a ++ gather l

  pub gather_append : (l m : List A) → gather (l ++ m) ≡ gather l ++ gather m
  unfolding gather
  gather_append [] m = refl
  gather_append (a ∷ l) m = ap (λ r. f a ++ r) (gather_append l m) ∙ sym (append_assoc (f a) (gather l) (gather m))

  gather_one : (a : A) → gather (a ∷ []) ≡ f a
  unfolding gather
  gather_one a = append_none (f a)
    where
      append_none : (l : List B) → l ++ [] ≡ l
      append_none [] = refl
      append_none (b ∷ l) = ap (λ r. b ∷ r) (append_none l)

  pub gather_table : (n : ℕ) (g : ℕ → A) → gather (table n g) ≡ each n (λ i. f (g i))
  unfolding gather loop table each
  gather_table zero g = refl
  gather_table (suc n) g = gather_append (table n g) (g n ∷ []) ∙ ap₂ (λ l m. l ++ m) (gather_table n g) (gather_one (g n))

  pub gather_each : (n : ℕ) (g : ℕ → List A) → gather (each n g) ≡ each n (λ i. gather (g i))
  unfolding gather loop each
  gather_each zero g = refl
  gather_each (suc n) g = gather_append (each n g) (g n) ∙ ap (λ l. l ++ gather (g n)) (gather_each n g)

  -- what each element's own list has, all of them have
  pub all_gather : (P : ℕ → B → Type 0) (Q : ℕ → A → Type 0) → ((i : ℕ) (a : A) → Q i a → (m : ℕ) → AllFrom P m (f a)) → (i k : ℕ) (l : List A) → AllFrom Q i l → AllFrom P k (gather l)
  unfolding gather
  all_gather P Q h i k [] q = tt
  all_gather P Q h i k (a ∷ l) q = all_append P k (f a) (gather l) (h i a q.0 k) (all_gather P Q h (i + 1) (k + length (f a)) l q.1)

pub each_none : {A : Type 0} (n : ℕ) → each {A = A} n (λ i. []) ≡ []
unfolding loop each
each_none zero = refl
each_none (suc n) = ap (λ l. l ++ []) (each_none n)
