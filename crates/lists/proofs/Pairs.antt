-- The first pair of two lists that fails a test: what `position` over `zip` finds, as a fault.
use mathlib.Core.Path.{◌≡◌, refl, sym, ap, ◌∙◌}
use mathlib.Core.Bool.{Bool, true, false}
use mathlib.Core.List.{List, [], ◌∷◌}
use Prim.Native.Nat.{ℕ, zero, suc, ◌+◌, ◌<◌, ◌≤◌}
use native.Mathlib.Omega.{arith}
use lib.ListN.{length, get_or}
use Rattle.std.specs.List.{zip, AllWithin, HoldsAt}
use Rattle.std.specs.Prelude.{Option, Some, None, MatchOption}
use Rattle.base.specs.Fault.{fault, fault_at, unless, first}
use Rattle.base.proofs.Firsts.{Clear, all_clear, unless_clear, unless_proper}
use Rattle.base.proofs.Turns.{test_here, first_done}

module _ {A B : Type 0} (a : A) (b : B) where
  zip_length : (xs : List A) (ys : List B) → length xs ≡ length ys → length (zip xs ys) ≡ length xs
  zip_length [] ys e = refl
  zip_length (x ∷ xs) [] e = sym e
  zip_length (x ∷ xs) (y ∷ ys) e = let h = zip_length xs ys (omega (arith, e)) in omega (arith, h)

  zip_at : (xs : List A) (ys : List B) (i : ℕ) → i < length xs → i < length ys → get_or (zip xs ys) i (a, b) ≡ (get_or xs i a, get_or ys i b)
  zip_at [] ys i h k = absurd (omega arith)
  zip_at (x ∷ xs) [] i h k = absurd (omega arith)
  zip_at (x ∷ xs) (y ∷ ys) zero h k = refl
  zip_at (x ∷ xs) (y ∷ ys) (suc i) h k = zip_at xs ys i (omega arith) (omega arith)

  module _ (right : A → B → Bool) (number : ℕ) (xs : List A) (ys : List B) (n : ℕ) (e : length xs ≡ n) (k : length ys ≡ n) where
    abbrev test : ℕ → Bool
    test i = right (get_or xs i a) (get_or ys i b)

    passes : (i : ℕ) → i < n → right (get_or (zip xs ys) i (a, b)).0 (get_or (zip xs ys) i (a, b)).1 ≡ true → test i ≡ true
    passes i l h = rw (zip_at xs ys i (omega (arith, e)) (omega (arith, k))) at h

    clears : (m : ℕ) → m ≤ n → AllWithin (λ p. right p.0 p.1 ≡ true) (zip xs ys) 0 m → Clear (first m (λ i. unless (test i) (fault number (i + 1))))
    clears m l h = all_clear m _ (λ i q. ap (λ y. y.number) (unless_clear (test i) (fault number (i + 1)) (passes i (omega arith) (h i (a, b) (omega arith) q))))

    -- what `position` finds, counted from 1
    pub pair_found : 0 < number → (r : Option ℕ)
        → MatchOption r (AllWithin (λ p. right p.0 p.1 ≡ true) (zip xs ys) 0 (length (zip xs ys)))
        (λ i. (i < length (zip xs ys)) × HoldsAt (λ p. right p.0 p.1 ≡ false) (zip xs ys) i × AllWithin (λ p. right p.0 p.1 ≡ true) (zip xs ys) 0 i)
        → fault_at number 1 r ≡ first n (λ i. unless (right (get_or xs i a) (get_or ys i b)) (fault number (i + 1)))
    pair_found p None h =
        first_done _ n n refl (λ j. unless_proper _ number _ p) (clears n (omega arith) (rw (zip_length xs ys (e ∙ sym k) ∙ e) at h))
    pair_found p (Some i) h =
        let l : i < n = omega (arith, zip_length xs ys (e ∙ sym k), e, h.0) in
        let place : 1 + i ≡ i + 1 = omega arith in
        rw place (test_here test number (λ j. j + 1) n i p l (rw (zip_at xs ys i (omega (arith, e)) (omega (arith, k))) at (h.1 (a, b))) (clears i (omega arith) h.2))
