-- The first of a list that fails a test: what `position` finds, as a fault.
use mathlib.Core.Path.{◌≡◌, refl, ap}
use mathlib.Core.Bool.{Bool, true, false}
use mathlib.Core.List.{List}
use Prim.Native.Nat.{ℕ, ◌+◌, ◌<◌, ◌≤◌}
use native.Mathlib.Omega.{arith}
use lib.ListN.{length, get_or}
use Rattle.std.specs.List.{AllWithin, HoldsAt}
use Rattle.std.specs.Prelude.{Option, Some, None, MatchOption}
use Rattle.base.specs.Fault.{fault, fault_at, unless, first}
use Rattle.base.proofs.Firsts.{Clear, all_clear, unless_clear, unless_proper}
use Rattle.base.proofs.Scans.{first_same}
use Rattle.base.proofs.Turns.{test_here, first_done}

module _ {A : Type 0} (a : A) (right : A → Bool) (number : ℕ) (l : List A) where
  clears : (from m : ℕ) → m ≤ length l → AllWithin (λ x. right x ≡ true) l 0 m → Clear (first m (λ i. unless (right (get_or l i a)) (fault number (from + i))))
  clears from m h all = all_clear m _ (λ i q. ap (λ y. y.number) (unless_clear (right (get_or l i a)) (fault number (from + i)) (all i a (omega arith) q)))

  pub found_at : (from : ℕ) (r : Option ℕ) → 0 < number
      → MatchOption r (AllWithin (λ x. right x ≡ true) l 0 (length l))
      (λ i. (i < length l) × HoldsAt (λ x. right x ≡ false) l i × AllWithin (λ x. right x ≡ true) l 0 i)
      → fault_at number from r ≡ first (length l) (λ i. unless (right (get_or l i a)) (fault number (from + i)))
  found_at from None p h = first_done _ _ _ refl (λ j. unless_proper _ number _ p) (clears from (length l) (omega arith) h)
  found_at from (Some i) p h = test_here (λ j. right (get_or l j a)) number (λ j. from + j) (length l) i p h.0 (h.1 a) (clears from i (omega (arith, h.0)) h.2)

  -- from place 1
  pub from_one : (n : ℕ) → length l ≡ n → first (length l) (λ i. unless (right (get_or l i a)) (fault number (1 + i)))
      ≡ first n (λ i. unless (right (get_or l i a)) (fault number (i + 1)))
  from_one n e = rw e (first_same n _ _ (λ i q. let s : 1 + i ≡ i + 1 = omega arith in rw s refl))
