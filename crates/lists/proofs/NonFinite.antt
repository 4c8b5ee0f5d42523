-- Laws of the first number that is not finite: in the front of a list, and in lists one after the other.
use mathlib.Core.Path.{◌≡◌, refl, ap, sym}
use mathlib.Core.Bool.{true, false}
use mathlib.Core.Logic.{◌↔◌}
use mathlib.Core.List.{List, ◌++◌}
use Prim.Native.Nat.{ℕ, zero, suc, ◌+◌, ◌<◌}
use native.Mathlib.Nat.{zero-add, add-zero}
use native.Mathlib.Omega.{arith}
use lib.Ieee.{Float, nan}
use lib.ListN.{length, get_or, length-append, get_or-append}
use lib.Seq.{get_or-append-add}
use Rattle.base.specs.Fault.{Fault}
use Rattle.base.specs.Fault.{fault, fault_at, unless, or_else, first}
use Rattle.base.specs.Loop.{loop}
use Rattle.std.specs.List.{AllWithin, HoldsAt}
use Rattle.std.specs.Prelude.{Option, MatchOption}
use Rattle.base.proofs.Firsts.{Clear, Proper, unless_proper, first_proper, unless_true, unless_clear, first_clear, all_clear}
use Rattle.base.proofs.Firsts.{Spans, spans_unless, spans_first, FirstFail, first_fails}
use Rattle.base.proofs.Scans.{or_none, or_assoc, first_same}
use Rattle.float.specs.Number.{is_finite, AllFinite}
use Rattle.lists.proofs.Found.{found_at}
use Rattle.lists.specs.Finite.{first_non_finite}
use Rattle.lists.specs.internal.From.{non_finite_from}

-- m, then n more
pub first_sum : (m n : ℕ) (f : ℕ → Fault) → ((i : ℕ) → Proper (f i)) → first (m + n) f ≡ or_else (first m f) (first n (λ i. f (m + i)))
unfolding first loop
first_sum m zero f p = rw add-zero (sym (or_none (first m f) (first_proper m f p)))
first_sum m (suc n) f p =
    let e : m + suc n ≡ suc (m + n) = omega arith in
    rw (e, first_sum m n f p) (or_assoc (first m f) (first n (λ i. f (m + i))) (f (m + n)))

module _ (number from : ℕ) where
  -- a list after another
  pub non_finite_append : (a b : List Float) (next : ℕ) → 0 < number → next ≡ from + length a
      → non_finite_from number from (a ++ b) ≡ or_else (non_finite_from number from a) (non_finite_from number next b)
  unfolding non_finite_from
  non_finite_append a b next h e =
      rw (
        length-append a b,
        first_sum (length a) (length b) (λ i. unless (is_finite (get_or (a ++ b) i nan)) (fault number (from + i))) (λ i. unless_proper _ number _ h),
        first_same (length a) (λ i. unless (is_finite (get_or (a ++ b) i nan)) (fault number (from + i))) (λ i. unless (is_finite (get_or a i nan)) (fault number (from + i))) (λ i l. rw (get_or-append a b nan i l)),
        first_same (length b) (λ i. unless (is_finite (get_or (a ++ b) (length a + i) nan)) (fault number (from + (length a + i)))) (λ i. unless (is_finite (get_or b i nan)) (fault number (next + i)))
            (λ i l. let q : from + (length a + i) ≡ next + i = omega arith in rw (get_or-append-add a b i nan, q)),
      )

  -- what `position` finds
  pub found : (l : List Float) (r : Option ℕ) → 0 < number
      → MatchOption r (AllWithin (λ x. is_finite x ≡ true) l 0 (length l))
      (λ i. (i < length l) × HoldsAt (λ x. is_finite x ≡ false) l i × AllWithin (λ x. is_finite x ≡ true) l 0 i)
      → fault_at number from r ≡ non_finite_from number from l
  unfolding non_finite_from
  found l r p h = found_at nan is_finite number l from r p h

  -- a whole list
  pub non_finite_whole : (l : List Float) → first (length l) (λ i. unless (is_finite (get_or l i nan)) (fault number (from + i))) ≡ non_finite_from number from l
  unfolding non_finite_from
  non_finite_whole l = refl

-- from place 0
pub non_finite_zero : (number : ℕ) (l : List Float) → non_finite_from number 0 l ≡ first_non_finite number l
unfolding non_finite_from first_non_finite
non_finite_zero number l = first_same (length l) _ _ (λ i q. rw zero-add)

-- a list is not refused exactly where all its numbers are finite
pub non_finite_clear : (number : ℕ) (l : List Float) → 0 < number → Clear (first_non_finite number l) ↔ AllFinite l
unfolding first_non_finite
non_finite_clear number l h = (
  λ c j k. unless_true _ number j h (first_clear (length l) _ c j k),
  λ f. all_clear (length l) _ (λ j k. ap (λ y. y.number) (unless_clear (is_finite (get_or l j nan)) (fault number j) (f j k))),
)

pub non_finite_spans : (number : ℕ) (l : List Float) → Spans number number (first_non_finite number l)
unfolding first_non_finite
non_finite_spans number l = spans_first _ (λ i. spans_unless _ number _ (omega arith) (omega arith))

-- the first that is not finite, at its index
pub non_finite_place : (number : ℕ) (l : List Float) → 0 < number → (Clear (first_non_finite number l) → ⊥) → FirstFail (length l) (λ i. is_finite (get_or l i nan)) number (λ i. i) (first_non_finite number l)
unfolding first_non_finite
non_finite_place number l h c = first_fails (length l) (λ i. is_finite (get_or l i nan)) number (λ i. i) h c
