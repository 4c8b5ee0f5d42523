-- Refusal 13: its number, and its place at the right length and at another.
use mathlib.Core.Path.{◌≡◌, ap}
use mathlib.Core.List.{List}
use Prim.Native.Nat.{ℕ}
use native.Mathlib.Omega.{arith}
use lib.ListN.{length, get_or}
use lib.Dec.{eqb}
use lib.Ieee.{Float, nan}
use borrow.Author.Tests.{eqb-true, eq-eqb, ne_eqb}
use Rattle.base.specs.Fault.{fault, unless, or_else}
use Rattle.base.specs.Refusal.{POINT}
use Rattle.base.proofs.Firsts.{Clear, Spans, spans_unless, spans_or, or_go, or_left, unless_true, unless_clear, FirstFail}
use Rattle.float.specs.Number.{is_finite}
use Rattle.lists.specs.Finite.{first_non_finite, point_fault}
use Rattle.lists.proofs.NonFinite.{non_finite_spans, non_finite_place}

module _ (x : List Float) (columns : ℕ) where
  pub point_spans : Spans POINT POINT (point_fault x columns)
  unfolding point_fault
  point_spans = spans_or (spans_unless _ POINT _ (omega arith) (omega arith)) (non_finite_spans POINT x)

  right_length : length x ≡ columns → point_fault x columns ≡ first_non_finite POINT x
  unfolding point_fault
  right_length e =
      or_go (unless (eqb (length x) columns) (fault POINT columns)) (first_non_finite POINT x)
      (ap (λ f. f.number) (unless_clear (eqb (length x) columns) (fault POINT columns) (eq-eqb _ _ e)))

  -- at the right length: the first non-finite column
  pub point_place : length x ≡ columns → (Clear (point_fault x columns) → ⊥) → FirstFail (length x) (λ j. is_finite (get_or x j nan)) POINT (λ j. j) (point_fault x columns)
  point_place e c = let p = right_length e in rw p (non_finite_place POINT x (omega arith) (λ z. c (rw p z)))

  -- at another length: the number of columns
  pub length_place : (length x ≡ columns → ⊥) → point_fault x columns ≡ fault POINT columns
  unfolding point_fault or_else unless
  length_place ne = rw (ne_eqb (length x) columns ne)

  pub point_given : Clear (point_fault x columns) → length x ≡ columns
  unfolding point_fault
  point_given c = eqb-true _ _ (unless_true _ POINT columns (omega arith) (or_left _ _ c))
