-- Refusals 20 and 16: their numbers and places, and what a list is that 20 passes.
use mathlib.Core.Path.{◌≡◌, ap}
use mathlib.Core.Bool.{true, false, not, ◌&&◌}
use mathlib.Core.List.{List}
use Prim.Native.Nat.{ℕ, ◌+◌, ◌<◌}
use native.Mathlib.Omega.{arith}
use lib.ListN.{length, get_or}
use lib.Dec.{eqb}
use lib.Ieee.{Float, nan, lt}
use borrow.Author.Tests.{eqb-true, eq-eqb, ne_eqb, not-true}
use Rattle.base.specs.Fault.{fault, unless, or_else, first}
use Rattle.base.specs.Refusal.{RESIDUAL, TOLERANCE}
use Rattle.base.proofs.Firsts.{Clear, Proper, Spans, spans_unless, spans_or, spans_first, or_go, or_left, or_right, or_clear}
use Rattle.base.proofs.Firsts.{unless_true, unless_clear, unless_proper, first_clear, all_clear, first_proper, FirstFail, first_fails}
use Rattle.float.specs.Number.{zero64, is_finite}
use Rattle.bounds.specs.Bounds.{bounds_right}
use Rattle.network.proofs.Places.{and_right}
use Rattle.tables.proofs.Right.{upper_right}
use Rattle.validate.specs.Tolerances.{tolerance_right, fault_tolerance, fault_above}

-- ---- 16

module _ (own : ℕ → Float) (residuals : List Float) where
  pub residual_spans : Spans RESIDUAL RESIDUAL (fault_above own residuals)
  unfolding fault_above
  residual_spans = spans_first _ (λ i. spans_unless _ RESIDUAL _ (omega arith) (omega arith))

  pub residual_proper : Proper (fault_above own residuals)
  unfolding fault_above
  residual_proper = first_proper _ _ (λ i. unless_proper _ RESIDUAL _ (omega arith))

  -- its place is that of the first residual above its tolerance, from 1
  pub residual_place : (Clear (fault_above own residuals) → ⊥)
      → FirstFail 8 (λ i. not (lt (own i) (get_or residuals i nan))) RESIDUAL (λ i. i + 1) (fault_above own residuals)
  unfolding fault_above
  residual_place c = first_fails 8 (λ i. not (lt (own i) (get_or residuals i nan))) RESIDUAL (λ i. i + 1) (omega arith) c

  -- it refuses nothing exactly where no residual is above
  pub none_above : Clear (fault_above own residuals) → (i : ℕ) → i < 8 → lt (own i) (get_or residuals i nan) ≡ false
  unfolding fault_above
  none_above c i l = not-true _ (unless_true _ RESIDUAL _ (omega arith) (first_clear 8 _ c i l))

  pub above_none : ((i : ℕ) → i < 8 → lt (own i) (get_or residuals i nan) ≡ false) → Clear (fault_above own residuals)
  unfolding fault_above
  above_none h = all_clear 8 _ (λ i l. ap (λ f. f.number) (unless_clear _ (fault RESIDUAL (i + 1)) (ap not (h i l))))

-- ---- 20

-- a tolerance that 20 passes is finite and not below 0
module _ (ts : List Float) (right : (i : ℕ) → i < 8 → tolerance_right (get_or ts i nan) ≡ true) where
  pub tolerances_finite : (i : ℕ) → i < 8 → is_finite (get_or ts i nan) ≡ true
  tolerances_finite i l = upper_right zero64 (get_or ts i nan) (right i l)

  pub tolerances_not_below : (i : ℕ) → i < 8 → lt (get_or ts i nan) zero64 ≡ false
  unfolding bounds_right
  tolerances_not_below i l = not-true _ (and_right (is_finite zero64 && is_finite (get_or ts i nan)) _ (right i l))

module _ (ts : List Float) where
  pub tolerance_spans : Spans TOLERANCE TOLERANCE (fault_tolerance ts)
  unfolding fault_tolerance
  tolerance_spans =
      spans_or (spans_unless _ TOLERANCE _ (omega arith) (omega arith)) (spans_first _ (λ i. spans_unless _ TOLERANCE _ (omega arith) (omega arith)))

  -- a list of other than eight: place 0, whatever is in it
  pub count_place : (length ts ≡ 8 → ⊥) → fault_tolerance ts ≡ fault TOLERANCE 0
  unfolding fault_tolerance or_else unless
  count_place ne = rw (ne_eqb (length ts) 8 ne)

  -- a list of eight: the first that is non-finite or below 0, from 1
  pub of_eight : length ts ≡ 8 → fault_tolerance ts ≡ first 8 (λ i. unless (tolerance_right (get_or ts i nan)) (fault TOLERANCE (i + 1)))
  unfolding fault_tolerance
  of_eight e =
      or_go (unless (eqb (length ts) 8) (fault TOLERANCE 0)) _
      (ap (λ f. f.number) (unless_clear (eqb (length ts) 8) (fault TOLERANCE 0) (eq-eqb _ _ e)))

  pub tolerance_place : length ts ≡ 8 → (Clear (fault_tolerance ts) → ⊥)
      → FirstFail 8 (λ i. tolerance_right (get_or ts i nan)) TOLERANCE (λ i. i + 1) (fault_tolerance ts)
  tolerance_place e c =
      let p = of_eight e in
      rw p (first_fails 8 (λ i. tolerance_right (get_or ts i nan)) TOLERANCE (λ i. i + 1) (omega arith) (λ z. c (rw p z)))

  -- it passes a list exactly where it has eight tolerances and each is right
  pub eight_given : Clear (fault_tolerance ts) → length ts ≡ 8
  unfolding fault_tolerance
  eight_given c = eqb-true _ _ (unless_true _ TOLERANCE 0 (omega arith) (or_left _ _ c))

  pub each_right : Clear (fault_tolerance ts) → (i : ℕ) → i < 8 → tolerance_right (get_or ts i nan) ≡ true
  unfolding fault_tolerance
  each_right c i l = unless_true _ TOLERANCE (i + 1) (omega arith) (first_clear 8 _ (or_right _ _ c) i l)

  pub right_clear : length ts ≡ 8 → ((i : ℕ) → i < 8 → tolerance_right (get_or ts i nan) ≡ true) → Clear (fault_tolerance ts)
  unfolding fault_tolerance
  right_clear e h =
      or_clear _ _ (ap (λ f. f.number) (unless_clear _ (fault TOLERANCE 0) (eq-eqb _ _ e)))
      (all_clear 8 _ (λ i l. ap (λ f. f.number) (unless_clear _ (fault TOLERANCE (i + 1)) (h i l))))
