-- Document 02 (c): "A point check still agrees with the Rust whenever all eight are 1e-6".
use Prim.Native.Nat.{ℕ, ◌+◌}
use native.Mathlib.Omega.{arith}
use mathlib.Core.Path.{◌≡◌, refl, ap, ◌∙◌}
use mathlib.Core.Bool.{true, not}
use mathlib.Core.List.{List}
use lib.ListN.{length, get_or, get_or-replicate}
use lib.Ieee.{Float, nan, lt, of_bits}
use Rattle.base.specs.Fault.{fault, unless, left}
use Rattle.base.specs.Refusal.{RESIDUAL}
use Rattle.base.proofs.Firsts.{Clear, or_go}
use Rattle.base.proofs.Scans.{first_same}
use Rattle.float.specs.Number.{is_finite}
use Rattle.bounds.specs.Bounds.{bounds_right}
use Rattle.validate.specs.Tolerances.{tiny64, tolerance_right, fault_tolerance, fault_above, fault_residual, primal_tolerances}
use Rattle.validate.specs.Check.{solved, fault_of, check_fault, checked, answered}
use Rattle.validate.proofs.Tolerances.{right_clear}
use Rattle.own_tolerances.specs.Before.{AllPrimal, check_before, AsBefore}

primal_right : tolerance_right tiny64 ≡ true
unfolding bounds_right is_finite lt of_bits
primal_right = refl

module _ (ts : List Float) (P : AllPrimal ts) where
  -- 20 refuses nothing
  passes : Clear (fault_tolerance ts)
  passes = right_clear ts P.eight (λ i l. ap tolerance_right (P.each i (omega (arith, l))) ∙ primal_right)

  -- 16 goes by 1e-6
  above_same : (residuals : List Float) → fault_residual ts residuals ≡ fault_above (λ i. tiny64) residuals
  unfolding fault_above
  above_same residuals =
      first_same 8 _ _ (λ i l. ap (λ t. unless (not (lt t (get_or residuals i nan))) (fault RESIDUAL (i + 1))) (P.each i (omega (arith, l))))

  module _ (ws : List ℕ) (xs x : List Float) (solver : Float) where
    check_same : (lent : ℕ) → check_fault ws xs x solver ts lent ≡ check_before ws xs x solver lent
    unfolding check_fault fault_of
    check_same lent = rw (or_go (fault_tolerance ts) _ passes, above_same (solved ws xs x solver).residuals)

    pub check_as_before : AsBefore ws xs x solver ts
    unfolding checked check_fault
    check_as_before =
        record {
          answer = λ lent. ap (λ f. answered f (solved ws xs x solver)) (check_same lent);
          outputs = λ before. ap (λ f. left f (solved ws xs x solver).outputs before) (check_same (length before));
        }

-- document 01's table is such a list
pub all_primal : AllPrimal primal_tolerances
unfolding primal_tolerances
all_primal = record { eight = refl; each = λ i l. get_or-replicate 8 i tiny64 nan l }
