-- Document 02 (c): "A point check still agrees with the Rust whenever all eight are 1e-6". What the check answered with no list lent: 20 is
-- not among its refusals, and 16 goes by 1e-6 for every residual; all else is as it is now.
use Rattle.std.specs.Prelude.{ℕ, ◌<◌, ◌≡◌, List, [], ◌∷◌, ◌++◌, length, get_or, Float}
use Rattle.std.specs.Float.{nan}
use Rattle.base.specs.Fault.{Fault}
use Rattle.base.specs.Fault.{section, first_of, left}
use Rattle.base.specs.Refusal.{SHORT, RESIDUAL}
use Rattle.acopf.specs.Factor.{network_sections}
use Rattle.validate.specs.Tolerances.{tiny64, fault_above}
use Rattle.validate.specs.Check.{solved, fault_output, common_sections, answered, checked, outputs_after}

-- "whenever all eight are 1e-6"
pub record AllPrimal (ts : List Float) : Type 0 where
  pub eight : length ts ≡ 8
  pub each : (i : ℕ) → i < 8 → get_or ts i nan ≡ tiny64

module _ (ws : List ℕ) (xs x : List Float) (solver : Float) where
  -- the first refusal of 1 to 16
  abbrev pub check_before : ℕ → Fault
  check_before lent =
      let s = solved ws xs x solver in
      first_of (network_sections ws xs ++ (section (SHORT ∷ []) (fault_output ws xs x solver lent)
      ∷ (common_sections ws xs x solver s ++ (section (RESIDUAL ∷ []) (fault_above (λ i. tiny64) s.residuals) ∷ []))))

  -- the answer and the output list
  pub record AsBefore (ts : List Float) : Type 0 where
    pub answer : (lent : ℕ) → checked ws xs x solver ts lent ≡ answered (check_before lent) (solved ws xs x solver)
    pub outputs : (before : List Float)
        → outputs_after ws xs x solver ts before ≡ left (check_before (length before)) (solved ws xs x solver).outputs before
