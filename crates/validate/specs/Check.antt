-- Document 01, "The accepted point", and refusals 12, 20 and 13 to 16: what the check answers, and what the lent output list then holds.
use Rattle.std.specs.Prelude.{ℕ, ◌+◌, ◌*◌, cond, List, [], ◌∷◌, ◌++◌, length, get_or, replicate, eqb, leb, ltb, Float, Result, Ok, Err}
use Rattle.std.specs.Float.{nan}
use Rattle.base.specs.Fault.{Fault}
use Rattle.base.specs.Fault.{fault, clear, unless, first, Section, section, first_of, left}
use Rattle.base.specs.Refusal.{SHORT, POINT, SWING, DERIVED, RESIDUAL, TOLERANCE}
use Rattle.float.specs.Number.{zero64}
use Rattle.network.specs.Network.{buses, branches, columns, va_column}
use Rattle.bounds.specs.Bounds.{angle_right}
use Rattle.lists.specs.Finite.{first_non_finite, point_fault}
use Rattle.acopf.specs.Factor.{network_sections, network_fault}
use Rattle.base.specs.declared.refusal.Refusal.{Refusal}
use Rattle.base.specs.Fault as base
use Rattle.validate.specs.declared.Checked.{Checked}
use Rattle.validate.specs.Tolerances.{fault_tolerance, fault_residual}
use Rattle.derived.specs.Outputs.{va, flows, outputs, own_objective}
use Rattle.residuals.specs.Residuals.{residuals}

-- residual i, from 0, across the C boundary; an index past 7 answers 0
unfoldable pub residual_at : List Float → ℕ → Float
residual_at residuals i = cond (ltb i 8) (get_or residuals i nan) zero64

-- the length of the outputs, from the network alone: 2n + 4m, and 0 for a refused network
unfoldable pub outputs_needed : List ℕ → List Float → ℕ
outputs_needed ws xs = cond (eqb (network_fault ws xs).number 0) (2 * buses ws + 4 * branches ws) 0

-- what the check says: a refusal's number and place, the objective and the eight residuals
pub record Answer : Type 0 where
  pub fault : Fault
  pub objective : Float
  pub residuals : List Float

abbrev pub objective_of : Result Float Refusal → Float
objective_of (Ok objective) = objective
objective_of (Err r) = zero64

abbrev pub answer_of : Checked → Answer
answer_of c = record { fault = base.fault_of c.verdict; objective = objective_of c.verdict; residuals = c.residuals }

-- what is calculated from a point
pub record Solved : Type 0 where
  pub outputs : List Float
  pub objective : Float
  pub residuals : List Float

-- "A refusal gives number and place, all else 0, except 16, which gives the residuals."
abbrev pub answered : Fault → Solved → Answer
answered f s =
    cond (eqb f.number 0) (record { fault = clear; objective = s.objective; residuals = s.residuals })
    (record { fault = f; objective = zero64; residuals = cond (eqb f.number RESIDUAL) s.residuals (replicate 8 zero64) })

module _ (ws : List ℕ) (xs x : List Float) (solver : Float) where
  unfoldable pub solved : Solved
  solved =
      let fs = flows ws xs x in
      record { outputs = outputs ws xs x fs; objective = own_objective ws xs x; residuals = residuals ws xs x fs solver }

  -- 12 short: "output list short; its number from 1", for the one output list, of length `lent`
  unfoldable pub fault_output : ℕ → Fault
  fault_output lent = unless (leb (2 * buses ws + 4 * branches ws) lent) (fault SHORT 1)

  -- 13 point: "wrong length (place: columns), else first non-finite column"
  unfoldable pub fault_point : Fault
  fault_point = point_fault x (columns ws)

  -- 14 swing: "va outside -1,024 to 1,024; column"
  unfoldable pub fault_swing : Fault
  fault_swing = first (buses ws) (λ i. unless (angle_right (va ws x i)) (fault SWING (va_column ws i)))

  -- 15 derived: "output non-finite, its index; solver objective 2n + 4m, own 2n + 4m + 1"
  unfoldable pub fault_derived : Solved → Fault
  fault_derived s = first_non_finite DERIVED (s.outputs ++ (solver ∷ s.objective ∷ []))

  -- 13 to 15 in their order, for the check and for the residuals alike
  abbrev pub common_sections : Solved → List Section
  common_sections s =
      section (POINT ∷ []) fault_point ∷ section (SWING ∷ []) fault_swing ∷ section (DERIVED ∷ []) (fault_derived s) ∷ []

  -- the check with the tolerances ts and an output list of length `lent`
  module _ (ts : List Float) where
    -- 12 to 16 in their order, with "Refusal 20, after 12 and before 13"
    abbrev pub point_sections : ℕ → Solved → List Section
    point_sections lent s =
        section (SHORT ∷ []) (fault_output lent) ∷ section (TOLERANCE ∷ []) (fault_tolerance ts)
        ∷ (common_sections s ++ (section (RESIDUAL ∷ []) (fault_residual ts s.residuals) ∷ []))

    -- "check 1-16"
    abbrev pub check_sections : ℕ → Solved → List Section
    check_sections lent s = network_sections ws xs ++ point_sections lent s

    unfoldable pub fault_of : ℕ → Solved → Fault
    fault_of lent s = first_of (check_sections lent s)

    unfoldable pub check_fault : ℕ → Fault
    check_fault lent = fault_of lent solved

    unfoldable pub checked : ℕ → Answer
    checked lent =
        let s = solved in
        let f = fault_of lent s in
        answered f s

    -- the output list after the call, from what it held before: the outputs in front and the rest as it was, or all as it was
    abbrev pub outputs_after : List Float → List Float
    outputs_after before = left (check_fault (length before)) solved.outputs before

  -- ---- the residuals and the objective of a point that the check may refuse with 16

  -- "Eight residuals", then the objective
  unfoldable pub reported : Solved → List Float
  reported s = s.residuals ++ (s.objective ∷ [])

  -- 12 short, for the one list that is written here, of length `lent`
  unfoldable pub fault_report : ℕ → Fault
  fault_report lent = unless (leb 9 lent) (fault SHORT 1)

  -- 12 to 15 in their order; no tolerance is asked, so that neither 20 nor 16 is among them
  abbrev pub report_sections : ℕ → Solved → List Section
  report_sections lent s = section (SHORT ∷ []) (fault_report lent) ∷ common_sections s

  -- 1 to 15 as the check's
  unfoldable pub residuals_fault : ℕ → Fault
  residuals_fault lent = first_of (network_sections ws xs ++ report_sections lent solved)

  -- that list after the call
  abbrev pub report_after : List Float → List Float
  report_after before = left (residuals_fault (length before)) (reported solved) before
