-- A refusal of the check is the first.
use mathlib.Core.Path.{◌≡◌, refl}
use mathlib.Core.List.{List, [], ◌∷◌, ◌++◌}
use Prim.Native.Nat.{ℕ, ◌+◌, ◌*◌, ◌<◌}
use native.Mathlib.Omega.{arith}
use lib.ListN.{length, get_or, get_or-append}
use lib.Seq.{get_or-append-add}
use lib.Ieee.{Float, nan}
use Rattle.base.specs.Fault.{fault, or_else, section, first_of}
use Rattle.base.specs.Refusal.{RESIDUAL}
use Rattle.base.specs.Order.{IsFirst}
use Rattle.base.proofs.Firsts.{Clear, Proper, or_proper, Spans, spans_unless, spans_first, FirstFail, first_fails}
use Rattle.base.proofs.Order.{AllGive, gives_one, give_append, first_append, refusal_is_first}
use Rattle.lists.proofs.Point as by_length
use Rattle.acopf.specs.Factor.{network_sections, network_fault}
use Rattle.lists.proofs.NonFinite.{non_finite_spans, non_finite_place}
use Rattle.acopf.proofs.Order.{network_give}
use Rattle.float.specs.Number.{is_finite}
use Rattle.bounds.specs.Bounds.{angle_right}
use Rattle.network.specs.Network.{buses, branches, columns, va_column}
use Rattle.derived.specs.Outputs.{va, own_objective, flows, outputs}
use Rattle.derived.proofs.Outputs.{length_outputs}
use Rattle.validate.specs.Tolerances.{fault_residual}
use Rattle.validate.specs.Check.{Solved, solved, fault_output, fault_point, fault_swing, fault_derived, common_sections, point_sections, check_sections, fault_of, check_fault}
use Rattle.validate.proofs.Tolerances.{tolerance_spans, residual_spans, residual_proper}

module _ (ws : List ℕ) (xs x : List Float) (solver : Float) where
  pub output_spans : (lent : ℕ) → Spans 12 12 (fault_output ws xs x solver lent)
  unfolding fault_output
  output_spans lent = spans_unless _ 12 _ (omega arith) (omega arith)

  pub point_spans : Spans 13 13 (fault_point ws xs x solver)
  unfolding fault_point
  point_spans = by_length.point_spans x (columns ws)

  pub swing_spans : Spans 14 14 (fault_swing ws xs x solver)
  unfolding fault_swing
  swing_spans = spans_first _ (λ i. spans_unless _ 14 _ (omega arith) (omega arith))

  pub derived_spans : (s : Solved) → Spans 15 15 (fault_derived ws xs x solver s)
  unfolding fault_derived
  derived_spans s = non_finite_spans 15 _

  pub common_give : (s : Solved) → AllGive (common_sections ws xs x solver s)
  common_give s = (gives_one point_spans, (gives_one swing_spans, (gives_one (derived_spans s), tt)))

  module _ (ts : List Float) where
    point_give : (lent : ℕ) (s : Solved) → AllGive (point_sections ws xs x solver ts lent s)
    point_give lent s =
        let above = section (RESIDUAL ∷ []) (fault_residual ts s.residuals) ∷ [] in
        (gives_one (output_spans lent), (gives_one (tolerance_spans ts), give_append (common_sections ws xs x solver s) above (common_give s) (gives_one (residual_spans _ _), tt)))

    pub check_refusal : (lent : ℕ) → (Clear (check_fault ws xs x solver ts lent) → ⊥)
        → IsFirst (check_fault ws xs x solver ts lent) (check_sections ws xs x solver ts lent (solved ws xs x solver))
    unfolding check_fault fault_of
    check_refusal lent c =
        let s = solved ws xs x solver in
        refusal_is_first (check_sections ws xs x solver ts lent s)
        (give_append (network_sections ws xs) (point_sections ws xs x solver ts lent s) (network_give ws xs) (point_give lent s)) refl c

    -- the network's first, else the first of 12, 20 and 13 to 16
    pub check_is : (lent : ℕ) → check_fault ws xs x solver ts lent
        ≡ or_else (network_fault ws xs) (first_of (point_sections ws xs x solver ts lent (solved ws xs x solver)))
    unfolding check_fault fault_of network_fault
    check_is lent = first_append (network_sections ws xs) (point_sections ws xs x solver ts lent (solved ws xs x solver)) tt

    -- where it refuses nothing, its place is 0 too
    pub check_proper : (lent : ℕ) → Proper (check_fault ws xs x solver ts lent)
    check_proper lent =
        rw (check_is lent) (or_proper _ _ (or_proper _ _ (or_proper _ _ (or_proper _ _ (or_proper _ _ (or_proper _ _ (residual_proper _ _)))))))

  -- ---- the places

  -- 13, at the right length: the first non-finite column
  pub point_place : length x ≡ columns ws → (Clear (fault_point ws xs x solver) → ⊥) → FirstFail (length x) (λ j. is_finite (get_or x j nan)) 13 (λ j. j) (fault_point ws xs x solver)
  unfolding fault_point
  point_place = by_length.point_place x (columns ws)

  -- 13, at another length: the number of columns
  pub length_place : (length x ≡ columns ws → ⊥) → fault_point ws xs x solver ≡ fault 13 (columns ws)
  unfolding fault_point
  length_place = by_length.length_place x (columns ws)

  -- 14: the first va outside, its column
  pub swing_place : (Clear (fault_swing ws xs x solver) → ⊥) → FirstFail (buses ws) (λ i. angle_right (va ws x i)) 14 (λ i. va_column ws i) (fault_swing ws xs x solver)
  unfolding fault_swing
  swing_place c = first_fails (buses ws) (λ i. angle_right (va ws x i)) 14 (λ i. va_column ws i) (omega arith) c

  -- 15: the first non-finite output, its index; then the solver objective at 2n + 4m, and the own one after it
  abbrev pub derived : List Float
  derived = outputs ws xs x (flows ws xs x) ++ (solver ∷ own_objective ws xs x ∷ [])

  pub derived_place : (Clear (fault_derived ws xs x solver (solved ws xs x solver)) → ⊥)
      → FirstFail (length derived) (λ i. is_finite (get_or derived i nan)) 15 (λ i. i) (fault_derived ws xs x solver (solved ws xs x solver))
  unfolding fault_derived solved
  derived_place c = non_finite_place 15 derived (omega arith) c

  pub derived_output : (i : ℕ) → i < 2 * buses ws + 4 * branches ws → get_or derived i nan ≡ get_or (outputs ws xs x (flows ws xs x)) i nan
  derived_output i l =
      get_or-append (outputs ws xs x (flows ws xs x)) (solver ∷ own_objective ws xs x ∷ []) nan i (omega (arith, length_outputs ws xs x (flows ws xs x)))

  pub derived_solver : get_or derived (2 * buses ws + 4 * branches ws) nan ≡ solver
  derived_solver =
      let e : length (outputs ws xs x (flows ws xs x)) + 0 ≡ 2 * buses ws + 4 * branches ws = omega (arith, length_outputs ws xs x (flows ws xs x)) in
      rw e at (get_or-append-add (outputs ws xs x (flows ws xs x)) (solver ∷ own_objective ws xs x ∷ []) 0 nan)

  pub derived_own : get_or derived (2 * buses ws + 4 * branches ws + 1) nan ≡ own_objective ws xs x
  derived_own =
      let e : length (outputs ws xs x (flows ws xs x)) + 1 ≡ 2 * buses ws + 4 * branches ws + 1 = omega (arith, length_outputs ws xs x (flows ws xs x)) in
      rw e at (get_or-append-add (outputs ws xs x (flows ws xs x)) (solver ∷ own_objective ws xs x ∷ []) 1 nan)
