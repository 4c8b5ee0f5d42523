-- Refusal 11 of a network that 1 to 10 do not refuse: only a branch's coefficients, a curve's slopes and intercepts, the objective constant and
-- an epigraph's start can be non-finite, and each has its place in closed form.
use mathlib.Core.Path.{◌≡◌, refl, ap, ap₂, sym, ◌∙◌}
use mathlib.Core.List.{List, [], ◌∷◌, ◌++◌, map}
use mathlib.Core.Bool.{Bool, true, false, cond, not, ◌||◌}
use Prim.Native.Nat.{ℕ, ◌+◌, ◌*◌}
use native.Mathlib.Omega.{arith}
use native.Mathlib.Nat.{zero-add}
use lib.ListN.{length, get_or, length-append}
use lib.Dec.{T}
use lib.Ieee.{Float, nan, binary64, to_bits, of_bits, fits, div}
use lib.Ieee.Fits.{neg-fits, add-fits, sub-fits, div-fits}
use Rattle.base.specs.Fault.{Fault}
use Rattle.base.specs.Fault.{fault, clear, unless, or_else}
use Rattle.base.specs.Loop.{loop, table, each, keep}
use Rattle.base.proofs.Firsts.{Clear}
use Rattle.base.proofs.Loops.{Every, every_nil, every_cons, every_append, every_table, length_table, length_each, length_kept}
use Rattle.base.proofs.Scans.{or_assoc, none_or, first_same, failing, failing_append, failing_pass, failing_none, failing_each, failing_turns, failing_at, failing_pair, failing_keep, failing_same, failing_map, gather, gather_append, gather_table, gather_each, all_gather, each_none}
use Rattle.base.proofs.Totals.{total, total_same, total_times, length_turns}
use Rattle.float.specs.Number.{is_finite, zero64}
use Rattle.nl.specs.Expr.{Expr, constants, constants_of, column}
use Rattle.nl.specs.File.{model_constants}
use Rattle.tables.specs.Fault.{fault_tables}
use Rattle.network.specs.Network.{buses, generators, branches, vm_bounded, capable, curved, segments, curve_at, epigraphs_before, epigraph_column, vm_column}
use Rattle.tables.proofs.Right.{lower_right, upper_right, words_clear, vm_right, pg_right, qg_right}
use Rattle.acopf.specs.Build.{square, terms}
use Rattle.acopf.specs.Columns.{vm_lower, vm_upper, pg_lower, pg_upper, qg_lower, qg_upper, va_start, vm_start, pg_start, qg_start, epigraph_start, column_start}
use Rattle.piecewise_cost.specs.Curve.{slope, intercept}
use Rattle.lists.specs.Finite.{first_non_finite}
use Rattle.acopf.specs.Factor.{constants64, fault_factor}
use Rattle.pi_model.specs.Flow.{coefficients_of, coefficients}
use Rattle.acopf.specs.Model.{objective, objective_constant, model}
use Rattle.acopf.specs.Tallies.{row_segments, segments_before}
use Rattle.factor.specs.internal.NonFinite.{non_finite, coefficients_fault, segments_fault, branches_factor, curves_factor, epigraphs_factor}
use Rattle.acopf.specs.Parts.{branch_parts, shared_parts}
use Rattle.acopf.specs.Rows.{Row, segment_row, segment_rows, rows}
use Rattle.acopf.proofs.Constants.{EachRow}
use Rattle.factor.proofs.Fine.{finite_bits, FiniteBits, rows_fine, objective_fine}
use Rattle.acopf.proofs.Finite.{zero_finite, huge_finite, low_finite, bound_finite}
use Rattle.factor.proofs.Numbers.{back_finite, finite_or_finite, start_finite}
use Rattle.acopf.proofs.Sizes.{first_rows, ratings, shared_constants, first_constants}

-- ---- the constants of expressions, one after the other

constants_gather : (l : List Expr) → constants_of (terms l) ≡ gather constants l
unfolding gather constants
constants_gather [] = refl
constants_gather (e ∷ l) = ap (λ r. constants e ++ r) (constants_gather l)

abbrev row_constants : Row → List ℕ
row_constants r = constants r.expression

rows_gather : (l : List Row) → constants_of (terms (map (λ r. r.expression) l)) ≡ gather row_constants l
unfolding gather constants
rows_gather [] = refl
rows_gather (r ∷ l) = ap (λ m. constants r.expression ++ m) (rows_gather l)

-- the first non-finite number of a list, from place k on
abbrev first_from : ℕ → List Float → Fault
first_from = failing 11 is_finite

abbrev first_bits : ℕ → List ℕ → Fault
first_bits = failing 11 finite_bits

first_from_is : (l : List Float) → first_non_finite 11 l ≡ first_from 0 l
unfolding first_non_finite
first_from_is l = first_same (length l) _ _ (λ i h. ap (non_finite (get_or l i nan)) (sym (zero-add i))) ∙ failing_at 11 is_finite (omega arith) nan 0 l

module _ (ws : List ℕ) (xs : List Float) where
  -- ---- coefficients

  part_constants : (b : ℕ) → gather constants (branch_parts ws xs b) ≡ map (to_bits binary64) (coefficients ws xs b)
  unfolding branch_parts coefficients_of gather constants
  part_constants b = refl

  coefficients_kept : (b : ℕ) → Every (λ j x. finite_bits (to_bits binary64 x) ≡ is_finite x) 0 (coefficients ws xs b)
  unfolding coefficients_of
  coefficients_kept b =
      every_cons (over _ _) (every_cons (over _ _) (every_cons (over _ _) (every_cons (over _ _) (every_cons (over _ _) (every_cons (over _ _)
      (every_cons (back_finite _ (add-fits binary64 _ _)) (every_cons (over _ _) (every_cons (over _ _)
      (every_cons (back_finite _ (neg-fits binary64 _ (add-fits binary64 _ _))) (every_cons (over _ _) (every_cons (over _ _) every_nil)))))))))))
    where
      over : (x y : Float) → finite_bits (to_bits binary64 (div binary64 x y)) ≡ is_finite (div binary64 x y)
      over x y = back_finite (div binary64 x y) (div-fits binary64 x y)

  coefficients_are : (b k : ℕ) → first_bits k (gather constants (branch_parts ws xs b)) ≡ coefficients_fault (coefficients ws xs b) k
  unfolding coefficients_fault coefficients_of
  coefficients_are b k =
      ap (first_bits k) (part_constants b) ∙ failing_map 11 finite_bits (to_bits binary64) k (coefficients ws xs b)
      ∙ failing_same 11 (λ x. finite_bits (to_bits binary64 x)) is_finite 0 k (coefficients ws xs b) (coefficients_kept b).all
      ∙ sym (failing_at 11 is_finite (omega arith) nan k (coefficients ws xs b))

  shared_are : first_bits 0 (constants_of (terms (shared_parts ws xs))) ≡ branches_factor ws xs
  unfolding shared_parts branches_factor coefficients_of
  shared_are =
      ap (first_bits 0) (constants_gather (shared_parts ws xs) ∙ gather_append constants squares parts ∙ ap₂ (λ l m. l ++ m) no_squares (gather_each constants (branches ws) (branch_parts ws xs)))
      ∙ failing_turns 11 finite_bits 12 0 (branches ws) (λ b. gather constants (branch_parts ws xs b)) (λ b. ap length (part_constants b))
      ∙ first_same (branches ws) _ _ (λ b l. coefficients_are b (0 + 12 * b) ∙ ap (coefficients_fault (coefficients ws xs b)) (zero-add (12 * b)))
    where
      squares : List Expr
      squares = table (buses ws) (λ i. square (column (vm_column ws i)))

      parts : List Expr
      parts = each (branches ws) (branch_parts ws xs)

      no_squares : gather constants squares ≡ []
      no_squares = gather_table constants (buses ws) (λ i. square (column (vm_column ws i))) ∙ unfold constants in each_none (buses ws)

  -- ---- slopes and intercepts

  segment_constants : (g s : ℕ) → row_constants (segment_row ws xs g s) ≡ to_bits binary64 (slope xs (curve_at ws g) s) ∷ to_bits binary64 (intercept xs (curve_at ws g) s) ∷ []
  unfolding segment_row constants
  segment_constants g s = refl

  curve_constants : (g : ℕ) → gather row_constants (segment_rows ws xs g) ≡ each (row_segments ws g) (λ s. row_constants (segment_row ws xs g s))
  unfolding segment_rows
  curve_constants g = go (curved ws g)
    where
      go : (b : Bool) → gather row_constants (cond b (table (segments ws g) (segment_row ws xs g)) []) ≡ each (cond b (segments ws g) 0) (λ s. row_constants (segment_row ws xs g s))
      go true = gather_table row_constants (segments ws g) (segment_row ws xs g)
      go false = unfold gather loop each in refl

  segment_are : (g s k : ℕ) → first_bits k (row_constants (segment_row ws xs g s)) ≡ or_else (non_finite (slope xs (curve_at ws g) s) k) (non_finite (intercept xs (curve_at ws g) s) (k + 1))
  unfolding slope intercept
  segment_are g s k =
      ap (first_bits k) (segment_constants g s) ∙ failing_pair 11 finite_bits (omega arith) k _ _
      ∙ ap₂ (λ a b. or_else (unless a (fault 11 k)) (unless b (fault 11 (k + 1)))) (back_finite _ (div-fits binary64 _ _)) (back_finite _ (sub-fits binary64 _ _))

  curve_are : (g k : ℕ) → first_bits k (gather row_constants (segment_rows ws xs g)) ≡ segments_fault xs (curve_at ws g) (row_segments ws g) k
  unfolding segments_fault
  curve_are g k =
      ap (first_bits k) (curve_constants g)
      ∙ failing_turns 11 finite_bits 2 k (row_segments ws g) (λ s. row_constants (segment_row ws xs g s)) (λ s. ap length (segment_constants g s))
      ∙ first_same (row_segments ws g) _ _ (λ s l. segment_are g s (k + 2 * s))

  segments_length : (g : ℕ) → length (each g (λ j. gather row_constants (segment_rows ws xs j))) ≡ 2 * segments_before ws g
  unfolding segments_before
  segments_length g =
      length_turns g (λ j. gather row_constants (segment_rows ws xs j))
      ∙ total_same g _ (λ j. 2 * row_segments ws j) (λ j l. ap length (curve_constants j) ∙ length_each 2 (row_segments ws j) (λ s. row_constants (segment_row ws xs j s)) (λ s. ap length (segment_constants j s)))
      ∙ total_times 2 g (row_segments ws) ∙ unfold total in refl

  segments_are : (k : ℕ) → first_bits k (gather row_constants (each (generators ws) (segment_rows ws xs))) ≡ curves_factor ws xs k
  unfolding curves_factor
  segments_are k =
      ap (first_bits k) (gather_each row_constants (generators ws) (segment_rows ws xs))
      ∙ failing_each 11 finite_bits k (generators ws) (λ g. gather row_constants (segment_rows ws xs g))
      ∙ first_same (generators ws) _ _ (λ g l. curve_are g _ ∙ ap (λ m. segments_fault xs (curve_at ws g) (row_segments ws g) (k + m)) (segments_length g))

  -- ---- starts

  epigraphs_are : (k : ℕ) → first_from (k + (2 * buses ws + 2 * generators ws)) (each (generators ws) (λ g. keep (curved ws g) (epigraph_start ws xs g))) ≡ epigraphs_factor ws xs k
  unfolding epigraphs_factor epigraphs_before
  epigraphs_are k =
      failing_each 11 is_finite _ (generators ws) (λ g. keep (curved ws g) (epigraph_start ws xs g))
      ∙ first_same (generators ws) _ _ (λ g l. failing_keep 11 is_finite (omega arith) _ (curved ws g) (epigraph_start ws xs g)
      ∙ ap (λ p. unless (not (curved ws g) || is_finite (epigraph_start ws xs g)) (fault 11 p)) (place g))
    where
      place : (g : ℕ) → k + (2 * buses ws + 2 * generators ws) + length (each g (λ j. keep (curved ws j) (epigraph_start ws xs j))) ≡ k + epigraph_column ws g
      place g = omega (arith, length_kept g (curved ws) (epigraph_start ws xs))

  -- va, vm, pg, qg
  abbrev first_starts : List Float
  first_starts = table (buses ws) (va_start ws xs) ++ table (buses ws) (vm_start ws xs) ++ table (generators ws) (pg_start ws xs) ++ table (generators ws) (qg_start ws xs)

  starts_length : length first_starts ≡ 2 * buses ws + 2 * generators ws
  starts_length =
      let a = table (buses ws) (va_start ws xs) in
      let b = table (buses ws) (vm_start ws xs) in
      let c = table (generators ws) (pg_start ws xs) in
      let d = table (generators ws) (qg_start ws xs) in
      omega (
        arith,
        length-append (a ++ b ++ c) d,
        length-append (a ++ b) c,
        length-append a b,
        length_table (buses ws) (va_start ws xs),
        length_table (buses ws) (vm_start ws xs),
        length_table (generators ws) (pg_start ws xs),
        length_table (generators ws) (qg_start ws xs),
      )

  module _ (right : Clear (fault_tables ws xs)) where
    starts_finite : Every (λ j x. is_finite x ≡ true) 0 first_starts
    unfolding va_start vm_start pg_start qg_start vm_lower vm_upper pg_lower pg_upper qg_lower qg_upper
    starts_finite =
        every_append (every_append (every_append
        (every_table (buses ws) _ (λ i l. finite_or_finite _ zero64 zero_finite))
        (every_table (buses ws) _ (λ i l. start_finite _ _ _ (bound_finite (vm_bounded ws i) _ _ (λ on. lower_right _ _ (vm_right ws xs right i l on)) zero_finite) (bound_finite (vm_bounded ws i) _ _ (λ on. upper_right _ _ (vm_right ws xs right i l on)) huge_finite))))
        (every_table (generators ws) _ (λ g l. start_finite _ _ _ (bound_finite (capable ws g) _ _ (λ on. lower_right _ _ (pg_right ws xs right g l on)) low_finite) (bound_finite (capable ws g) _ _ (λ on. upper_right _ _ (pg_right ws xs right g l on)) huge_finite))))
        (every_table (generators ws) _ (λ g l. start_finite _ _ _ (bound_finite (capable ws g) _ _ (λ on. lower_right _ _ (qg_right ws xs right g l on)) low_finite) (bound_finite (capable ws g) _ _ (λ on. upper_right _ _ (qg_right ws xs right g l on)) huge_finite)))

    starts_are : (k : ℕ) → first_from k (column_start ws xs) ≡ epigraphs_factor ws xs k
    unfolding column_start
    starts_are k =
        failing_pass 11 is_finite k first_starts (each (generators ws) (λ g. keep (curved ws g) (epigraph_start ws xs g))) starts_finite
        ∙ ap (λ m. first_from (k + m) (each (generators ws) (λ g. keep (curved ws g) (epigraph_start ws xs g)))) starts_length
        ∙ epigraphs_are k

    module _ (F : (j : ℕ) → T (fits binary64 (get_or xs j nan))) where
      first_finite : Every FiniteBits 0 (gather row_constants (first_rows ws xs))
      first_finite = record { all = all_gather row_constants FiniteBits (EachRow FiniteBits) (λ i r h. h.its) 0 0 (first_rows ws xs) (rows_fine ws xs right F).all }

      -- the place of the first slope
      abbrev pub at_segments : ℕ
      at_segments = 4 * buses ws + 16 * branches ws + 2 * ratings ws xs

      rows_are : first_bits (12 * branches ws) (constants_of (terms (map (λ r. r.expression) (rows ws xs)))) ≡ curves_factor ws xs at_segments
      unfolding rows
      rows_are =
          ap (first_bits (12 * branches ws)) (rows_gather (rows ws xs) ∙ gather_append row_constants (first_rows ws xs) (each (generators ws) (segment_rows ws xs)))
          ∙ failing_pass 11 finite_bits (12 * branches ws) (gather row_constants (first_rows ws xs)) (gather row_constants (each (generators ws) (segment_rows ws xs))) first_finite
          ∙ segments_are _ ∙ ap (curves_factor ws xs) place
        where
          place : 12 * branches ws + length (gather row_constants (first_rows ws xs)) ≡ at_segments
          place = omega (arith, ap length (rows_gather (first_rows ws xs)), first_constants ws xs (words_clear ws xs right))

      constants_are : first_from 0 (constants64 ws xs) ≡ or_else (branches_factor ws xs) (or_else (curves_factor ws xs at_segments) clear)
      unfolding constants64 model model_constants
      constants_are =
          let S = constants_of (terms (shared_parts ws xs)) in
          let R = constants_of (terms (map (λ r. r.expression) (rows ws xs))) in
          let O = constants (objective ws xs) in
          failing_map 11 is_finite (of_bits binary64) 0 (model_constants (model ws xs)) ∙ failing_append 11 finite_bits 0 S (R ++ O)
          ∙ ap₂ or_else shared_are (ap (λ k. first_bits k (R ++ O)) (zero-add (length S) ∙ shared_constants ws xs)
          ∙ failing_append 11 finite_bits (12 * branches ws) R O ∙ ap₂ or_else rows_are (failing_none 11 finite_bits 0 _ O ((objective_fine ws xs right F).its 0)))

      -- 11 looks at these four, in this order
      pub factor_is : fault_factor ws xs
          ≡ or_else (branches_factor ws xs) (or_else (curves_factor ws xs at_segments)
          (or_else (non_finite (objective_constant ws xs) (length (constants64 ws xs))) (epigraphs_factor ws xs (length (constants64 ws xs) + 1))))
      unfolding fault_factor
      factor_is =
          let C = constants64 ws xs in
          first_from_is (C ++ (objective_constant ws xs ∷ column_start ws xs)) ∙ failing_append 11 is_finite 0 C (objective_constant ws xs ∷ column_start ws xs)
          ∙ ap₂ or_else constants_are (ap (λ k. first_from k (objective_constant ws xs ∷ column_start ws xs)) (zero-add (length C)) ∙ rest)
          ∙ or_assoc (branches_factor ws xs) _ later ∙ ap (or_else (branches_factor ws xs)) (or_assoc (curves_factor ws xs at_segments) clear later ∙ ap (or_else (curves_factor ws xs at_segments)) (none_or later))
        where
          later : Fault
          later = or_else (non_finite (objective_constant ws xs) (length (constants64 ws xs))) (epigraphs_factor ws xs (length (constants64 ws xs) + 1))

          rest : first_from (length (constants64 ws xs)) (objective_constant ws xs ∷ column_start ws xs) ≡ later
          rest = unfold failing in ap (or_else (non_finite (objective_constant ws xs) (length (constants64 ws xs)))) (starts_are (length (constants64 ws xs) + 1))
