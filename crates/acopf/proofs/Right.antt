-- What a network that is not refused has: finite bounds of all columns, and finite constants, so finite slopes and intercepts of its curves.
use mathlib.Core.Path.{◌≡◌, ap, sym, ◌∙◌}
use mathlib.Core.List.{List, [], ◌∷◌, ◌++◌, map}
use mathlib.Core.Bool.{true}
use Prim.Native.Nat.{ℕ, suc, ◌+◌, ◌<◌}
use native.Mathlib.Omega.{arith}
use lib.Dec.{T}
use lib.ListN.{length}
use lib.Ieee.{Float, nan, binary64, of_bits, to_bits, fits}
use lib.Ieee.Bits.{of_bits-to_bits}
use lib.Ieee.Fits.{div-fits, sub-fits}
use Rattle.base.specs.Fault.{clear}
use Rattle.base.specs.Loop.{table, each, keep}
use Rattle.base.proofs.Firsts.{Clear, or_left, or_right}
use Rattle.base.proofs.Loops.{AllFrom, Every, every_append, every_table, all_left, all_right, all_at, all_of_each, get_d_table, length_table}
use Rattle.float.specs.Number.{is_finite, AllFinite}
use Rattle.float.proofs.Finite.{finite_append}
use Rattle.nl.specs.Expr.{constants, constants_of}
use Rattle.nl.specs.File.{model_constants}
use Rattle.tables.specs.Fault.{fault_tables}
use Rattle.network.specs.Network.{buses, generators, branches, references, vm_bounded, capable, angled, curved, segments, curve_at, epigraphs_before}
use Rattle.tables.proofs.Right.{lower_right, upper_right, vm_right, pg_right, qg_right}
use Rattle.acopf.specs.Build.{terms}
use Rattle.acopf.specs.Columns.{vm_lower, vm_upper, pg_lower, pg_upper, qg_lower, qg_upper, column_lower, column_upper, column_start}
use Rattle.piecewise_cost.specs.Curve.{slope, intercept}
use Rattle.acopf.specs.Factor.{constants64, fault_factor, network_fault}
use Rattle.acopf.specs.Model.{objective, objective_constant, model}
use Rattle.acopf.specs.Parts.{shared_parts}
use Rattle.acopf.specs.Rows.{Row, p_balance_row, q_balance_row, reference_row, angle_row, thermal_rows, segment_row, segment_rows, rows}
use Rattle.lists.proofs.NonFinite.{non_finite_clear}
use Rattle.acopf.proofs.Finite.{zero_finite, huge_finite, low_finite, bound_finite}
use Rattle.acopf.proofs.Order.{network_is}

-- ---- the columns' bounds

abbrev Finite : ℕ → Float → Type 0
Finite j x = is_finite x ≡ true

all_finite : (l : List Float) → Every Finite 0 l → AllFinite l
all_finite l e j h = all_at Finite 0 l e.all j nan h

module _ (ws : List ℕ) (xs : List Float) (right : Clear (fault_tables ws xs)) where
  pub lower_finite : AllFinite (column_lower ws xs)
  unfolding column_lower vm_lower pg_lower qg_lower
  lower_finite =
      all_finite (column_lower ws xs) (every_append (every_append (every_append (every_append
      (every_table (buses ws) _ (λ i l. low_finite))
      (every_table (buses ws) _ (λ i l. bound_finite (vm_bounded ws i) _ _ (λ on. lower_right _ _ (vm_right ws xs right i l on)) zero_finite)))
      (every_table (generators ws) _ (λ g l. bound_finite (capable ws g) _ _ (λ on. lower_right _ _ (pg_right ws xs right g l on)) low_finite)))
      (every_table (generators ws) _ (λ g l. bound_finite (capable ws g) _ _ (λ on. lower_right _ _ (qg_right ws xs right g l on)) low_finite)))
      (every_table (epigraphs_before ws (generators ws)) _ (λ e l. low_finite)))

  pub upper_finite : AllFinite (column_upper ws xs)
  unfolding column_upper vm_upper pg_upper qg_upper
  upper_finite =
      all_finite (column_upper ws xs) (every_append (every_append (every_append (every_append
      (every_table (buses ws) _ (λ i l. huge_finite))
      (every_table (buses ws) _ (λ i l. bound_finite (vm_bounded ws i) _ _ (λ on. upper_right _ _ (vm_right ws xs right i l on)) huge_finite)))
      (every_table (generators ws) _ (λ g l. bound_finite (capable ws g) _ _ (λ on. upper_right _ _ (pg_right ws xs right g l on)) huge_finite)))
      (every_table (generators ws) _ (λ g l. bound_finite (capable ws g) _ _ (λ on. upper_right _ _ (qg_right ws xs right g l on)) huge_finite)))
      (every_table (epigraphs_before ws (generators ws)) _ (λ e l. huge_finite)))

-- ---- the constants, by their patterns

abbrev FiniteAt : ℕ → ℕ → Type 0
FiniteAt i bits = is_finite (of_bits binary64 bits) ≡ true

finite_patterns : (i : ℕ) (l : List ℕ) → AllFinite (map (of_bits binary64) l) → AllFrom FiniteAt i l
finite_patterns i [] h = tt
finite_patterns i (b ∷ l) h = (h 0 (omega arith), finite_patterns (i + 1) l (λ j k. h (suc j) (omega arith)))

-- where a list's first number stands does not matter here
moved : (i j : ℕ) (l : List ℕ) → AllFrom FiniteAt i l → AllFrom FiniteAt j l
moved i j [] h = tt
moved i j (b ∷ l) h = (h.0, moved (i + 1) (j + 1) l h.1)

abbrev RowFinite : ℕ → Row → Type 0
RowFinite i r = AllFrom FiniteAt 0 (constants r.expression)

row_patterns : (i j : ℕ) (l : List Row) → AllFrom FiniteAt i (constants_of (terms (map (λ r. r.expression) l))) → AllFrom RowFinite j l
unfolding constants
row_patterns i j [] h = tt
row_patterns i j (r ∷ l) h = (moved i 0 (constants r.expression) (all_left FiniteAt i (constants r.expression) _ h), row_patterns (i + length (constants r.expression)) (j + 1) l (all_right FiniteAt i (constants r.expression) _ h))

came_back : (x : Float) → T (fits binary64 x) → is_finite (of_bits binary64 (to_bits binary64 x)) ≡ true → is_finite x ≡ true
came_back x f h = ap is_finite (sym (of_bits-to_bits binary64 x f)) ∙ h

module _ (ws : List ℕ) (xs : List Float) (accepted : network_fault ws xs ≡ clear) where
  pub tables_clear : Clear (fault_tables ws xs)
  tables_clear = or_left (fault_tables ws xs) (fault_factor ws xs) (ap (λ f. f.number) (sym (network_is ws xs) ∙ accepted))

  -- 11: constants, objective constant and starts are finite
  pub constants_finite : AllFinite (constants64 ws xs) × AllFinite (objective_constant ws xs ∷ column_start ws xs)
  unfolding fault_factor
  constants_finite =
      (finite_append (constants64 ws xs) (objective_constant ws xs ∷ column_start ws xs)).0
      ((non_finite_clear 11 _ (omega arith)).0 (or_right (fault_tables ws xs) (fault_factor ws xs) (ap (λ f. f.number) (sym (network_is ws xs) ∙ accepted))))

  -- ---- the curves' slopes and intercepts are among them

  segment_patterns : (g s : ℕ) → g < generators ws → curved ws g ≡ true → s < segments ws g → AllFrom FiniteAt 0 (constants (segment_row ws xs g s).expression)
  unfolding constants64 model_constants model rows segment_rows
  segment_patterns g s l c k =
      let all = finite_patterns 0 (model_constants (model ws xs)) constants_finite.0 in
      let later = all_right FiniteAt 0 (constants_of (terms (shared_parts ws xs))) _ all in
      let of_rows = row_patterns _ 0 (rows ws xs) (all_left FiniteAt _ (constants_of (terms (map (λ r. r.expression) (rows ws xs)))) (constants (objective ws xs)) later) in
      let p = table (buses ws) (p_balance_row ws xs) in
      let q = table (buses ws) (q_balance_row ws xs) in
      let r = table (references ws) (reference_row ws xs) in
      let a = each (branches ws) (λ b. keep (angled ws b) (angle_row ws xs b)) in
      let t = each (branches ws) (thermal_rows ws xs) in
      let own = all_of_each RowFinite _ (generators ws) (segment_rows ws xs) (all_right RowFinite 0 (p ++ q ++ r ++ a ++ t) (each (generators ws) (segment_rows ws xs)) of_rows) g l in
      of_table _ (rw c at own)
    where
      of_table : (i : ℕ) → AllFrom RowFinite i (table (segments ws g) (segment_row ws xs g)) → RowFinite 0 (segment_row ws xs g s)
      of_table i h =
          let e = get_d_table (segments ws g) (segment_row ws xs g) (segment_row ws xs g s) s k in
          rw e at (all_at RowFinite i (table (segments ws g) (segment_row ws xs g)) h s (segment_row ws xs g s) (omega (arith, length_table (segments ws g) (segment_row ws xs g))))

  pub slope_finite : (g s : ℕ) → g < generators ws → curved ws g ≡ true → s < segments ws g → is_finite (slope xs (curve_at ws g) s) ≡ true
  unfolding segment_row constants slope
  slope_finite g s l c k = came_back (slope xs (curve_at ws g) s) (div-fits binary64 _ _) (segment_patterns g s l c k).0

  pub intercept_finite : (g s : ℕ) → g < generators ws → curved ws g ≡ true → s < segments ws g → is_finite (intercept xs (curve_at ws g) s) ≡ true
  unfolding segment_row constants intercept
  intercept_finite g s l c k = came_back (intercept xs (curve_at ws g) s) (sub-fits binary64 _ _) (segment_patterns g s l c k).1.0
