-- The counts are those of the lists.
use mathlib.Core.Path.{◌≡◌, refl, ap, ap₂, ◌∙◌}
use mathlib.Core.List.{List, [], ◌∷◌, ◌++◌, map}
use Prim.Native.Nat.{ℕ, suc, ◌+◌, ◌*◌}
use native.Mathlib.Omega.{arith}
use lib.ListN.{length, length-append, length-map}
use lib.Ieee.{Float, neg}
use Rattle.base.proofs.Loops.{length_table, length_each, length_kept}
use Rattle.base.specs.Loop.{table, each, keep}
use Rattle.nl.specs.Expr.{Expr, count, column}
use Rattle.nl.specs.File.{model_constants}
use Rattle.bounds.specs.Bounds.{huge64}
use Rattle.network.specs.Network.{buses, generators, branches, curved, epigraphs_before, columns, vm_column}
use Rattle.acopf.specs.Build.{square, terms}
use Rattle.acopf.specs.Columns.{vm_lower, vm_upper, pg_lower, pg_upper, qg_lower, qg_upper, va_start, vm_start, pg_start, qg_start, epigraph_start, column_lower, column_upper, column_start}
use Rattle.acopf.specs.Factor.{constants64}
use Rattle.acopf.specs.Model.{model}
use Rattle.acopf.specs.Parts.{branch_parts, shared_parts}
use Rattle.acopf.specs.Rows.{rows, row_lower, row_upper}

pub count_terms : (es : List Expr) → count (terms es) ≡ length es
count_terms [] = refl
count_terms (e ∷ es) = ap suc (count_terms es)

-- five lists, one after the other
five : {A : Type 0} (a b c d e : List A) → length (a ++ b ++ c ++ d ++ e) ≡ length a + length b + length c + length d + length e
five a b c d e =
    omega (arith, length-append (a ++ b ++ c ++ d) e, length-append (a ++ b ++ c) d, length-append (a ++ b) c, length-append a b)

module _ (ws : List ℕ) (xs : List Float) where
  pub lower_columns : length (column_lower ws xs) ≡ columns ws
  unfolding column_lower columns
  lower_columns =
      five (table (buses ws) (λ i. neg huge64)) (table (buses ws) (vm_lower ws xs)) (table (generators ws) (pg_lower ws xs)) (table (generators ws) (qg_lower ws xs)) (table (epigraphs_before ws (generators ws)) (λ e. neg huge64))
      ∙ omega (arith, length_table (buses ws) (λ i. neg huge64), length_table (buses ws) (vm_lower ws xs), length_table (generators ws) (pg_lower ws xs), length_table (generators ws) (qg_lower ws xs), length_table (epigraphs_before ws (generators ws)) (λ e. neg huge64))

  pub upper_columns : length (column_upper ws xs) ≡ columns ws
  unfolding column_upper columns
  upper_columns =
      five (table (buses ws) (λ i. huge64)) (table (buses ws) (vm_upper ws xs)) (table (generators ws) (pg_upper ws xs)) (table (generators ws) (qg_upper ws xs)) (table (epigraphs_before ws (generators ws)) (λ e. huge64))
      ∙ omega (arith, length_table (buses ws) (λ i. huge64), length_table (buses ws) (vm_upper ws xs), length_table (generators ws) (pg_upper ws xs), length_table (generators ws) (qg_upper ws xs), length_table (epigraphs_before ws (generators ws)) (λ e. huge64))

  pub start_columns : length (column_start ws xs) ≡ columns ws
  unfolding column_start columns epigraphs_before
  start_columns =
      five (table (buses ws) (va_start ws xs)) (table (buses ws) (vm_start ws xs)) (table (generators ws) (pg_start ws xs)) (table (generators ws) (qg_start ws xs)) (each (generators ws) (λ g. keep (curved ws g) (epigraph_start ws xs g)))
      ∙ omega (arith, length_table (buses ws) (va_start ws xs), length_table (buses ws) (vm_start ws xs), length_table (generators ws) (pg_start ws xs), length_table (generators ws) (qg_start ws xs), length_kept (generators ws) (curved ws) (epigraph_start ws xs))

  pub lower_rows : length (row_lower ws xs) ≡ length (rows ws xs)
  unfolding row_lower
  lower_rows = length-map (rows ws xs) _

  pub upper_rows : length (row_upper ws xs) ≡ length (rows ws xs)
  unfolding row_upper
  upper_rows = length-map (rows ws xs) _

  pub model_rows : count (model ws xs).rows ≡ length (rows ws xs)
  unfolding model
  model_rows = count_terms (map (λ r. r.expression) (rows ws xs)) ∙ length-map (rows ws xs) _

  pub length_shared : length (shared_parts ws xs) ≡ buses ws + 8 * branches ws
  unfolding shared_parts branch_parts
  length_shared =
      length-append (table (buses ws) (λ i. square (column (vm_column ws i)))) (each (branches ws) (branch_parts ws xs))
      ∙ ap₂ (λ x y. x + y) (length_table (buses ws) _) (length_each 8 (branches ws) (branch_parts ws xs) (λ j. refl))

  pub model_shared : count (model ws xs).shared ≡ buses ws + 8 * branches ws
  unfolding model
  model_shared = count_terms (shared_parts ws xs) ∙ length_shared

  pub count_constants : length (constants64 ws xs) ≡ length (model_constants (model ws xs))
  unfolding constants64
  count_constants = length-map (model_constants (model ws xs)) _
