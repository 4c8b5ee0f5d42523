-- A refusal of 1 to 11 is the first, and 11 looks at constants, objective constant and starts, in this order.
use mathlib.Core.Path.{◌≡◌, refl}
use mathlib.Core.List.{List, [], ◌∷◌, ◌++◌}
use Prim.Native.Nat.{ℕ, suc, ◌+◌, ◌<◌}
use native.Mathlib.Omega.{arith}
use native.Mathlib.Nat.{add-zero}
use lib.ListN.{length, get_or, get_or-append}
use lib.Seq.{get_or-append-add}
use lib.Ieee.{Float, nan}
use Rattle.base.specs.Fault.{or_else, section}
use Rattle.base.specs.Order.{IsFirst}
use Rattle.base.proofs.Firsts.{Clear, Spans, Proper, or_proper, unless_proper, first_proper, FirstFail}
use Rattle.base.proofs.Order.{AllGive, gives_one, give_append, first_append, refusal_is_first}
use Rattle.float.specs.Number.{is_finite}
use Rattle.lists.specs.Finite.{first_non_finite}
use Rattle.lists.proofs.NonFinite.{non_finite_spans, non_finite_place}
use Rattle.tables.specs.Fault.{table_sections, fault_tables}
use Rattle.tables.proofs.Order.{tables_give}
use Rattle.acopf.specs.Columns.{column_start}
use Rattle.acopf.specs.Factor.{constants64, fault_factor, network_sections, network_fault}
use Rattle.acopf.specs.Model.{objective_constant}

module _ (ws : List ℕ) (xs : List Float) where
  -- what 11 looks at: the constants by their numbers, then at the number of constants the objective constant, then at that + 1 + column the starts
  abbrev pub factors : List Float
  factors = constants64 ws xs ++ (objective_constant ws xs ∷ column_start ws xs)

  pub factor_place : (Clear (fault_factor ws xs) → ⊥) → FirstFail (length factors) (λ i. is_finite (get_or factors i nan)) 11 (λ i. i) (fault_factor ws xs)
  unfolding fault_factor
  factor_place c = non_finite_place 11 factors (omega arith) c

  pub factor_constant : (i : ℕ) → i < length (constants64 ws xs) → get_or factors i nan ≡ get_or (constants64 ws xs) i nan
  factor_constant i l = get_or-append (constants64 ws xs) (objective_constant ws xs ∷ column_start ws xs) nan i l

  pub factor_objective : get_or factors (length (constants64 ws xs)) nan ≡ objective_constant ws xs
  factor_objective = rw add-zero at (get_or-append-add (constants64 ws xs) (objective_constant ws xs ∷ column_start ws xs) 0 nan)

  pub factor_start : (j : ℕ) → get_or factors (length (constants64 ws xs) + 1 + j) nan ≡ get_or (column_start ws xs) j nan
  factor_start j =
      let e : length (constants64 ws xs) + suc j ≡ length (constants64 ws xs) + 1 + j = omega arith in
      rw e at (get_or-append-add (constants64 ws xs) (objective_constant ws xs ∷ column_start ws xs) (suc j) nan)

  factor_spans : Spans 11 11 (fault_factor ws xs)
  unfolding fault_factor
  factor_spans = non_finite_spans 11 _

  pub network_give : AllGive (network_sections ws xs)
  network_give = give_append (table_sections ws xs) (section (11 ∷ []) (fault_factor ws xs) ∷ []) (tables_give ws xs) (gives_one factor_spans, tt)

  -- of the eight sections of 1 to 10 and of 11
  pub network_refusal : (Clear (network_fault ws xs) → ⊥) → IsFirst (network_fault ws xs) (network_sections ws xs)
  unfolding network_fault
  network_refusal c = refusal_is_first (network_sections ws xs) network_give refl c

  -- the first of 1 to 10, else 11
  pub network_is : network_fault ws xs ≡ or_else (fault_tables ws xs) (fault_factor ws xs)
  unfolding network_fault fault_tables
  network_is = first_append (table_sections ws xs) (section (11 ∷ []) (fault_factor ws xs) ∷ []) tt

  -- a clear answer has place 0 too
  pub network_proper : Proper (network_fault ws xs)
  unfolding fault_factor first_non_finite
  network_proper = rw network_is (or_proper _ _ (first_proper _ _ (λ i. unless_proper _ 11 i (omega arith))))
