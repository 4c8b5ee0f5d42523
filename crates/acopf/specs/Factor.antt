-- Document 01, refusal 11: "non-finite constant (its number), objective constant (number of constants), start (that + 1 + column)";
-- and the first refusal of a network, 1 to 11.
use Rattle.std.specs.Prelude.{ℕ, List, [], ◌∷◌, ◌++◌, map, Float}
use Rattle.std.specs.Float.{binary64}
use Rattle.std.specs.Float.Ieee.{of_bits}
use Rattle.base.specs.Fault.{Fault}
use Rattle.base.specs.Fault.{Section, section, first_of}
use Rattle.base.specs.Refusal.{FACTOR}
use Rattle.lists.specs.Finite.{first_non_finite}
use Rattle.nl.specs.File.{model_constants}
use Rattle.tables.specs.Fault.{table_sections}
use Rattle.acopf.specs.Columns.{column_start}
use Rattle.acopf.specs.Model.{objective_constant, model}

module _ (ws : List ℕ) (xs : List Float) where
  -- the model's constants as numbers, "each occurrence .. a new constant"
  unfoldable pub constants64 : List Float
  constants64 = map (of_bits binary64) (model_constants (model ws xs))

  -- 11 factor
  unfoldable pub fault_factor : Fault
  fault_factor = first_non_finite FACTOR (constants64 ++ (objective_constant ws xs ∷ column_start ws xs))

  -- "Order is by number, except that 8, 9, 10 are taken branch by branch"
  abbrev pub network_sections : List Section
  network_sections = table_sections ws xs ++ (section (FACTOR ∷ []) fault_factor ∷ [])

  unfoldable pub network_fault : Fault
  network_fault = first_of network_sections
