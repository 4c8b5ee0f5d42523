-- All that follows the shared parts, in the file's order.
use Rattle.std.specs.Prelude.{ℕ, List, [], ◌∷◌, ◌++◌, Float}
use Rattle.base.specs.Loop.{each}
use Rattle.base.specs.Word.{word}
use Rattle.network.specs.declared.layout.Layout.{Layout}
use Rattle.writer.specs.internal.Tokens.{Token, fixed}
use Rattle.balance.specs.internal.Balance.{balances_of}
use Rattle.emit.specs.internal.Rows.{reference_tokens, angle_tokens, thermal_tokens, curve_tokens}
use Rattle.emit.specs.internal.Objective.{cost_count, objective_tokens}

module _ (ws : List ℕ) (xs : List Float) (l : Layout) where
  -- p balances, q balances, references
  unfoldable pub bus_rows : List Token
  bus_rows = balances_of ws xs l.buses ++ each l.references (reference_tokens ws)

  -- angle differences, thermal limits, segments
  unfoldable pub branch_rows : List Token
  branch_rows =
      each l.branches (angle_tokens ws)
      ++ (each l.branches (thermal_tokens ws xs l.buses) ++ each l.generators (curve_tokens ws xs))

  unfoldable pub objective_and_end : List Token
  objective_and_end = objective_tokens ws xs (cost_count l.costs l.generators) ++ (fixed (word 13 0) ∷ [])

  unfoldable pub row_tokens : List Token
  row_tokens = bus_rows ++ (branch_rows ++ objective_and_end)
