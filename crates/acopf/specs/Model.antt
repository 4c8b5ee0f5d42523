-- The objective, and the whole model that compile_ac_opf_model builds before augmentation (000).
use Rattle.std.specs.Prelude.{ℕ, cond, not, ◌&&◌, List, [], ◌∷◌, map, Float}
use Rattle.base.specs.Loop.{loop, table}
use Rattle.float.specs.Number.{◌⊕◌, ◌⊗◌, zero64, half64}
use Rattle.nl.specs.Expr.{Expr, column}
use Rattle.nl.specs.File.{Model, model_words}
use Rattle.network.specs.Network.{generators, costs, curved, pg_column, epigraph_column, cost_q, cost_c, cost0}
use Rattle.acopf.specs.Build.{square, scaled, terms, sum}
use Rattle.acopf.specs.Parts.{shared_parts}
use Rattle.acopf.specs.Rows.{rows}

module _ (ws : List ℕ) (xs : List Float) where
  -- a generator's term: its epigraph column, or its quadratic cost without the constant
  unfoldable pub cost_term : ℕ → Expr
  cost_term g =
      cond (curved ws g) (column (epigraph_column ws g))
      (sum (scaled (half64 ⊗ cost_q ws xs g) (square (column (pg_column ws g))) ∷ scaled (cost_c ws xs g) (column (pg_column ws g)) ∷ []))

  -- under header 1 a term for each generator, else none
  unfoldable pub objective : Expr
  objective = sum (cond (costs ws) (table (generators ws) cost_term) [])

  -- the objective constant: c0 of each generator without a curve, added from the left
  unfoldable pub objective_constant : Float
  objective_constant = loop (λ c g. cond (costs ws && not (curved ws g)) (c ⊕ cost0 ws xs g) c) zero64 (generators ws)

  -- the model of condition 2: shared parts, rows and objective
  unfoldable pub model : Model
  model = record { shared = terms (shared_parts ws xs); rows = terms (map (λ r. r.expression) (rows ws xs)); objective = objective }

  -- the words of its file
  unfoldable pub file_words : List ℕ
  file_words = model_words model
