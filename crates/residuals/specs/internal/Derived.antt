-- What is worked out before the residuals.
use Rattle.std.specs.Prelude.{ℕ, ◌≡◌, List, Float}
use Rattle.derived.specs.Outputs.{own_objective}
use Rattle.residuals.specs.declared.cost.Costs.{Costs}
use Rattle.residuals.specs.Residuals.{epigraphs}

-- c holds the point's own objective, and residual 7
pub record CostsAre (ws : List ℕ) (xs x : List Float) (c : Costs) : Type 0 where
  pub objective_is : c.objective ≡ own_objective ws xs x
  pub epigraph_is : c.epigraph ≡ epigraphs ws xs x
