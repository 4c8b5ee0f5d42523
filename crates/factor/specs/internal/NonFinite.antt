-- On the way to refusal 11: the numbers of a model that can be non-finite, each with its place. Its definition is in Factor; that no other
-- number can be is a law of proofs/Factors.
use Rattle.std.specs.Prelude.{ℕ, ◌+◌, ◌*◌, not, ◌||◌, List, length, get_or, Float}
use Rattle.std.specs.Float.{nan}
use Rattle.base.specs.Fault.{Fault}
use Rattle.base.specs.Fault.{fault, unless, or_else, first}
use Rattle.base.specs.Loop.{tally}
use Rattle.base.specs.Refusal.{FACTOR}
use Rattle.float.specs.Number.{is_finite}
use Rattle.network.specs.Network.{buses, branches, generators, curved, curve_at, rated, epigraph_column}
use Rattle.acopf.specs.Columns.{epigraph_start}
use Rattle.acopf.specs.Factor.{constants64}
use Rattle.acopf.specs.Model.{objective_constant}
use Rattle.piecewise_cost.specs.Curve.{slope, intercept}
use Rattle.pi_model.specs.Flow.{coefficients}
use Rattle.acopf.specs.Tallies.{row_segments, segments_before}

abbrev pub non_finite : Float → ℕ → Fault
non_finite x place = unless (is_finite x) (fault FACTOR place)

-- a branch's twelve coefficients
unfoldable pub coefficients_fault : List Float → ℕ → Fault
coefficients_fault cs place = first 12 (λ c. non_finite (get_or cs c nan) (place + c))

-- slope and intercept of each of a curve's first `count` segments
unfoldable pub segments_fault : List Float → ℕ → ℕ → ℕ → Fault
segments_fault xs at count place =
    first count (λ s. or_else (non_finite (slope xs at s) (place + 2 * s)) (non_finite (intercept xs at s) (place + 2 * s + 1)))

module _ (ws : List ℕ) (xs : List Float) where
  unfoldable pub branches_factor : Fault
  branches_factor = first (branches ws) (λ b. coefficients_fault (coefficients ws xs b) (12 * b))

  unfoldable pub curves_factor : ℕ → Fault
  curves_factor place = first (generators ws) (λ g. segments_fault xs (curve_at ws g) (row_segments ws g) (place + 2 * segments_before ws g))

  unfoldable pub epigraphs_factor : ℕ → Fault
  epigraphs_factor place =
      first (generators ws) (λ g. unless (not (curved ws g) || is_finite (epigraph_start ws xs g))
      (fault FACTOR (place + epigraph_column ws g)))

  -- what follows the branches' coefficients: the curves' constants, the objective constant, the epigraphs' starts
  abbrev pub curves_on : Fault
  curves_on =
      or_else (curves_factor (4 * buses ws + 16 * branches ws + 2 * tally (branches ws) (rated ws xs)))
      (or_else (non_finite (objective_constant ws xs) (length (constants64 ws xs))) (epigraphs_factor (length (constants64 ws xs) + 1)))
