-- What an accepted point is, piece by piece: the check says 0 exactly where Sound and Kept hold (accepted_exactly_kept, proofs/Kept.antt).
-- Accepted says the same with "not above" in place of "at most" (accepted_exactly, proofs/Accepts.antt).
use Rattle.std.specs.Prelude.{ℕ, ◌+◌, ◌*◌, ◌≤◌, ◌<◌, ◌≡◌, true, false, List, length, get_or, Float}
use Rattle.std.specs.Float.{nan}
use Rattle.std.specs.Float.Ieee.{lt, le}
use Rattle.base.specs.Fault.{clear}
use Rattle.float.specs.Number.{◌⊖◌, ◌⊘◌, zero64, one64, is_finite, absolute, maximum, AllFinite}
use Rattle.fdlibm.specs.Hypot.{hypotenuse}
use Rattle.network.specs.Network.{buses, generators, branches, references, from, to, angled, referred, curved, columns}
use Rattle.network.specs.Network.{angle_min, angle_max, s_max}
use Rattle.bounds.specs.Bounds.{angle_right, positive_violation}
use Rattle.piecewise_cost.specs.Curve.{curve_value}
use Rattle.acopf.specs.Columns.{column_lower, column_upper}
use Rattle.acopf.specs.Rows.{rated}
use Rattle.acopf.specs.Factor.{network_fault}
use Rattle.derived.specs.Outputs.{va, pg, epigraph, own_objective, flows, p_from, q_from, p_to, q_to, outputs}
use Rattle.residuals.specs.Residuals.{p_balance, q_balance}
use Rattle.validate.specs.Tolerances.{tolerance_right}

-- what refusals 1 to 15 and 20 ask
pub record Sound (ws : List ℕ) (xs x : List Float) (solver : Float) (ts : List Float) (lent : ℕ) : Type 0 where
  -- the network is not refused, the output list is long enough
  pub network : network_fault ws xs ≡ clear
  pub room : 2 * buses ws + 4 * branches ws ≤ lent
  -- there are eight tolerances, each finite and not below 0
  pub tolerances_given : length ts ≡ 8
  pub tolerances_right : (i : ℕ) → i < 8 → tolerance_right (get_or ts i nan) ≡ true
  -- the point has a finite number for each column, its angles from -1024 to 1024
  pub columns_given : length x ≡ columns ws
  pub point_finite : AllFinite x
  pub angles : (i : ℕ) → i < buses ws → angle_right (va ws x i) ≡ true
  -- what is calculated is finite
  pub outputs_finite : AllFinite (outputs ws xs x (flows ws xs x))
  pub solver_finite : is_finite solver ≡ true
  pub own_finite : is_finite (own_objective ws xs x) ≡ true

-- at most the tolerance t; a NaN is not
abbrev pub AtMost : Float → Float → Type 0
AtMost t x = le x t ≡ true

-- an accepted point leaves no bus, bound, angle, rating, curve or objective by more than its own tolerance, of the eight ts
pub record Kept (ws : List ℕ) (xs x : List Float) (solver : Float) (ts : List Float) : Type 0 where
  -- active balance: at every bus, of either sign
  pub active : (i : ℕ) → i < buses ws → AtMost (get_or ts 0 nan) (absolute (p_balance ws xs x (flows ws xs x) i))
  -- reactive balance: at every bus, of either sign
  pub reactive : (i : ℕ) → i < buses ws → AtMost (get_or ts 1 nan) (absolute (q_balance ws xs x (flows ws xs x) i))
  -- variable bounds: how far a column is below its lower bound
  pub lower : (j : ℕ) → j < columns ws → AtMost (get_or ts 2 nan) (get_or (column_lower ws xs) j nan ⊖ get_or x j nan)
  -- variable bounds: how far a column is above its upper bound
  pub upper : (j : ℕ) → j < columns ws → AtMost (get_or ts 2 nan) (get_or x j nan ⊖ get_or (column_upper ws xs) j nan)
  -- reference angles: at every reference's bus, of either sign
  pub reference : (r : ℕ) → r < references ws → AtMost (get_or ts 3 nan) (absolute (va ws x (referred ws r)))
  -- angle limits: how far the from angle minus the to angle is below an active angle_min
  pub angle_lower : (b : ℕ) → b < branches ws → angled ws b ≡ true
      → AtMost (get_or ts 4 nan) (angle_min ws xs b ⊖ (va ws x (from ws b) ⊖ va ws x (to ws b)))
  -- angle limits: how far it is above an active angle_max
  pub angle_upper : (b : ℕ) → b < branches ws → angled ws b ≡ true
      → AtMost (get_or ts 4 nan) (va ws x (from ws b) ⊖ va ws x (to ws b) ⊖ angle_max ws xs b)
  -- thermal limits: how far the hypotenuse of the flows at the from end is above an active s_max above 0
  pub rating_from : (b : ℕ) → b < branches ws → rated ws xs b ≡ true
      → AtMost (get_or ts 5 nan) (hypotenuse (p_from (flows ws xs x) b) (q_from (flows ws xs x) b) ⊖ s_max ws xs b)
  -- thermal limits: how far the hypotenuse of the flows at the to end is above it
  pub rating_to : (b : ℕ) → b < branches ws → rated ws xs b ≡ true
      → AtMost (get_or ts 5 nan) (hypotenuse (p_to (flows ws xs x) b) (q_to (flows ws xs x) b) ⊖ s_max ws xs b)
  -- epigraph: how far a curve's value is above its epigraph column
  pub curve : (g : ℕ) → g < generators ws → curved ws g ≡ true → AtMost (get_or ts 6 nan) (curve_value ws xs g (pg ws x g) ⊖ epigraph ws x g)
  -- objective difference over max(1, absolute objective)
  pub objective : AtMost (get_or ts 7 nan) (absolute (solver ⊖ own_objective ws xs x) ⊘ maximum (absolute (own_objective ws xs x)) one64)

-- not above the tolerance t, as the check's maxima have it; a NaN is not above either, and Kept says that there is none
abbrev pub NotAbove : Float → Float → Type 0
NotAbove t x = lt t x ≡ false

pub record Accepted (ws : List ℕ) (xs x : List Float) (solver : Float) (ts : List Float) (lent : ℕ) : Type 0 where
  pub sound : Sound ws xs x solver ts lent
  -- every bus is balanced
  pub active : (i : ℕ) → i < buses ws → NotAbove (get_or ts 0 nan) (absolute (p_balance ws xs x (flows ws xs x) i))
  pub reactive : (i : ℕ) → i < buses ws → NotAbove (get_or ts 1 nan) (absolute (q_balance ws xs x (flows ws xs x) i))
  -- every column is in its bounds, every reference angle is 0, every active angle bound and every rating is kept
  pub bounds : (j : ℕ) → j < columns ws
      → NotAbove (get_or ts 2 nan) (positive_violation (get_or x j nan) (get_or (column_lower ws xs) j nan) (get_or (column_upper ws xs) j nan))
  pub reference : (r : ℕ) → r < references ws → NotAbove (get_or ts 3 nan) (absolute (va ws x (referred ws r)))
  pub angle : (b : ℕ) → b < branches ws → angled ws b ≡ true
      → NotAbove (get_or ts 4 nan) (positive_violation (va ws x (from ws b) ⊖ va ws x (to ws b)) (angle_min ws xs b) (angle_max ws xs b))
  pub rating : (b : ℕ) → b < branches ws → rated ws xs b ≡ true
      → NotAbove (get_or ts 5 nan) (maximum (maximum (hypotenuse (p_from (flows ws xs x) b) (q_from (flows ws xs x) b))
      (hypotenuse (p_to (flows ws xs x) b) (q_to (flows ws xs x) b)) ⊖ s_max ws xs b) zero64)
  -- every epigraph column reaches its curve, and the solver's objective is the point's
  pub curve : (g : ℕ) → g < generators ws → curved ws g ≡ true
      → NotAbove (get_or ts 6 nan) (maximum (curve_value ws xs g (pg ws x g) ⊖ epigraph ws x g) zero64)
  pub objective : NotAbove (get_or ts 7 nan) (absolute (solver ⊖ own_objective ws xs x) ⊘ maximum (absolute (own_objective ws xs x)) one64)
