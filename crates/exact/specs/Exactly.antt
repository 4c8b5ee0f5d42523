-- What an accepted point keeps in exact numbers. A finite double is a whole number of units of 2^-1074 (`units`, `size`, `above` and
-- `excess` of rounding specs/Units), so that each sentence here is one about whole numbers, and nothing in it is rounded.
-- Flows, balances and the values of curves are those that the check works out: how far they are from exact ones is not said here.
use Rattle.std.specs.Prelude.{ℕ, ◌+◌, ◌*◌, ◌^◌, ◌≤◌, ◌<◌, max, ◌≡◌, true, List, get_or, ℤ, ◌-ℤ◌, nat_abs, Float}
use Rattle.std.specs.Float.{nan}
use Rattle.float.specs.Number.{◌⊖◌, one64, is_finite, absolute, maximum}
use Rattle.rounding.specs.Units.{units, size, above, excess}
use Rattle.hypot_error.specs.Exact.{exact_square, Upper}
use Rattle.network.specs.Network.{buses, generators, branches, references, from, to, angled, referred, curved, columns}
use Rattle.network.specs.Network.{angle_min, angle_max, s_max}
use Rattle.piecewise_cost.specs.Curve.{curve_value}
use Rattle.acopf.specs.Columns.{column_lower, column_upper}
use Rattle.acopf.specs.Rows.{rated}
use Rattle.derived.specs.Outputs.{va, pg, epigraph, own_objective, flows, p_from, q_from, p_to, q_to}
use Rattle.residuals.specs.Residuals.{p_balance, q_balance}

-- at most the tolerance t, but for one part in 2^53 of it
abbrev pub UpTo : ℕ → Float → Type 0
UpTo amount t = 2 ^ 53 * amount ≤ (2 ^ 53 + 1) * size t

-- the exact apparent power of the flows p and q is at most the rating s and the tolerance t together, but for 5 parts in 2^53
pub record Rated (p q s t : Float) : Type 0 where
  -- where s + t is above 2^-1022
  pub usual : 2 ^ 52 < size s + size t → Upper 5 (exact_square p q) (size s + size t)
  -- whatever s and t are, a t of 0 among them: with one unit of 2^-1074
  pub least : Upper 5 (exact_square p q) (size s + size t + 1)

-- the from angle minus the to angle of branch b: as worked out, and exactly
module _ (ws : List ℕ) (x : List Float) (b : ℕ) where
  abbrev pub difference : Float
  difference = va ws x (from ws b) ⊖ va ws x (to ws b)

  abbrev pub exact_difference : ℤ
  exact_difference = units (va ws x (from ws b)) -ℤ units (va ws x (to ws b))

-- ts are the tolerances of the eight residuals
pub record KeptExactly (ws : List ℕ) (xs x : List Float) (solver : Float) (ts : List Float) : Type 0 where
  -- balances: at every bus, of either sign
  pub active : (i : ℕ) → i < buses ws → size (p_balance ws xs x (flows ws xs x) i) ≤ size (get_or ts 0 nan)
  pub reactive : (i : ℕ) → i < buses ws → size (q_balance ws xs x (flows ws xs x) i) ≤ size (get_or ts 1 nan)
  -- variable bounds: how far a column is below its lower bound, and above its upper bound
  pub lower : (j : ℕ) → j < columns ws → UpTo (excess (get_or (column_lower ws xs) j nan) (get_or x j nan)) (get_or ts 2 nan)
  pub upper : (j : ℕ) → j < columns ws → UpTo (excess (get_or x j nan) (get_or (column_upper ws xs) j nan)) (get_or ts 2 nan)
  -- reference angles: at every reference's bus, of either sign
  pub reference : (r : ℕ) → r < references ws → size (va ws x (referred ws r)) ≤ size (get_or ts 3 nan)
  -- angle limits: how far the difference worked out is below an active angle_min, and above an active angle_max
  pub angle_lower : (b : ℕ) → b < branches ws → angled ws b ≡ true → UpTo (excess (angle_min ws xs b) (difference ws x b)) (get_or ts 4 nan)
  pub angle_upper : (b : ℕ) → b < branches ws → angled ws b ≡ true → UpTo (excess (difference ws x b) (angle_max ws xs b)) (get_or ts 4 nan)
  -- the same of the exact difference: one part in 2^53 of the difference comes to it
  pub angles_lower : (b : ℕ) → b < branches ws → angled ws b ≡ true
      → 2 ^ 53 * above (units (angle_min ws xs b) -ℤ exact_difference ws x b)
      ≤ (2 ^ 53 + 1) * size (get_or ts 4 nan) + size (difference ws x b)
  pub angles_upper : (b : ℕ) → b < branches ws → angled ws b ≡ true
      → 2 ^ 53 * above (exact_difference ws x b -ℤ units (angle_max ws xs b))
      ≤ (2 ^ 53 + 1) * size (get_or ts 4 nan) + size (difference ws x b)
  -- thermal limits: at both ends of every branch with an active s_max above 0
  pub rating_from : (b : ℕ) → b < branches ws → rated ws xs b ≡ true
      → Rated (p_from (flows ws xs x) b) (q_from (flows ws xs x) b) (s_max ws xs b) (get_or ts 5 nan)
  pub rating_to : (b : ℕ) → b < branches ws → rated ws xs b ≡ true
      → Rated (p_to (flows ws xs x) b) (q_to (flows ws xs x) b) (s_max ws xs b) (get_or ts 5 nan)
  -- epigraph: how far a curve's value, where it is not minus infinity, is above its epigraph column
  pub curve : (g : ℕ) → g < generators ws → curved ws g ≡ true → is_finite (curve_value ws xs g (pg ws x g)) ≡ true
      → UpTo (excess (curve_value ws xs g (pg ws x g)) (epigraph ws x g)) (get_or ts 6 nan)
  -- objective: the difference is at most max(1, absolute objective) times the tolerance, but for one part in 2^53 of the tolerance, or of
  -- 2^-1022 where that is more, and for one part in 2^53 of the whole
  pub objective : 2 ^ 53 * (2 ^ 53 * (nat_abs (units solver -ℤ units (own_objective ws xs x)) * 2 ^ 1074))
      ≤ (2 ^ 53 + 1) * ((2 ^ 53 * size (get_or ts 7 nan) + max (size (get_or ts 7 nan)) (2 ^ 52))
      * size (maximum (absolute (own_objective ws xs x)) one64))

-- The ratings alone, with u(x) = x * 2^1074 and t the tolerance of the thermal limits:
-- 2^106 * (u(p)^2 + u(q)^2) <= ((2^53 + 5) * (u(s_max) + u(t)))^2, at both ends of every branch with an active s_max above 0, where s_max
-- and t together are above 2^-1022, as they are where one of them is.
abbrev pub RatingsExact : List ℕ → List Float → List Float → Float → Type 0
RatingsExact ws xs x t =
    (b : ℕ) → b < branches ws → rated ws xs b ≡ true → 2 ^ 52 < size (s_max ws xs b) + size t
    → Upper 5 (exact_square (p_from (flows ws xs x) b) (q_from (flows ws xs x) b)) (size (s_max ws xs b) + size t)
    × Upper 5 (exact_square (p_to (flows ws xs x) b) (q_to (flows ws xs x) b)) (size (s_max ws xs b) + size t)
