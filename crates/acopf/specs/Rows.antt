-- Document 01, "The model file": the rows, each with its lower and upper, by 000's terms.
use Rattle.std.specs.Prelude.{ℕ, cond, List, [], ◌∷◌, ◌++◌, map, eqb, Float}
use Rattle.std.specs.Float.Ieee.{neg}
use Rattle.base.specs.Loop.{table, each, keep}
use Rattle.float.specs.Number.{◌⊗◌, zero64, one64}
use Rattle.nl.specs.Expr.{Expr, column}
use Rattle.bounds.specs.Bounds.{huge64}
pub use Rattle.network.specs.Network.{rated}
use Rattle.network.specs.Network.{buses, generators, branches, references, bus_of, from, to, angled, referred, curve_at, segments, curved}
use Rattle.network.specs.Network.{va_column, pg_column, qg_column, epigraph_column, p_d, q_d, g_s, b_s, angle_min, angle_max, s_max}
use Rattle.piecewise_cost.specs.Curve.{slope, intercept}
use Rattle.acopf.specs.Build.{literal, add, subtract, square, scaled, sum}
use Rattle.acopf.specs.Parts.{vm_squared, p_from_part, q_from_part, p_to_part, q_to_part, angle_difference}

pub record Row : Type 0 where
  pub expression : Expr
  pub lower : Float
  pub upper : Float

-- a row's bounds stand beside its expression
abbrev pub between : Float → Float → Expr → Row
between lower upper e = record { expression = e; lower = lower; upper = upper }

-- 0 to 0, and 0 to 1e19
abbrev pub balanced : Expr → Row
balanced e = between zero64 zero64 e

abbrev pub margin : Expr → Row
margin e = between zero64 huge64 e

module _ (ws : List ℕ) (xs : List Float) where
  -- bus i's demand, shunt, generators, then branches, from before to
  unfoldable pub balance_row : ℕ → Float → Float → (ℕ → ℕ) → (ℕ → Expr) → (ℕ → Expr) → Row
  balance_row i demand shunt generator_column at_from at_to =
      balanced (sum (
      literal demand ∷ scaled shunt (vm_squared ws i)
      ∷ each (generators ws) (λ g. keep (eqb (bus_of ws g) i) (column (generator_column g)))
      ++ each (branches ws) (λ b. keep (eqb (from ws b) i) (scaled (neg one64) (at_from b))
      ++ keep (eqb (to ws b) i) (scaled (neg one64) (at_to b)))))

  unfoldable pub p_balance_row : ℕ → Row
  p_balance_row i = balance_row i (neg (p_d ws xs i)) (neg (g_s ws xs i)) (pg_column ws) (p_from_part ws) (p_to_part ws)

  unfoldable pub q_balance_row : ℕ → Row
  q_balance_row i = balance_row i (neg (q_d ws xs i)) (b_s ws xs i) (qg_column ws) (q_from_part ws) (q_to_part ws)

  abbrev pub reference_row : ℕ → Row
  reference_row r = balanced (column (va_column ws (referred ws r)))

  abbrev pub angle_row : ℕ → Row
  angle_row b = between (angle_min ws xs b) (angle_max ws xs b) (angle_difference ws b)

  -- s_max squared less p squared plus q squared
  abbrev pub thermal_row : ℕ → Expr → Expr → Row
  thermal_row b p q = margin (subtract (literal (s_max ws xs b ⊗ s_max ws xs b)) (add (square p) (square q)))

  unfoldable pub thermal_rows : ℕ → List Row
  thermal_rows b =
      keep (rated ws xs b) (thermal_row b (p_from_part ws b) (q_from_part ws b))
      ++ keep (rated ws xs b) (thermal_row b (p_to_part ws b) (q_to_part ws b))

  -- the epigraph column less slope times pg plus intercept
  unfoldable pub segment_row : ℕ → ℕ → Row
  segment_row g s =
      margin (subtract (column (epigraph_column ws g))
      (add (scaled (slope xs (curve_at ws g) s) (column (pg_column ws g))) (literal (intercept xs (curve_at ws g) s))))

  unfoldable pub segment_rows : ℕ → List Row
  segment_rows g = cond (curved ws g) (table (segments ws g) (segment_row g)) []

  -- "Rows: p balances, q balances, references, active angle differences, then per branch with active limit and s_max above 0 from and to,
  -- then curve segments."
  unfoldable pub rows : List Row
  rows =
      table (buses ws) p_balance_row ++ table (buses ws) q_balance_row ++ table (references ws) reference_row
      ++ each (branches ws) (λ b. keep (angled ws b) (angle_row b)) ++ each (branches ws) thermal_rows ++ each (generators ws) segment_rows

  -- the bounds, row by row
  unfoldable pub row_lower : List Float
  row_lower = map (λ r. r.lower) rows

  unfoldable pub row_upper : List Float
  row_upper = map (λ r. r.upper) rows
