-- The values of a network's model at a point, by the rows of condition 2, and that 14 spares them at accepted angles.
use mathlib.Core.Path.{◌≡◌, refl, ap, ◌∙◌}
use mathlib.Core.List.{List, [], ◌∷◌, ◌++◌, map}
use Prim.Native.Nat.{ℕ, ◌+◌, ◌*◌, ◌<◌}
use native.Mathlib.Omega.{arith}
use lib.ListN.{length, get_or, get_or-map, length-map, length-append}
use lib.Ieee.{Float}
use Rattle.std.proofs.lemmas.List.{get_or_default}
use Rattle.base.specs.Loop.{table}
use Rattle.base.proofs.Loops.{AllFrom, Block, block_table, block_left, block_right, length_table}
use Rattle.float.specs.Number.{zero64}
use Rattle.network.specs.Layout.{layout_of, LaidWords}
use Rattle.network.specs.Network.{buses, references, referred, va_column}
use Rattle.acopf.specs.Build.{terms}
use Rattle.acopf.specs.Rows.{Row, p_balance_row, q_balance_row, reference_row, rows}
use Rattle.acopf.specs.Model.{model}
use Rattle.expression.specs.Value.{value, values_of}
use Rattle.valued.specs.Spared.{AnglesRight, RowsSpared, Spared}
use Rattle.valued.proofs.TrigFree.{RowInRange, rows_in, objective_in}
use Rattle.valued.proofs.SharedParts.{shared_spared}

module _ (ws : List ℕ) (xs point values : List Float) where
  abbrev of_row : Row → Float
  of_row r = value point values r.expression

  -- the values of rows
  pub row_values_is : values_of point values (model ws xs).rows ≡ map of_row (rows ws xs)
  unfolding model values_of
  row_values_is = go (rows ws xs)
    where
      go : (l : List Row) → values_of point values (terms (map (λ r. r.expression) l)) ≡ map of_row l
      go [] = refl
      go (r ∷ l) = ap (λ k. of_row r ∷ k) (go l)

  pub row_value : (r : ℕ) (d : Row) → r < length (rows ws xs) → get_or (values_of point values (model ws xs).rows) r zero64 ≡ of_row (get_or (rows ws xs) r d)
  row_value r d h =
      ap (λ l. get_or l r zero64) row_values_is
      ∙ get_or_default (map of_row (rows ws xs)) r zero64 (of_row d) (omega (arith, h, length-map (rows ws xs) of_row)) ∙ get_or-map of_row (rows ws xs) r d

  -- the references' rows follow the two balances of each bus
  reference_rows : Block (rows ws xs) (buses ws + buses ws) (references ws) (reference_row ws xs)
  unfolding rows
  reference_rows =
      let p = table (buses ws) (p_balance_row ws xs) in
      let q = table (buses ws) (q_balance_row ws xs) in
      block_left _ (block_left _ (block_left _ (block_right (p ++ q) (buses ws + buses ws)
      (omega (arith, length-append p q, length_table (buses ws) (p_balance_row ws xs), length_table (buses ws) (q_balance_row ws xs)))
      (block_table (references ws) (reference_row ws xs)))))

  pub reference_value : (j : ℕ) → j < references ws → get_or (values_of point values (model ws xs).rows) (2 * buses ws + j) zero64 ≡ get_or point (va_column ws (referred ws j)) zero64
  unfolding value
  reference_value j h =
      let row = reference_row ws xs j in
      let place : (buses ws + buses ws) + j ≡ 2 * buses ws + j = omega arith in
      row_value (2 * buses ws + j) row (omega (arith, h, reference_rows.fits)) ∙ ap of_row (rw place at (reference_rows.its j row h))

rows_spared : (point values : List Float) (i : ℕ) (l : List Row) → AllFrom (RowInRange point values) i l → RowsSpared point values (terms (map (λ r. r.expression) l))
rows_spared point values i [] h = tt
rows_spared point values i (r ∷ l) h = (h.0.its, rows_spared point values (i + 1) l h.1)

-- at accepted angles
pub model_spared : (ws : List ℕ) (xs point : List Float) → LaidWords ws (layout_of ws) → AnglesRight ws point → Spared point (model ws xs)
unfolding model
model_spared ws xs point G right = record {
  shared = shared_spared ws xs point G right;
  rows = rows_spared point _ 0 (rows ws xs) (rows_in ws xs point _).all;
  objective = (objective_in ws xs point _).its;
}
