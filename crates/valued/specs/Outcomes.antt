-- Document 02 (a): "What passes the reading rules must always give either all values or a numbered refusal."
use Rattle.std.specs.Prelude.{ℕ, ◌≡◌, true, List, [], ◌∷◌, map, length, take, drop, Float}
use Rattle.std.specs.Float.{binary64}
use Rattle.std.specs.Float.Ieee.{of_bits}
use Rattle.base.specs.Fault.{Fault}
use Rattle.base.specs.Fault.{clear}
use Rattle.base.specs.Order.{member}
use Rattle.base.specs.Refusal.{SIZE, SHORT, POINT, SWING, VALUE}
use Rattle.float.specs.Number.{zero64, is_finite, AllFinite}
use Rattle.nl.specs.Expr.{count}
use Rattle.nl.specs.File.{Model}
use Rattle.model_reading.specs.Reading.{Reading, yields}
use Rattle.expression.specs.Value.{value, values_of}
use Rattle.row_values.specs.Answer.{shared_values, all_shared, all_rows, objective_value, refused_by, row_values, shared_after, rows_after}

-- every one of these patterns is that of a finite number
abbrev pub FinitePatterns : List ℕ → Type 0
FinitePatterns cs = AllFinite (map (of_bits binary64) cs)

-- what is read has all values finite
pub record FiniteAt (point : List Float) (r : Reading) : Type 0 where
  pub shared : AllFinite (all_shared point r)
  pub rows : AllFinite (all_rows point r)
  pub objective : is_finite (objective_value point r) ≡ true

-- the refusals of what passes reading
abbrev pub later_numbers : List ℕ
later_numbers = SIZE ∷ SHORT ∷ POINT ∷ SWING ∷ VALUE ∷ []

-- of lists that held these numbers before the call, and a file that is read as M
module _ (ws : List ℕ) (xs : List Float) (columns : ℕ) (point shared rows : List Float) (M : Model) where
  abbrev refusal_of : Fault
  refusal_of = refused_by ws xs columns point (length shared) (length rows)

  abbrev values : List Float
  values = shared_values point [] M.shared

  -- every shared part's and row's value stands in front of its list and the objective's in the answer, all finite, and the rest of the
  -- lists is as it was
  pub record AllValues : Type 0 where
    pub fault : (row_values ws xs columns point (length shared) (length rows)).fault ≡ clear
    pub shared_count : (row_values ws xs columns point (length shared) (length rows)).shared ≡ count M.shared
    pub rows_count : (row_values ws xs columns point (length shared) (length rows)).rows ≡ count M.rows
    pub objective : (row_values ws xs columns point (length shared) (length rows)).objective ≡ value point values M.objective
    pub shared_are : take (count M.shared) (shared_after ws xs columns point shared rows) ≡ values
    pub rows_are : take (count M.rows) (rows_after ws xs columns point shared rows) ≡ values_of point values M.rows
    pub shared_rest : drop (count M.shared) (shared_after ws xs columns point shared rows) ≡ drop (count M.shared) shared
    pub rows_rest : drop (count M.rows) (rows_after ws xs columns point shared rows) ≡ drop (count M.rows) rows
    pub finite : FiniteAt point (yields M)

  -- 2, 12, 13, 14 or 19, "all else 0", and both lists are as they were
  pub record Refused : Type 0 where
    pub number : member refusal_of.number later_numbers ≡ true
    pub answer : row_values ws xs columns point (length shared) (length rows)
        ≡ record { fault = refusal_of; objective = zero64; shared = 0; rows = 0 }
    pub same_shared : shared_after ws xs columns point shared rows ≡ shared
    pub same_rows : rows_after ws xs columns point shared rows ≡ rows

  pub data Outcome : Type 0 where
    all_values : AllValues → Outcome
    refused : Refused → Outcome
