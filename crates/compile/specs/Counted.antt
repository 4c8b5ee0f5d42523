-- Document 01: "counts not those of the lists" are ruled out, and "12 where lists suffice". The laws are in proofs/Counts.antt.
use Rattle.std.specs.Prelude.{ℕ, ◌+◌, ◌*◌, ◌≤◌, ◌≡◌, List, length, get_or, take, Float}
use Rattle.nl.specs.Expr.{count}
use Rattle.nl.specs.File.{model_constants}
use Rattle.network.specs.Network.{buses, branches}
use Rattle.acopf.specs.Columns.{column_lower, column_upper, column_start}
use Rattle.acopf.specs.Rows.{row_lower, row_upper}
use Rattle.acopf.specs.Model.{model, file_words}
use Rattle.acopf.specs.Factor.{constants64}
use Rattle.compile.specs.Compile.{Answer, compiled, words_after, constants_after}
use Rattle.compile.specs.Compile.{column_lower_after, column_upper_after, start_after, row_lower_after, row_upper_after}

-- the five counts of an answer c are those of the lists, and of the model's constants, rows and shared parts
pub record Counted (ws : List ℕ) (xs : List Float) (c : Answer) : Type 0 where
  pub words : c.words ≡ length (file_words ws xs)
  pub constants : c.constants ≡ length (constants64 ws xs)
  pub model_constants_is : c.constants ≡ length (model_constants (model ws xs))
  pub column_lower_is : c.columns ≡ length (column_lower ws xs)
  pub column_upper_is : c.columns ≡ length (column_upper ws xs)
  pub column_start_is : c.columns ≡ length (column_start ws xs)
  pub row_lower_is : c.rows ≡ length (row_lower ws xs)
  pub row_upper_is : c.rows ≡ length (row_upper ws xs)
  pub model_rows : c.rows ≡ count (model ws xs).rows
  pub model_shared : c.shared ≡ count (model ws xs).shared
  -- "vm squared per bus; then eight per branch"
  pub shared : c.shared ≡ buses ws + 8 * branches ws

-- each of the seven lists, of the lengths `lent`, has room for its result
pub record Suffice (ws : List ℕ) (xs : List Float) (lent : List ℕ) : Type 0 where
  pub words : length (file_words ws xs) ≤ get_or lent 0 0
  pub constants : length (constants64 ws xs) ≤ get_or lent 1 0
  pub column_lower_is : length (column_lower ws xs) ≤ get_or lent 2 0
  pub column_upper_is : length (column_upper ws xs) ≤ get_or lent 3 0
  pub column_start_is : length (column_start ws xs) ≤ get_or lent 4 0
  pub row_lower_is : length (row_lower ws xs) ≤ get_or lent 5 0
  pub row_upper_is : length (row_upper ws xs) ≤ get_or lent 6 0

-- "the front parts that compile's counts name" are the results, whatever the seven lists held before
pub record Fronts (ws : List ℕ) (xs : List Float) (lent : List ℕ) : Type 0 where
  pub words : (before : List ℕ) → take (compiled ws xs lent).words (words_after ws xs lent before) ≡ file_words ws xs
  pub constants : (before : List Float) → take (compiled ws xs lent).constants (constants_after ws xs lent before) ≡ constants64 ws xs
  pub column_lower_is : (before : List Float) → take (compiled ws xs lent).columns (column_lower_after ws xs lent before) ≡ column_lower ws xs
  pub column_upper_is : (before : List Float) → take (compiled ws xs lent).columns (column_upper_after ws xs lent before) ≡ column_upper ws xs
  pub column_start_is : (before : List Float) → take (compiled ws xs lent).columns (start_after ws xs lent before) ≡ column_start ws xs
  pub row_lower_is : (before : List Float) → take (compiled ws xs lent).rows (row_lower_after ws xs lent before) ≡ row_lower ws xs
  pub row_upper_is : (before : List Float) → take (compiled ws xs lent).rows (row_upper_after ws xs lent before) ≡ row_upper ws xs
