-- Document 00, condition 3, for the model of a network: what is said of a file that is read as that model, in its sentences' order. The
-- laws are in proofs/Reading.antt.
use Rattle.std.specs.Prelude.{ℕ, ◌+◌, ◌≤◌, ◌<◌, ◌≡◌, ◌↔◌, List, map, length, get_or, take, drop, Float}
use Rattle.base.specs.Fault.{fault, clear, fault_of}
use Rattle.base.specs.Refusal.{MODEL, ROW}
use Rattle.nl.specs.Expr.{Expr, Terms, constants_of, words}
use Rattle.nl.specs.File.{Model, part_words, at_rows, StandsFor}
use Rattle.nl.specs.Finder.{find, row_start, row_length, row_words}
use Rattle.acopf.specs.Build.{terms}
use Rattle.acopf.specs.Rows.{Row, rows}
use Rattle.acopf.specs.Model.{model}

-- rows' expressions in order
abbrev pub expressions : List Row → Terms
expressions l = terms (map (λ r. r.expression) l)

module _ (ws : List ℕ) (xs : List Float) where
  -- the rows before row r
  abbrev pub rows_before : ℕ → Terms
  rows_before r = expressions (take r (rows ws xs))

  -- the running number of row r's first constant: after those of the shared parts and of the rows before
  abbrev pub first_constant : ℕ → ℕ
  first_constant r = at_rows (model ws xs) + length (constants_of (rows_before r))

  -- where row r's expression stands in the file: after the shared parts, the rows before and the row's beginning word
  abbrev pub expression_start : ℕ → ℕ
  expression_start r = length (part_words 10 0 0 (model ws xs).shared) + length (part_words 11 0 (at_rows (model ws xs)) (rows_before r)) + 1

-- "it then answers for row r .. the words of that row's expression where they stand": of the words `file`, and told so many
-- constants and columns, the finder refuses nothing for row r, and the part is the words of e, whose first constant has the number k,
-- from `start` on
pub record Answers (file : List ℕ) (constants columns r start k : ℕ) (e : Expr) : Type 0 where
  pub not_refused : fault_of (find file constants columns r) ≡ clear
  pub starts : row_start file constants columns r ≡ start
  pub long : row_length file constants columns r ≡ length (words k e)
  pub its_words : row_words file constants columns r ≡ words k e
  pub stand_there : take (length (words k e)) (drop start file) ≡ words k e

-- the words `file`, the constants by their 64 bits, and the numbers of constants, columns and rows that go with them
module _ (file bits : List ℕ) (constants columns row_count : ℕ) where
  pub record ReadsAs (ws : List ℕ) (xs : List Float) : Type 0 where
    -- "For every accepted network, reading the file written yields exactly the shared parts, rows and objective of condition 2":
    -- it stands for them,
    pub stands : StandsFor file bits columns (model ws xs)
    -- and for nothing else, whatever number of columns is handed in;
    pub nothing_else : (columns' : ℕ) (N : Model) → StandsFor file bits columns' N → N ≡ model ws xs
    -- "for one exactly when the finder does not say 17": it does not, whichever row is asked for;
    pub not_17 : (r : ℕ) → ¬ ((fault_of (find file constants columns r)).number ≡ MODEL)
    -- "it then answers for row r, from 0, the words of that row's expression where they stand", row r being the r-th of the rows of
    -- condition 2 (whatever d, which stands for a row past the last),
    pub row : (r : ℕ) (d : Row) → r < row_count
        → Answers file constants columns r (expression_start ws xs r) (first_constant ws xs r) (get_or (rows ws xs) r d).expression
    -- "and 18 exactly when there is no such row", with the row count as its place.
    pub no_row : (r : ℕ) → ((fault_of (find file constants columns r)).number ≡ ROW) ↔ (row_count ≤ r)
    pub no_row_place : (r : ℕ) → row_count ≤ r → fault_of (find file constants columns r) ≡ fault ROW row_count
    -- "Any two files that pass reading .. have equal words and bitwise equal constants exactly when they stand for the same shared parts,
    -- rows and objective": this file and any other.
    pub same : (file' bits' : List ℕ) (columns' : ℕ) (N : Model) → StandsFor file' bits' columns' N
        → ((file ≡ file') × (bits ≡ bits')) ↔ (model ws xs ≡ N)
