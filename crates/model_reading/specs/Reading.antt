-- Document 01, "The model file": what reading yields, as a function of words, constants' patterns and a number of columns. That it yields M
-- exactly where the file stands for M is proved (proofs/Reading).
use Rattle.std.specs.Prelude.{ℕ, List, length, Ok, Err}
use Rattle.nl.specs.File.{Model}
use Rattle.nl.specs.Reader.{Read, and_then, read_file}
use Rattle.model_reading.specs.Parse.{parse_many, part}
use Rattle.model_reading.specs.declared.FileLayout.{FileLayout}

-- the most shared parts that are worked out
abbrev pub shared_limit : ℕ
shared_limit = 4352

-- the numbers of shared parts and rows, the first row's and the objective's beginning words, and the expression of the first shared part
-- too many, where there is one; or the first wrong word, as the finder has it. Shared parts are numbered from 0: that of number 4,352 is the
-- first too many
unfoldable pub file_layout : List ℕ → ℕ → ℕ → Read FileLayout
file_layout ws constants columns =
    and_then (read_file ws constants columns shared_limit)
    (λ parts. Ok (record {
      shared = parts.shared.count;
      rows = parts.rows.count;
      rows_at = parts.shared.end.at;
      objective_at = parts.rows.end.at;
      extra = parts.shared.span;
    }))

-- what reading yields: shared parts, rows and an objective, or the place of refusal 17
pub data Reading : Type 0 where
  yields : Model → Reading
  wrong : ℕ → Reading

module _ (ws cs : List ℕ) where
  abbrev pub model_at : ℕ → ℕ → ℕ → ℕ → Model
  model_at n rows at objective = record {
    shared = (parse_many (part ws cs) n 0).terms;
    rows = (parse_many (part ws cs) rows at).terms;
    objective = (part ws cs objective).expr;
  }

  abbrev pub read_as : Read FileLayout → Reading
  read_as (Ok l) = yields (model_at l.shared l.rows l.rows_at l.objective_at)
  read_as (Err w) = wrong w.place

unfoldable pub reading : List ℕ → List ℕ → ℕ → Reading
reading ws cs columns = read_as ws cs (file_layout ws (length cs) columns)
