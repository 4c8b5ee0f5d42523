-- Document 01: "A network is accepted when compile refuses nothing; its file is then the front parts that compile's counts name, and the
-- column count." Here as row values take it: its constants as numbers, what reading it yields, and its refusal at a point.
use Rattle.std.specs.Prelude.{ℕ, List, [], take, Float}
use Rattle.base.specs.Fault.{Fault}
use Rattle.acopf.specs.Build.{terms}
use Rattle.acopf.specs.Parts.{shared_parts}
use Rattle.compile.specs.Compile.{compiled, constants_after}
use Rattle.model_reading.specs.Reading.{Reading, reading}
use Rattle.reading.specs.Written.{front_words, front_bits}
use Rattle.row_values.specs.Answer.{shared_values, refused_by, shared_after, rows_after}

-- the values of the shared parts of condition 2
abbrev pub part_values : List ℕ → List Float → List Float → List Float
part_values ws xs point = shared_values point [] (terms (shared_parts ws xs))

-- of the lists that compile leaves, lent with the lengths `lent`, from what they held before
module _ (ws : List ℕ) (xs : List Float) (lent : List ℕ) (held_words : List ℕ) (held_constants : List Float) where
  abbrev pub front_constants : List Float
  front_constants = take (compiled ws xs lent).constants (constants_after ws xs lent held_constants)

  abbrev pub file_reading : Reading
  file_reading = reading (front_words ws xs lent held_words) (front_bits ws xs lent held_constants) (compiled ws xs lent).columns

  -- row_values' refusal, and what its two lists hold after the call, from what they held before
  module _ (point : List Float) where
    abbrev pub file_refusal : ℕ → ℕ → Fault
    file_refusal lent_shared lent_rows =
        refused_by (front_words ws xs lent held_words) front_constants (compiled ws xs lent).columns point lent_shared lent_rows

    abbrev pub file_shared_after : List Float → List Float → List Float
    file_shared_after before_shared before_rows =
        shared_after (front_words ws xs lent held_words) front_constants (compiled ws xs lent).columns point before_shared before_rows

    abbrev pub file_rows_after : List Float → List Float → List Float
    file_rows_after before_shared before_rows =
        rows_after (front_words ws xs lent held_words) front_constants (compiled ws xs lent).columns point before_shared before_rows
