-- Document 01: "A network is accepted when compile refuses nothing; its file is then the front parts that compile's counts name, and the
-- column count."
use Rattle.std.specs.Prelude.{ℕ, List, map, take, Float}
use Rattle.std.specs.Float.{binary64}
use Rattle.std.specs.Float.Ieee.{to_bits}
use Rattle.compile.specs.Compile.{Answer, compiled, words_after, constants_after}
use Rattle.compile.specs.Lists.{Lists}
use Rattle.reading.specs.ReadsAs.{ReadsAs}

-- of the lists that compile leaves, lent with the lengths `lent`, from what they held before. A file's constants are 64-bit patterns.
module _ (ws : List ℕ) (xs : List Float) (lent : List ℕ) where
  abbrev pub front_words : List ℕ → List ℕ
  front_words before = take (compiled ws xs lent).words (words_after ws xs lent before)

  abbrev pub front_bits : List Float → List ℕ
  front_bits before = map (to_bits binary64) (take (compiled ws xs lent).constants (constants_after ws xs lent before))

-- the front parts of the lists l that the counts of the answer c name, and its column count, are read as the network's model
abbrev pub FileReads : Answer → Lists → List ℕ → List Float → Type 0
FileReads c l ws xs =
    ReadsAs (take c.words l.words) (map (to_bits binary64) (take c.constants l.constants))
    c.constants c.columns c.rows ws xs
