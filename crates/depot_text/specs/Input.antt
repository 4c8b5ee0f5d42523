-- Document 01, "Depot M": "counts of words and numbers (32-bit), then both lists, little-endian, from standard input (at most 16 KiB)".
use Rattle.std.specs.Prelude.{Bool, ◌&&◌, List, ℕ, ◌+◌, ◌*◌, length, eqb, leb, Float}
use Rattle.base.specs.Loop.{table}
use Rattle.little_endian.specs.Bytes.{word_at, number_at}

module _ (bytes : List ℕ) where
  abbrev pub word_count : ℕ
  word_count = word_at bytes 0

  abbrev pub number_count : ℕ
  number_count = word_at bytes 4

  -- not "a length below 8 bytes, above 16 KiB or other than the counts need"
  unfoldable pub formed : Bool
  formed = leb 8 (length bytes) && leb (length bytes) 16384 && eqb (length bytes) (8 + 4 * word_count + 8 * number_count)

  unfoldable pub input_words : List ℕ
  input_words = table word_count (λ i. word_at bytes (8 + 4 * i))

  unfoldable pub input_numbers : List Float
  input_numbers = table number_count (λ i. number_at bytes (8 + 4 * word_count + 8 * i))
