-- Document 01: words of 32 bits and numbers of 64 bits in a file are little-endian.
use Rattle.std.specs.Prelude.{List, cond, ℕ, ◌+◌, ◌*◌, ◌/◌, ltb, length, get_or, Float}
use Rattle.std.specs.Float.{binary64}
use Rattle.std.specs.Float.Ieee.{of_bits}

-- 32 and 64 bits, little-endian, from byte `at` on, and the number of that 64-bit pattern
unfoldable pub word_at : List ℕ → ℕ → ℕ
word_at bytes at =
    get_or bytes at 0 + get_or bytes (at + 1) 0 * 0x100 + get_or bytes (at + 2) 0 * 0x1_0000 + get_or bytes (at + 3) 0 * 0x100_0000

unfoldable pub bits_at : List ℕ → ℕ → ℕ
bits_at bytes at = word_at bytes at + word_at bytes (at + 4) * 0x1_0000_0000

abbrev pub number_at : List ℕ → ℕ → Float
number_at bytes at = of_bits binary64 (bits_at bytes at)

-- the i-th 64 bits of a record; 0 past the last whole ones
unfoldable pub record_bits : List ℕ → ℕ → ℕ
record_bits bytes i = cond (ltb i (length bytes / 8)) (bits_at bytes (i * 8)) 0

-- word i of a record that starts at word `at`; 0 past the last whole word
unfoldable pub record_word : List ℕ → ℕ → ℕ → ℕ
record_word bytes at i = cond (ltb (at + i) (length bytes / 4)) (word_at bytes ((at + i) * 4)) 0
