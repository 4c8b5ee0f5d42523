-- Document 01, "The network file": a word's top 4 bits are its kind, the other 28 its load. Model words are built the same way.
use Rattle.std.specs.Prelude.{ℕ, ◌+◌, ◌*◌, ◌/◌, ◌%◌, ◌^◌, Bool, eqb}

abbrev pub kind_of : ℕ → ℕ
kind_of w = w / 268435456

abbrev pub load_of : ℕ → ℕ
load_of w = w % 268435456

-- the word of that kind and load
abbrev pub word : ℕ → ℕ → ℕ
word kind load = kind * 268435456 + load

-- `width` bits from bit `low` on
abbrev pub field : ℕ → ℕ → ℕ → ℕ
field low width w = w / 2 ^ low % 2 ^ width

abbrev pub flag : ℕ → ℕ → Bool
flag bit w = eqb (field bit 1 w) 1
