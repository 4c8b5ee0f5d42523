-- f64: the operators, one rounding each, and small functions, over the logic's account of IEEE 754.
use Rattle.std.specs.Prelude.{◌≡◌, ℕ, ◌+◌, ◌*◌, ◌/◌, ◌^◌, ◌<◌, Bool, true, false, cond, List, length, from_bits, nat_lt, slice_index_or, to_bits, Float}
use Rattle.std.specs.Float.{nan, inf, fin, binary64}
use Rattle.std.specs.Float.Ieee.{lt, ne}
use Rattle.std.specs.Float.Ieee as Ieee

infixl 68 ◌⊕◌ ◌⊖◌
infixl 70 ◌⊗◌ ◌⊘◌
abbrev pub ◌⊕◌ : Float → Float → Float
x ⊕ y = Ieee.add binary64 x y

abbrev pub ◌⊖◌ : Float → Float → Float
x ⊖ y = Ieee.sub binary64 x y

abbrev pub ◌⊗◌ : Float → Float → Float
x ⊗ y = Ieee.mul binary64 x y

abbrev pub ◌⊘◌ : Float → Float → Float
x ⊘ y = Ieee.div binary64 x y

-- a float by its two 32-bit words
abbrev pub from_words : ℕ → ℕ → Float
from_words hi lo = from_bits binary64 (hi * 2 ^ 32 + lo)

abbrev pub zero64 : Float
zero64 = from_bits binary64 0

abbrev pub half64 : Float
half64 = from_bits binary64 0x3FE0_0000_0000_0000

abbrev pub one64 : Float
one64 = from_bits binary64 0x3FF0_0000_0000_0000

abbrev pub high_word : Float → ℕ
high_word x = to_bits binary64 x / 2 ^ 32

-- neither a NaN nor an infinity
unfoldable pub is_finite : Float → Bool
is_finite nan = false
is_finite (inf s) = false
is_finite (fin s m e) = true

abbrev pub AllFinite : List Float → Type 0
AllFinite l = (j : ℕ) → j < length l → is_finite (slice_index_or l j nan) ≡ true

-- the sign is dropped
unfoldable pub absolute : Float → Float
absolute nan = nan
absolute (inf s) = inf false
absolute (fin s m e) = fin false m e

-- document 01, "The accepted point": a maximum ignores NaN and prefers +0 to -0
unfoldable pub maximum : Float → Float → Float
maximum a b = cond (ne a a) b (cond (ne b b) a (cond (lt a b) b (cond (lt b a) a (cond (nat_lt (to_bits binary64 a) (2 ^ 63)) a b))))
