-- Document 01: "Two models are the same exactly when words are equal and constants equal as numbers; that answer never refuses."
use Rattle.std.specs.Prelude.{ℕ, Bool, ◌&&◌, List, eqb, Float}
use Rattle.std.specs.Float.Ieee.{eq}
use Rattle.std.specs.Cmp.Lexicographic.{pointwise}

-- The lists have equal lengths, and what stands at each place passes the test: for constants IEEE's equality, where -0 is 0, and NaN is
-- not NaN.
unfoldable pub same : List ℕ → List Float → List ℕ → List Float → Bool
same words_a constants_a words_b constants_b = pointwise eqb words_a words_b && pointwise eq constants_a constants_b
