-- A list of f64.
use Rattle.std.specs.Prelude.{ℕ, T, List, slice_index_or, Float}
use Rattle.std.specs.Float.{nan, binary64}
use Rattle.std.specs.Float.Ieee.{fits}

-- every number of the list is a double. A lent list of f64 has this by its type
abbrev pub Doubles : List Float → Type 0
Doubles xs = (j : ℕ) → T (fits binary64 (slice_index_or xs j nan))
