-- The first number of a list that is not finite, which 11, 13 and 15 look for, and refusal 13.
use Rattle.std.specs.Prelude.{ℕ, List, eqb, length, get_or, Float}
use Rattle.std.specs.Float.{nan}
use Rattle.base.specs.Fault.{Fault}
use Rattle.base.specs.Fault.{fault, unless, or_else, first}
use Rattle.base.specs.Refusal.{POINT}
use Rattle.float.specs.Number.{is_finite}

-- the first that is not finite; its index is the place
unfoldable pub first_non_finite : ℕ → List Float → Fault
first_non_finite number xs = first (length xs) (λ i. unless (is_finite (get_or xs i nan)) (fault number i))

-- 13 point, where there are so many columns: "wrong length (place: columns), else first non-finite column"
unfoldable pub point_fault : List Float → ℕ → Fault
point_fault x columns = or_else (unless (eqb (length x) columns) (fault POINT columns)) (first_non_finite POINT x)
