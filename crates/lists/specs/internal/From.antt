-- The first number that is not finite, of a list that stands behind others.
use Rattle.std.specs.Prelude.{ℕ, ◌+◌, List, length, get_or, Float}
use Rattle.std.specs.Float.{nan}
use Rattle.base.specs.Fault.{Fault}
use Rattle.base.specs.Fault.{fault, unless, first}
use Rattle.float.specs.Number.{is_finite}

-- the first that is not finite, where the list's place 0 counts as place `from`
unfoldable pub non_finite_from : ℕ → ℕ → List Float → Fault
non_finite_from number from l = first (length l) (λ i. unless (is_finite (get_or l i nan)) (fault number (from + i)))
