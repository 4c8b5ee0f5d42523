-- Document 02 (c): the tolerances of the eight residuals, lent with the point, and the two refusals that go by them, 20 and 16.
use Rattle.std.specs.Prelude.{ℕ, ◌+◌, Bool, not, List, length, get_or, replicate, eqb, Float}
use Rattle.std.specs.Float.{nan, binary64}
use Rattle.std.specs.Float.Ieee.{of_bits, lt}
use Rattle.base.specs.Fault.{Fault}
use Rattle.base.specs.Fault.{fault, unless, or_else, first}
use Rattle.base.specs.Refusal.{RESIDUAL, TOLERANCE}
use Rattle.float.specs.Number.{zero64}
use Rattle.bounds.specs.Bounds.{bounds_right}

-- 1e-6, the Rust's PRIMAL_TOLERANCE
abbrev pub tiny64 : Float
tiny64 = of_bits binary64 0x3EB0_C6F7_A0B5_ED8D

-- document 01's "table of eight, all 1e-6", which a host may lend
unfoldable pub primal_tolerances : List Float
primal_tolerances = replicate 8 tiny64

-- not "non-finite or below 0", as 9 says it of a rating; -0 is not below 0
abbrev pub tolerance_right : Float → Bool
tolerance_right t = bounds_right zero64 t

-- 20 tolerance: "a list of other than eight (place 0) or a tolerance that is non-finite or below 0 (place 1 to 8, the first)"
unfoldable pub fault_tolerance : List Float → Fault
fault_tolerance ts =
    or_else (unless (eqb (length ts) 8) (fault TOLERANCE 0))
    (first 8 (λ i. unless (tolerance_right (get_or ts i nan)) (fault TOLERANCE (i + 1))))

-- 16 residual: "The first residual above its own tolerance decides 16, and a residual equal to it passes"; the place is 1 to 8, and `own i`
-- is the tolerance at place i + 1
unfoldable pub fault_above : (ℕ → Float) → List Float → Fault
fault_above own residuals = first 8 (λ i. unless (not (lt (own i) (get_or residuals i nan))) (fault RESIDUAL (i + 1)))

-- by the list lent
abbrev pub fault_residual : List Float → List Float → Fault
fault_residual ts residuals = fault_above (λ i. get_or ts i nan) residuals
