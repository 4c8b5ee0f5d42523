use mathlib.Core.Path.{◌≡◌}
use lib.Ieee.{neg}
use Rattle.bounds.specs.Bounds.{huge64}
use Rattle.residuals.specs.internal.Section.{largest_with, outside}
use Rattle.residuals.proofs.variable.free_bounds.Given as goal

abbrev pub invariant-loop-x : goal.invariant-loop-x
invariant-loop-x l = l.most ≡ largest_with l.start l.x-index (outside l.columns (λ j. neg huge64) (λ j. huge64))
