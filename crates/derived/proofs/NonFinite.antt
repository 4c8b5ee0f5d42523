-- Laws of the first number that is not finite: the outputs, then the objectives.
use mathlib.Core.Path.{◌≡◌, sym, ◌∙◌}
use mathlib.Core.List.{List, ◌++◌}
use native.Mathlib.Omega.{arith}
use lib.Ieee.{Float}
use lib.ListN.{length}
use Rattle.base.specs.Fault.{or_else}
use Rattle.base.specs.Refusal.{DERIVED}
use Rattle.lists.specs.Finite.{first_non_finite}
use Rattle.lists.specs.internal.From.{non_finite_from}
use Rattle.lists.proofs.NonFinite.{non_finite_append, non_finite_zero}

-- a list, then another
pub one_then : (l s : List Float) → first_non_finite DERIVED (l ++ s) ≡ or_else (non_finite_from DERIVED 0 l) (non_finite_from DERIVED (length l) s)
one_then l s = sym (non_finite_zero DERIVED (l ++ s)) ∙ non_finite_append DERIVED 0 l s (length l) (omega arith) (omega arith)
