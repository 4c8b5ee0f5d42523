use mathlib.Core.Path.{◌≡◌, ◌∙◌}
use mathlib.Core.Bool.{true, false, not}
use native.Mathlib.Omega.{arith}
use lib.Ieee.{nan, lt}
use Rattle.std.proofs.Common.{rules, tests}
use Rattle.std.proofs.lemmas.Iterator.{IsFirst-from_position, YieldsList-from_slice, YieldsList-from_zip}
use Rattle.base.specs.Refusal.{RESIDUAL}
use Rattle.lists.proofs.Pairs.{pair_found}
use Rattle.validate.specs.Tolerances.{fault_above}
use Rattle.validate.proofs.tolerance.residual_fault.Goals as goal

pub returns : goal.returns
unfolding fault_above
returns c =
    c.unless_found.ensures
    ∙ pair_found nan nan (λ r t. not (lt t r)) RESIDUAL c.args.residuals c.args.tolerances.now 8 (omega (arith, c.well_formed)) c.requires (omega arith) c.position-above.result
    (IsFirst-from_position c.position-above.new.self _ c.position-above.result (λ p. not (lt p.1 p.0) ≡ false) (λ p. not (lt p.1 p.0) ≡ true) c.position-above.ensures.ran
    (YieldsList-from_zip (YieldsList-from_slice c.args.residuals cc) (YieldsList-from_slice c.args.tolerances.now cc))
    (λ x q k. search (rules, tests)) (λ x q k. search (rules, tests)))
