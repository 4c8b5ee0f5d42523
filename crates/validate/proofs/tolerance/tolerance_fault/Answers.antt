use mathlib.Core.Path.{◌≡◌, refl, ap, sym, ◌∙◌}
use mathlib.Core.Bool.{true, false}
use native.Mathlib.Omega.{arith}
use lib.ListN.{length}
use borrow.Author.Tests.{eqb-true}
use mathlib.Core.List.{List}
use lib.Dec.{eqb}
use lib.Ieee.{Float, nan}
use Rattle.std.proofs.Common.{rules, tests}
use Rattle.std.proofs.lemmas.Iterator.{IsFirst-from_position, YieldsList-from_slice}
use Rattle.base.specs.Fault.{Fault}
use Rattle.base.specs.Fault.{fault, clear, unless}
use Rattle.base.specs.Refusal.{TOLERANCE}
use Rattle.base.proofs.Firsts.{unless_true}
use Rattle.base.proofs.Refusals.{link_exit}
use Rattle.lists.proofs.Found.{found_at, from_one}
use Rattle.validate.specs.Tolerances.{fault_tolerance, tolerance_right}
use Rattle.validate.proofs.Tolerances.{of_eight}
use Rattle.validate.proofs.tolerance.tolerance_fault.Goals as goal

-- what the first check leaves
eight : (ts : List Float) → clear ≡ unless (eqb (length ts) 8) (fault TOLERANCE 0) → length ts ≡ 8
eight ts e = eqb-true _ _ (unless_true (eqb (length ts) 8) TOLERANCE 0 (omega arith) (ap (λ (f : Fault). f.number) (sym e)))

pub returns-in_err-unless : goal.returns-in_err-unless
unfolding fault_tolerance
returns-in_err-unless c = link_exit _ _ _ _ _ c.from_residual.ensures.1 refl c.in_err-unless.ensures

pub returns : goal.returns
returns c =
    let ts = c.args.tolerances.now in
    let e = eight ts c.in_ok-unless.ensures in
    c.unless_found.ensures
    ∙ found_at nan tolerance_right TOLERANCE ts 1 c.position-wrong.result (omega arith)
    (IsFirst-from_position c.position-wrong.new.self _ c.position-wrong.result (λ x. tolerance_right x ≡ false) (λ x. tolerance_right x ≡ true) c.position-wrong.ensures.ran
    (YieldsList-from_slice ts cc) (λ x q k. search (rules, tests)) (λ x q k. search (rules, tests)))
    ∙ from_one nan tolerance_right TOLERANCE ts 8 e ∙ sym (of_eight ts e)
