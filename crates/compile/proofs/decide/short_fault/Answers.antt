use mathlib.Core.Path.{◌≡◌, ◌∙◌}
use mathlib.Core.Bool.{true, false}
use native.Mathlib.Omega.{arith}
use lib.Dec.{leb}
use Rattle.std.proofs.Common.{rules, tests}
use Rattle.std.proofs.lemmas.Iterator.{IsFirst-from_position, YieldsList-from_slice, YieldsList-from_zip}
use Rattle.lists.proofs.Pairs.{pair_found}
use Rattle.compile.proofs.decide.short_fault.Goals as goal

pub returns : goal.returns
returns c =
    c.unless_found.ensures
    ∙ pair_found 0 0 leb 12 c.args.needs c.args.lent 7 (omega (arith, c.well_formed)) (omega (arith, c.well_formed)) (omega arith) c.position-short.result
    (IsFirst-from_position c.position-short.new.self _ c.position-short.result (λ p. leb p.0 p.1 ≡ false) (λ p. leb p.0 p.1 ≡ true) c.position-short.ensures.ran
    (YieldsList-from_zip (YieldsList-from_slice c.args.needs cc) (YieldsList-from_slice c.args.lent cc))
    (λ x q k. search (rules, tests)) (λ x q k. search (rules, tests)))
