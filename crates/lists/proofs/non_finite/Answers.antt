use mathlib.Core.Path.{◌≡◌}
use mathlib.Core.Bool.{true, false}
use Rattle.std.proofs.Common.{rules, tests}
use Rattle.std.proofs.lemmas.Iterator.{IsFirst-from_position, YieldsList-from_slice}
use Rattle.float.specs.Number.{is_finite}
use Rattle.lists.proofs.NonFinite.{found}
use Rattle.lists.proofs.non_finite.Goals as goal

pub returns-clause-first : goal.returns-clause-first
returns-clause-first c number from h =
    found number from c.args.list.now c.position.result h
    (IsFirst-from_position c.position.new.self _ c.position.result (λ x. is_finite x ≡ false) (λ x. is_finite x ≡ true) c.position.ensures.ran
    (YieldsList-from_slice c.args.list.now cc) (λ x q k. search (rules, tests)) (λ x q k. search (rules, tests)))
