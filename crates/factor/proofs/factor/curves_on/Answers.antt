use mathlib.Core.Path.{refl, ap, sym, ◌∙◌}
use Rattle.factor.specs.internal.NonFinite.{curves_factor}
use Rattle.factor.proofs.Chain.{place_is, later_at}
use Rattle.base.proofs.Refusals.{link_exit, link_ok}
use Rattle.factor.proofs.factor.curves_on.Goals as goal

pub returns-in_err-curves_factor : goal.returns-in_err-curves_factor
returns-in_err-curves_factor c =
    let case = c.args.clear.now.case in
    let ws = case.tables.words.now in
    let xs = case.tables.numbers.now in
    let at = place_is ws xs case.tables.laid case.tallied in
    link_exit _ _ _ _ _ c.from_residual.ensures.1 refl (c.in_err-curves_factor.ensures ∙ ap (curves_factor ws xs) at)

pub returns : goal.returns
returns c =
    let case = c.args.clear.now.case in
    let ws = case.tables.words.now in
    let xs = case.tables.numbers.now in
    let at = place_is ws xs case.tables.laid case.tallied in
    let curves = c.in_ok-curves_factor.ensures ∙ ap (curves_factor ws xs) at in
    c.later_factor.ensures ∙ later_at ws xs c.constants.ensures.count ∙ sym (link_ok _ _ _ refl curves)
