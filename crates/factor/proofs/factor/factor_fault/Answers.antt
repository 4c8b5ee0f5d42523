use mathlib.Core.Path.{sym, ◌∙◌}
use Rattle.factor.proofs.Factors.{factor_is}
use Rattle.base.proofs.Refusals.{link_exit, link_ok}
use Rattle.factor.proofs.factor.factor_fault.Goals as goal

pub returns-in_err-branches_factor : goal.returns-in_err-branches_factor
returns-in_err-branches_factor c =
    let clear = c.args.clear.now in
    let four = factor_is clear.case.tables.words.now clear.case.tables.numbers.now clear.clear clear.case.tables.laid.doubles in
    link_exit _ _ _ _ _ c.from_residual.ensures.1 four c.in_err-branches_factor.ensures

pub returns : goal.returns
returns c =
    let clear = c.args.clear.now in
    let four = factor_is clear.case.tables.words.now clear.case.tables.numbers.now clear.clear clear.case.tables.laid.doubles in
    c.curves_on.ensures ∙ sym (link_ok _ _ _ four c.in_ok-branches_factor.ensures)
