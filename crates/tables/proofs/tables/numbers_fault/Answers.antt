use mathlib.Core.Path.{refl, sym, ◌∙◌}
use Rattle.base.proofs.Refusals.{link_exit, link_ok}
use Rattle.tables.proofs.tables.numbers_fault.Goals as goal

pub returns-in_err-blank_fault : goal.returns-in_err-blank_fault
returns-in_err-blank_fault c =
    link_exit _ _ _ _ _ c.from_residual.ensures.1 refl c.in_err-blank_fault.ensures

pub returns-in_err-curve_fault : goal.returns-in_err-curve_fault
returns-in_err-curve_fault c =
    let w1 = link_ok _ _ _ refl c.in_ok-blank_fault.ensures in
    link_exit _ _ _ _ _ c.from_residual-in_err-curve_fault.ensures.1 w1 c.in_err-curve_fault.ensures

pub returns-in_err-shift_fault : goal.returns-in_err-shift_fault
returns-in_err-shift_fault c =
    let w1 = link_ok _ _ _ refl c.in_ok-blank_fault.ensures in
    let w2 = link_ok _ _ _ w1 c.in_ok-curve_fault.ensures in
    link_exit _ _ _ _ _ c.from_residual-in_err-shift_fault.ensures.1 w2 c.in_err-shift_fault.ensures

pub returns-in_err-bounds_fault : goal.returns-in_err-bounds_fault
returns-in_err-bounds_fault c =
    let w1 = link_ok _ _ _ refl c.in_ok-blank_fault.ensures in
    let w2 = link_ok _ _ _ w1 c.in_ok-curve_fault.ensures in
    let w3 = link_ok _ _ _ w2 c.in_ok-shift_fault.ensures in
    link_exit _ _ _ _ _ c.from_residual-in_err-bounds_fault.ensures.1 w3 c.in_err-bounds_fault.ensures

pub returns : goal.returns
returns c =
    let w1 = link_ok _ _ _ refl c.in_ok-blank_fault.ensures in
    let w2 = link_ok _ _ _ w1 c.in_ok-curve_fault.ensures in
    let w3 = link_ok _ _ _ w2 c.in_ok-shift_fault.ensures in
    let w4 = link_ok _ _ _ w3 c.in_ok-bounds_fault.ensures in
    c.branches_fault.ensures ∙ sym w4
