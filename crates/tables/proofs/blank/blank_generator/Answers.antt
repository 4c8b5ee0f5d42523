use mathlib.Core.Path.{refl, sym, ◌∙◌}
use Rattle.base.proofs.Refusals.{link_exit, link_ok}
use Rattle.tables.proofs.blank.blank_generator.Goals as goal

pub returns-in_err-blanks : goal.returns-in_err-blanks
returns-in_err-blanks c =
    link_exit _ _ _ _ _ c.from_residual.ensures.1 refl (rw c.start.ensures at c.in_err-blanks.ensures)

pub returns : goal.returns
returns c =
    let w1 = link_ok _ _ _ refl (rw c.start.ensures at c.in_ok-blanks.ensures) in
    c.blanks-2.ensures ∙ sym w1
