use mathlib.Core.Path.{sym, ◌∙◌}
use Rattle.base.proofs.Refusals.{exit_shown, link_exit, link_ok}
use Rattle.tables.proofs.Laid.{tables_form}
use Rattle.tables.proofs.tables.tables_of.Goals as goal

pub returns-in_err-tables-clause-fault : goal.returns-in_err-tables-clause-fault
returns-in_err-tables-clause-fault c = link_exit _ _ _ _ _ c.from_residual.ensures.1 (tables_form _ _) c.in_err-tables.ensures.fault

pub returns-in_err-numbers_fault-clause-fault : goal.returns-in_err-numbers_fault-clause-fault
returns-in_err-numbers_fault-clause-fault c =
    let t = c.in_ok-tables.ensures in
    exit_shown _ _ c.from_residual-in_err-numbers_fault.ensures.1 ∙ (rw (t.words, t.numbers) at c.in_err-numbers_fault.ensures) ∙ sym (link_ok _ _ _ (tables_form _ _) t.fault)

pub returns-clause-fault : goal.returns-clause-fault
returns-clause-fault c =
    let t = c.in_ok-tables.ensures in
    (rw (t.words, t.numbers) at c.in_ok-numbers_fault.ensures) ∙ sym (link_ok _ _ _ (tables_form _ _) t.fault)
