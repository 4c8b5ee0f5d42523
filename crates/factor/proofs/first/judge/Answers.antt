use mathlib.Core.Path.{sym, ap, ◌∙◌}
use Rattle.acopf.proofs.Order.{network_is}
use Rattle.base.proofs.Refusals.{exit_shown, link_exit, link_ok}
use Rattle.factor.proofs.first.judge.Goals as goal

pub returns-in_err-tables-clause-fault : goal.returns-in_err-tables-clause-fault
returns-in_err-tables-clause-fault c = link_exit _ _ _ _ _ c.from_residual.ensures.1 (network_is _ _) c.in_err-tables.ensures.fault

pub invariant_of-clear : goal.invariant_of-clear
invariant_of-clear c =
    let t = c.in_ok-tables.ensures in record { clear = rw (c.new.ensures, t.words, t.numbers) (ap (λ f. f.number) (sym t.fault)) }

pub returns-in_err-factor_fault-clause-fault : goal.returns-in_err-factor_fault-clause-fault
returns-in_err-factor_fault-clause-fault c =
    let t = c.in_ok-tables.ensures in
    exit_shown _ _ c.from_residual-in_err-factor_fault.ensures.1 ∙ (rw (c.new.ensures, t.words, t.numbers) at c.in_err-factor_fault.ensures)
    ∙ sym (link_ok _ _ _ (network_is _ _) t.fault)

pub returns-clause-fault : goal.returns-clause-fault
returns-clause-fault c =
    let t = c.in_ok-tables.ensures in
    (rw (c.new.ensures, t.words, t.numbers) at c.in_ok-factor_fault.ensures) ∙ sym (link_ok _ _ _ (network_is _ _) t.fault)
