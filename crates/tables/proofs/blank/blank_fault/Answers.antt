use mathlib.Core.Path.{refl, sym, ◌∙◌}
use Rattle.base.proofs.Refusals.{link_exit, link_ok}
use Rattle.tables.specs.Fault.{fault_blank}
use Rattle.tables.proofs.blank.blank_fault.Goals as goal

pub returns-in_err-blank_buses : goal.returns-in_err-blank_buses
unfolding fault_blank
returns-in_err-blank_buses c =
    link_exit _ _ _ _ _ c.from_residual.ensures.1 refl (rw c.args.tables.now.laid.words.is at c.in_err-blank_buses.ensures)

pub returns-in_err-blank_generators : goal.returns-in_err-blank_generators
unfolding fault_blank
returns-in_err-blank_generators c =
    let w1 = link_ok _ _ _ refl (rw c.args.tables.now.laid.words.is at c.in_ok-blank_buses.ensures) in
    link_exit _ _ _ _ _ c.from_residual-in_err-blank_generators.ensures.1 w1 (rw c.args.tables.now.laid.words.is at c.in_err-blank_generators.ensures)

pub returns : goal.returns
unfolding fault_blank
returns c =
    let w1 = link_ok _ _ _ refl (rw c.args.tables.now.laid.words.is at c.in_ok-blank_buses.ensures) in
    let w2 = link_ok _ _ _ w1 (rw c.args.tables.now.laid.words.is at c.in_ok-blank_generators.ensures) in
    (rw c.args.tables.now.laid.words.is at c.blank_branches.ensures) ∙ sym w2
