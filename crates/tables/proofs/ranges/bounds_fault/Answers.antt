use mathlib.Core.Path.{refl, sym, ◌∙◌}
use Rattle.base.proofs.Refusals.{link_exit, link_ok}
use Rattle.tables.specs.Fault.{fault_bounds}
use Rattle.tables.proofs.ranges.bounds_fault.Goals as goal

pub returns-in_err-bounds_of_buses : goal.returns-in_err-bounds_of_buses
unfolding fault_bounds
returns-in_err-bounds_of_buses c =
    link_exit _ _ _ _ _ c.from_residual.ensures.1 refl (rw c.args.tables.now.laid.words.is at c.in_err-bounds_of_buses.ensures)

pub returns : goal.returns
unfolding fault_bounds
returns c =
    let w1 = link_ok _ _ _ refl (rw c.args.tables.now.laid.words.is at c.in_ok-bounds_of_buses.ensures) in
    (rw c.args.tables.now.laid.words.is at c.bounds_of_generators.ensures) ∙ sym w1
