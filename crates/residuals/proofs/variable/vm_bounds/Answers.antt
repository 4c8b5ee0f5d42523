use Rattle.acopf.specs.Columns.{vm_lower, vm_upper}
use Rattle.residuals.proofs.Section.{with_none, with_next}
use Rattle.residuals.proofs.variable.vm_bounds.Goals as goal

pub loop-i-init : goal.loop-i-init
loop-i-init c = with_none _ _

pub loop-i-preserved : goal.loop-i-preserved
unfolding vm_lower vm_upper
loop-i-preserved c =
    with_next _ _ _ _ _ c.loop-i.invariant (rw (c.maximum-most.ensures, c.positive_violation-off.ensures, c.vm_lower.ensures, c.vm_upper.ensures, c.bus-bus.ensures))
