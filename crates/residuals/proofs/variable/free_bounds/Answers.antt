use Rattle.residuals.proofs.Section.{with_none, with_next}
use Rattle.residuals.proofs.variable.free_bounds.Goals as goal

pub loop-x-init : goal.loop-x-init
loop-x-init c = with_none _ _

pub loop-x-preserved : goal.loop-x-preserved
loop-x-preserved c = with_next _ _ _ _ _ c.loop-x.invariant (rw (c.maximum-most.ensures, c.positive_violation.ensures))
