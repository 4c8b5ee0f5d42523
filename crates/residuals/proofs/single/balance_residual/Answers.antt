use native.Mathlib.Omega.{arith}
use mathlib.Core.Path.{◌≡◌, ◌∙◌}
use lib.ListN.{length}
use Rattle.residuals.proofs.Section.{with_none, with_next, largest_is}
use Rattle.residuals.proofs.single.balance_residual.Goals as goal

pub loop-off-init : goal.loop-off-init
loop-off-init c = with_none _ _

pub loop-off-preserved : goal.loop-off-preserved
loop-off-preserved c = with_next _ _ _ _ _ c.loop-off.invariant (rw (c.maximum-most.ensures, c.absolute.ensures))

pub returns : goal.returns
returns c =
    let e : c.loop-off.off-index ≡ length c.args.balance.now = omega (arith, c.loop-off-test.false, c.loop-off.auto.off-index-end) in
    rw e at c.loop-off.invariant ∙ largest_is _ _
