use native.Mathlib.Omega.{arith}
use mathlib.Core.Path.{◌≡◌, ap, ◌∙◌}
use Rattle.network.specs.Network.{references}
use Rattle.residuals.specs.Residuals.{reference_angles}
use Rattle.residuals.proofs.Section.{with_none, with_next, largest_is}
use Rattle.residuals.proofs.single.reference_angles.Goals as goal

pub loop-r-init : goal.loop-r-init
loop-r-init c = with_none _ _

pub loop-r-preserved : goal.loop-r-preserved
loop-r-preserved c =
    with_next _ _ _ _ _ c.loop-r.invariant (rw (c.maximum-most.ensures, c.absolute.ensures, c.va-angle.ensures, c.reference.ensures.0))

pub returns : goal.returns
unfolding reference_angles
returns c =
    let tables = c.args.candidate.now.tables in
    let e : c.loop-r.r ≡ references tables.words.now = omega (arith, ap (λ z. z.references) tables.laid.words.is, c.loop-r-test.false, c.loop-r.auto.r-end) in
    rw e at c.loop-r.invariant ∙ largest_is _ _
