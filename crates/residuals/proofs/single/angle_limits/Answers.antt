use native.Mathlib.Omega.{arith}
use mathlib.Core.Path.{◌≡◌, ap, ◌∙◌}
use Rattle.network.specs.Network.{branches}
use Rattle.residuals.specs.Residuals.{angle_limits}
use Rattle.residuals.proofs.Section.{where_none}
use Rattle.residuals.proofs.Room.{angle_turn}
use Rattle.residuals.proofs.single.angle_limits.Goals as goal
use Rattle.residuals.proofs.single.angle_limits.Goals.{then-branch, else-branch}

pub loop-b-init : goal.loop-b-init
loop-b-init c = where_none _ _

pub loop-b-preserved : goal.loop-b-preserved
loop-b-preserved c =
    angle_turn c.branch-branch.ensures c.args.candidate.now.point.now c.loop-b.invariant
    (elim c.if-branch.branch [
      | then-branch w ↦ w.most-is ∙ rw (w.if-branch.true, w.maximum-most.ensures, w.positive_violation-outside.ensures, w.va.ensures, w.va-then-branch.ensures)
      | else-branch w ↦ w.most-is ∙ rw w.if-branch.false
    ])

pub returns : goal.returns
unfolding angle_limits
returns c =
    let tables = c.args.candidate.now.tables in
    let e : c.loop-b.b ≡ branches tables.words.now = omega (arith, ap (λ z. z.branches) tables.laid.words.is, c.loop-b-test.false, c.loop-b.auto.b-end) in
    rw e at c.loop-b.invariant
