use native.Mathlib.Omega.{arith}
use mathlib.Core.Path.{◌≡◌, ap, ◌∙◌}
use Rattle.network.specs.Network.{branches}
use Rattle.residuals.specs.Residuals.{thermal_limits}
use Rattle.residuals.proofs.Section.{where_none}
use Rattle.residuals.proofs.Room.{thermal_turn}
use Rattle.residuals.proofs.single.thermal_limits.Goals as goal
use Rattle.residuals.proofs.single.thermal_limits.Goals.{then-rated, else-rated}

pub loop-b-init : goal.loop-b-init
loop-b-init c = where_none _ _

pub loop-b-preserved : goal.loop-b-preserved
loop-b-preserved c =
    thermal_turn c.branch-branch.ensures c.rated-rated.ensures _ c.loop-b.invariant
    (elim c.if-rated.branch [
      | then-rated w ↦
          let flow = w.flows-flow.ensures in
          w.most-is ∙ rw (w.if-rated.true, w.maximum-most.ensures, w.violation-over.ensures, flow.p_from_is, flow.q_from_is, flow.p_to_is, flow.q_to_is)
      | else-rated w ↦ w.most-is ∙ rw w.if-rated.false
    ])

pub returns : goal.returns
unfolding thermal_limits
returns c =
    let tables = c.args.derived.now.candidate.tables in
    let e : c.loop-b.b ≡ branches tables.words.now = omega (arith, ap (λ z. z.branches) tables.laid.words.is, c.loop-b-test.false, c.loop-b.auto.b-end) in
    rw e at c.loop-b.invariant
