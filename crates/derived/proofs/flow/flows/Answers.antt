use native.Mathlib.Omega.{arith}
use mathlib.Core.Path.{ap}
use Prim.Native.Nat.{◌<◌}
use Rattle.network.specs.Network.{branches}
use Rattle.derived.proofs.Scratch.{flow_is, flows_next}
use Rattle.derived.proofs.Turns.{flow_turn}
use Rattle.derived.proofs.flow.flows.Goals as goal

pub loop-b-preserved : goal.loop-b-preserved
loop-b-preserved c =
    let loop = c.loop-b in
    let tables = c.args.candidate.now.tables in
    let h : loop.b < branches tables.words.now = omega (arith, ap (λ z. z.branches) tables.laid.words.is, c.loop-b-test.true) in
    let flow = flow_turn c.args.candidate.now.point.now _ c.branch-branch.ensures c.requires.1 c.numeric_branch_flow-flow.ensures in
    flows_next _ _ _ _ loop.list _ c.loop-b-test.true (omega (arith, c.requires.2, loop.auto.list)) (flow_is _ _ _ _ _ h flow) loop.invariant
