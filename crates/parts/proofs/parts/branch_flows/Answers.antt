use Rattle.writer.proofs.Tokens.{turns_none, turns_step, turns_room}
use Rattle.parts.specs.internal.Parts.{branch_tokens}
use Rattle.parts.proofs.parts.branch_flows.Goals as goal

pub loop-b-init : goal.loop-b-init
loop-b-init c = turns_none _ (branch_tokens _ _)

pub branch_flow-requires-clause-room : goal.branch_flow-requires-clause-room
branch_flow-requires-clause-room c = turns_room _ (branch_tokens _ _) _ c.loop-b-test.true c.requires c.loop-b.invariant

pub loop-b-preserved : goal.loop-b-preserved
loop-b-preserved c = turns_step (branch_tokens _ _) _ c.loop-b.invariant c.branch_flow.ensures
