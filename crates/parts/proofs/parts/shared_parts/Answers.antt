use Rattle.writer.proofs.Tokens.{written_then, room_first, room_then}
use Rattle.parts.specs.internal.Parts.{shared_tokens}
use Rattle.parts.proofs.parts.shared_parts.Goals as goal

pub vm_squared-requires-clause-room : goal.vm_squared-requires-clause-room
unfolding shared_tokens
vm_squared-requires-clause-room c = room_first _ _ c.requires

pub branch_flows-requires : goal.branch_flows-requires
unfolding shared_tokens
branch_flows-requires c = room_then _ _ c.requires c.vm_squared.ensures

pub returns : goal.returns
unfolding shared_tokens
returns c = written_then c.vm_squared.ensures c.branch_flows.ensures
