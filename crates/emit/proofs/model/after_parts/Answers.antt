use Rattle.emit.specs.internal.Whole.{row_tokens}
use Rattle.writer.proofs.Tokens.{written_then, room_first, room_then}
use Rattle.emit.proofs.model.after_parts.Goals as goal

pub bus_rows-requires : goal.bus_rows-requires
unfolding row_tokens
bus_rows-requires c = room_first _ _ c.requires

pub branch_rows-requires : goal.branch_rows-requires
unfolding row_tokens
branch_rows-requires c = room_first _ _ (room_then _ _ c.requires c.bus_rows.ensures)

pub objective_and_end-requires : goal.objective_and_end-requires
unfolding row_tokens
objective_and_end-requires c = room_then _ _ (room_then _ _ c.requires c.bus_rows.ensures) c.branch_rows.ensures

pub returns : goal.returns
unfolding row_tokens
returns c = written_then c.bus_rows.ensures (written_then c.branch_rows.ensures c.objective_and_end.ensures)
