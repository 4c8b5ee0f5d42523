use Rattle.emit.specs.internal.Whole.{bus_rows}
use Rattle.writer.proofs.Tokens.{written_then, room_first, room_then}
use Rattle.emit.proofs.model.bus_rows.Goals as goal

pub balances-requires : goal.balances-requires
unfolding bus_rows
balances-requires c = room_first _ _ c.requires

pub reference_rows-requires : goal.reference_rows-requires
unfolding bus_rows
reference_rows-requires c = room_then _ _ c.requires c.balances.ensures

pub returns : goal.returns
unfolding bus_rows
returns c = written_then c.balances.ensures c.reference_rows.ensures
