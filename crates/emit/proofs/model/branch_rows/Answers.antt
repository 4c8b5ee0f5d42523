use Rattle.emit.specs.internal.Whole.{branch_rows}
use Rattle.writer.proofs.Tokens.{written_then, room_first, room_then}
use Rattle.emit.proofs.model.branch_rows.Goals as goal

pub angle_rows-requires : goal.angle_rows-requires
unfolding branch_rows
angle_rows-requires c = room_first _ _ c.requires

pub thermal_rows-requires : goal.thermal_rows-requires
unfolding branch_rows
thermal_rows-requires c = room_first _ _ (room_then _ _ c.requires c.angle_rows.ensures)

pub curve_rows-requires : goal.curve_rows-requires
unfolding branch_rows
curve_rows-requires c = room_then _ _ (room_then _ _ c.requires c.angle_rows.ensures) c.thermal_rows.ensures

pub returns : goal.returns
unfolding branch_rows
returns c = written_then c.angle_rows.ensures (written_then c.thermal_rows.ensures c.curve_rows.ensures)
