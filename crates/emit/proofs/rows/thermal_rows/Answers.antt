use mathlib.Core.Path.{sym}
use Rattle.writer.proofs.Tokens.{turns_none, turns_step, turns_skip, turns_room}
use Rattle.emit.specs.internal.Rows.{thermal_tokens}
use Rattle.emit.proofs.Pieces.{thermal_is}
use Rattle.emit.proofs.rows.thermal_rows.Goals as goal
use Rattle.emit.proofs.rows.thermal_rows.Goals.{then-rated, else-rated}

pub loop-b-init : goal.loop-b-init
loop-b-init c = let tables = c.args.tables.now in turns_none _ (thermal_tokens tables.words.now tables.numbers.now tables.layout.buses)

pub thermal_pair-requires-clause-room : goal.thermal_pair-requires-clause-room
thermal_pair-requires-clause-room c =
    let tables = c.args.tables.now in
    let pair = rw c.if-rated.true at (thermal_is tables.laid c.loop-b.b c.branch-branch.ensures.is c.rated.ensures) in
    rw pair (turns_room _ (thermal_tokens tables.words.now tables.numbers.now tables.layout.buses) _ c.loop-b-test.true c.requires c.loop-b.invariant)

pub loop-b-preserved : goal.loop-b-preserved
loop-b-preserved c =
    let tables = c.args.tables.now in
    let f = thermal_tokens tables.words.now tables.numbers.now tables.layout.buses in
    let pair = thermal_is tables.laid c.loop-b.b c.branch-branch.ensures.is c.rated.ensures in
    elim c.if-rated.branch [
      | then-rated w ↦
          let both = rw w.if-rated.true at pair in
          rw w.writer-is (turns_step f _ c.loop-b.invariant (rw both at w.thermal_pair.ensures))
      | else-rated w ↦
          let none = rw w.if-rated.false at pair in
          rw w.writer-is (turns_skip f _ (sym none) c.loop-b.invariant)
    ]
