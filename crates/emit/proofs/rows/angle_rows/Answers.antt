use mathlib.Core.Path.{sym}
use Rattle.writer.proofs.Tokens.{turns_none, turns_step, turns_skip, turns_room}
use Rattle.emit.specs.internal.Rows.{angle_tokens}
use Rattle.emit.proofs.Pieces.{angle_is}
use Rattle.emit.proofs.rows.angle_rows.Goals as goal
use Rattle.emit.proofs.rows.angle_rows.Goals.{then-branch, else-branch}

pub loop-b-init : goal.loop-b-init
loop-b-init c = turns_none _ (angle_tokens _)

pub angle_row-requires-clause-room : goal.angle_row-requires-clause-room
angle_row-requires-clause-room c =
    let row = rw c.if-branch.true at (angle_is c.args.tables.now.laid c.loop-b.b c.branch-branch.ensures.is) in
    rw row (turns_room _ (angle_tokens _) _ c.loop-b-test.true c.requires c.loop-b.invariant)

pub loop-b-preserved : goal.loop-b-preserved
loop-b-preserved c =
    let row = angle_is c.args.tables.now.laid c.loop-b.b c.branch-branch.ensures.is in
    elim c.if-branch.branch [
      | then-branch w ↦
          let one = rw w.if-branch.true at row in
          rw w.writer-is (turns_step (angle_tokens _) _ c.loop-b.invariant (rw one at w.angle_row.ensures))
      | else-branch w ↦
          let none = rw w.if-branch.false at row in
          rw w.writer-is (turns_skip (angle_tokens _) _ (sym none) c.loop-b.invariant)
    ]
