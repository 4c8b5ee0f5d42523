use Rattle.writer.proofs.Tokens.{turns_none, turns_step, turns_room}
use Rattle.emit.specs.internal.Rows.{segment_tokens}
use Rattle.emit.proofs.curves.segment_rows.Goals as goal

pub loop-s-init : goal.loop-s-init
loop-s-init c = turns_none _ (segment_tokens _ _ _ _)

pub segment_row-requires : goal.segment_row-requires
segment_row-requires c =
    rw (c.segment.ensures.0, c.segment.ensures.1)
    (turns_room _ (segment_tokens _ _ _ _) _ (rw c.segments-s-end.ensures at c.loop-s-test.true) c.requires c.loop-s.invariant)

pub loop-s-preserved : goal.loop-s-preserved
loop-s-preserved c =
    turns_step (segment_tokens _ _ _ _) _ c.loop-s.invariant
    (rw (c.segment.ensures.0, c.segment.ensures.1) at c.segment_row.ensures)
