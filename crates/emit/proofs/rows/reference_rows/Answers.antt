use Rattle.writer.proofs.Tokens.{turns_none, turns_step, turns_room}
use Rattle.emit.specs.internal.Rows.{reference_tokens}
use Rattle.emit.proofs.rows.reference_rows.Goals as goal

pub loop-r-init : goal.loop-r-init
loop-r-init c = turns_none _ (reference_tokens _)

pub reference_row-requires-clause-room : goal.reference_row-requires-clause-room
reference_row-requires-clause-room c =
    rw c.reference.ensures.0 (turns_room _ (reference_tokens _) _ c.loop-r-test.true c.requires c.loop-r.invariant)

pub loop-r-preserved : goal.loop-r-preserved
loop-r-preserved c = turns_step (reference_tokens _) _ c.loop-r.invariant (rw c.reference.ensures.0 at c.reference_row.ensures)
