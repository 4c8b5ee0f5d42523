use Rattle.base.specs.Loop.{each}
use Rattle.writer.specs.internal.Tokens.{Written}
use Rattle.emit.specs.internal.Rows.{angle_tokens}
use Rattle.emit.proofs.rows.angle_rows.Given as goal

abbrev pub invariant-loop-b : goal.invariant-loop-b
invariant-loop-b l = Written l.initial.writer (each l.b (angle_tokens l.tables.words.now)) l.writer
