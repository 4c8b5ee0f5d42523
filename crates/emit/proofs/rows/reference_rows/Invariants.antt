use Rattle.base.specs.Loop.{each}
use Rattle.writer.specs.internal.Tokens.{Written}
use Rattle.emit.specs.internal.Rows.{reference_tokens}
use Rattle.emit.proofs.rows.reference_rows.Given as goal

abbrev pub invariant-loop-r : goal.invariant-loop-r
invariant-loop-r l = Written l.initial.writer (each l.r (reference_tokens l.tables.words.now)) l.writer
