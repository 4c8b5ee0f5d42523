use Rattle.base.specs.Loop.{each}
use Rattle.writer.specs.internal.Tokens.{Written}
use Rattle.emit.specs.internal.Rows.{segment_tokens}
use Rattle.emit.proofs.curves.segment_rows.Given as goal

abbrev pub invariant-loop-s : goal.invariant-loop-s
invariant-loop-s l = Written l.initial.writer (each l.s (segment_tokens l.curve.numbers.now l.curve.at l.columns.epigraph l.columns.pg)) l.writer
