use Rattle.base.specs.Loop.{each}
use Rattle.writer.specs.internal.Tokens.{Written}
use Rattle.emit.specs.internal.Rows.{thermal_tokens}
use Rattle.emit.proofs.rows.thermal_rows.Given as goal

abbrev pub invariant-loop-b : goal.invariant-loop-b
invariant-loop-b l = Written l.initial.writer (each l.b (thermal_tokens l.tables.words.now l.tables.numbers.now l.tables.layout.buses)) l.writer
