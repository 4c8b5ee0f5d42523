use mathlib.Core.Path.{◌≡◌}
use Rattle.base.specs.Loop.{each}
use Rattle.writer.specs.internal.Tokens.{Written}
use Rattle.emit.specs.internal.Rows.{curve_tokens}
use Rattle.emit.proofs.curves.curve_rows.Given as goal

abbrev pub invariant-loop-g : goal.invariant-loop-g
invariant-loop-g l =
    (l.g-iterator.tables ≡ l.tables) × Written l.initial.writer (each l.g-iterator.cursor.index (curve_tokens l.tables.words.now l.tables.numbers.now)) l.writer
