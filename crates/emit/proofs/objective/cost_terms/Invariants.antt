use mathlib.Core.Path.{◌≡◌}
use Rattle.base.specs.Loop.{each}
use Rattle.writer.specs.internal.Tokens.{Written}
use Rattle.emit.specs.internal.Objective.{cost_tokens}
use Rattle.emit.proofs.objective.cost_terms.Given as goal

abbrev pub invariant-loop-g : goal.invariant-loop-g
invariant-loop-g l =
    (l.g-iterator.tables ≡ l.tables) × Written l.initial.writer (each l.g-iterator.cursor.index (cost_tokens l.tables.words.now l.tables.numbers.now)) l.writer
