use mathlib.Core.Path.{◌≡◌}
use Rattle.acopf.proofs.Tallied.{costs_before}
use Rattle.acopf.proofs.objective.objective_constant.Given as goal

abbrev pub invariant-loop-generator : goal.invariant-loop-generator
invariant-loop-generator l =
    (l.generator-iterator.tables ≡ l.tables) × (l.sum ≡ costs_before l.tables.words.now l.tables.numbers.now l.generator-iterator.cursor.index)
