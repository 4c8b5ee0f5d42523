use mathlib.Core.Path.{◌≡◌}
use Rattle.base.specs.Fault.{first}
use Rattle.base.proofs.Firsts.{Clear}
use Rattle.factor.proofs.Turns.{epigraph_factor}
use Rattle.factor.proofs.factor.epigraphs_factor.Given as goal

abbrev pub invariant-loop-generator : goal.invariant-loop-generator
invariant-loop-generator l =
    (l.generator-iterator.tables ≡ l.tables) × Clear (first l.generator-iterator.cursor.index (epigraph_factor l.tables.words.now l.tables.numbers.now l.start))
