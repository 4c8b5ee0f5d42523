use Rattle.std.proofs.Common.{◌≡◌}
use Rattle.base.specs.internal.Section.{Added}
use Rattle.columns.proofs.Front.{epigraphs}
use Rattle.columns.proofs.sections.epigraph_section.Given as goal

abbrev pub invariant-loop-generator : goal.invariant-loop-generator
invariant-loop-generator l =
    (l.generator-iterator.tables ≡ l.tables)
    × Added l.initial.out (epigraphs l.tables.words.now l.tables.numbers.now l.generator-iterator.cursor.index) l.out
