use Rattle.std.proofs.Common.{◌≡◌, ◌+◌, length, Float}
use Rattle.base.specs.Loop.{table}
use Rattle.base.specs.internal.Section.{Added}
use Rattle.network.specs.declared.records.Generator.{Generator}
use Rattle.network.specs.internal.Records.{generator_record}
use Rattle.columns.proofs.sections.generator_section.Given as goal

abbrev pub invariant-loop-generator : goal.invariant-loop-generator
invariant-loop-generator g l =
    let next = l.generator-iterator.cursor.index in
    (l.generator-iterator.tables ≡ l.tables) × (length l.out.out.now ≡ length l.initial.out.out.now) × (l.out.at ≡ l.initial.out.at + next)
    × ((f : Generator → Float) → ((generator : Generator) (v : Float) → goal.F-post g l.value generator v → v ≡ f generator)
    → Added l.initial.out (table next (λ j. f (generator_record l.tables.words.now l.tables.numbers.now j))) l.out)
