use Rattle.std.proofs.Common.{◌≡◌, Float}
use Rattle.network.specs.declared.records.Generator.{Generator}
use Rattle.network.specs.internal.Records.{generator_record}
use Rattle.residuals.specs.internal.Section.{largest_with, outside, held_lower, held_upper}
use Rattle.residuals.proofs.variable.generator_bounds.Given as goal

abbrev pub invariant-loop-g : goal.invariant-loop-g
invariant-loop-g g l =
    let ws = l.tables.words.now in
    let xs = l.tables.numbers.now in
    (l.g-iterator.tables ≡ l.tables)
    × ((f : Generator → Float × Float) → ((generator : Generator) (b : Float × Float) → goal.F-post g l.bounds generator b → b ≡ f generator)
    → l.most ≡ largest_with l.start l.g-iterator.cursor.index (outside l.columns (λ j. held_lower f (generator_record ws xs j)) (λ j. held_upper f (generator_record ws xs j))))
