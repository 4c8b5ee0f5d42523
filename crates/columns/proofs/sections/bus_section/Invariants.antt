use Rattle.std.proofs.Common.{◌≡◌, ◌+◌, length, Float}
use Rattle.base.specs.Loop.{table}
use Rattle.base.specs.internal.Section.{Added}
use Rattle.network.specs.declared.records.Bus.{Bus}
use Rattle.network.specs.internal.Records.{bus_record}
use Rattle.columns.proofs.sections.bus_section.Given as goal

abbrev pub invariant-loop-i : goal.invariant-loop-i
invariant-loop-i g l =
    (length l.out.out.now ≡ length l.initial.out.out.now) × (l.out.at ≡ l.initial.out.at + l.i)
    × ((f : Bus → Float) → ((bus : Bus) (v : Float) → goal.F-post g l.value bus v → v ≡ f bus)
    → Added l.initial.out (table l.i (λ i. f (bus_record l.tables.words.now l.tables.numbers.now i))) l.out)
