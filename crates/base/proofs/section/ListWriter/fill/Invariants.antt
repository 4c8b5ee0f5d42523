use lib.ListN.{replicate}
use Rattle.base.specs.internal.Section.{Added}
use Rattle.base.proofs.section.ListWriter.fill.Given as goal

abbrev pub invariant-loop : goal.invariant-loop
invariant-loop g l = Added l.initial.self (replicate l.counter l.value) l.self
