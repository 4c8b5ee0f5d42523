use Rattle.derived.specs.Outputs.{flows}
use Rattle.derived.specs.internal.Scratch.{FlowsAre}
use Rattle.derived.proofs.flow.flows.Given as goal

abbrev pub invariant-loop-b : goal.invariant-loop-b
invariant-loop-b l =
    let tables = l.candidate.tables in
    FlowsAre (flows tables.words.now tables.numbers.now l.candidate.point.now) tables.layout.buses l.m l.b l.list
