use Rattle.base.specs.Loop.{each}
use Rattle.writer.specs.internal.Tokens.{Written}
use Rattle.parts.specs.internal.Parts.{branch_tokens}
use Rattle.parts.proofs.parts.branch_flows.Given as goal

abbrev pub invariant-loop-b : goal.invariant-loop-b
invariant-loop-b l = Written l.initial.writer (each l.b (branch_tokens l.tables.words.now l.tables.numbers.now)) l.writer
