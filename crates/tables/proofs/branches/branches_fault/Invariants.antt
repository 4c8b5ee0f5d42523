use Rattle.base.proofs.Firsts.{Clear}
use Rattle.base.specs.Fault.{first}
use Rattle.tables.specs.Fault.{branch_fault}
use Rattle.tables.proofs.branches.branches_fault.Given as goal

abbrev pub invariant-loop-b : goal.invariant-loop-b
invariant-loop-b l = Clear (first l.b (branch_fault l.tables.words.now l.tables.numbers.now))
