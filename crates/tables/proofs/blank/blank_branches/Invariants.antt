use Rattle.base.proofs.Firsts.{Clear}
use Rattle.base.specs.Fault.{first}
use Rattle.network.specs.Network.{branch_at}
use Rattle.tables.specs.Fault.{blanks}
use Rattle.tables.proofs.blank.blank_branches.Given as goal

abbrev pub invariant-loop-b : goal.invariant-loop-b
invariant-loop-b l = Clear (first l.b (λ j. blanks l.tables.numbers.now (branch_at l.tables.words.now j) 8))
