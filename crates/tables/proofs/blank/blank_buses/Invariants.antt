use Rattle.base.proofs.Firsts.{Clear}
use Rattle.base.specs.Fault.{first}
use Rattle.network.specs.Network.{bus_at}
use Rattle.tables.specs.Fault.{blanks}
use Rattle.tables.proofs.blank.blank_buses.Given as goal

abbrev pub invariant-loop-i : goal.invariant-loop-i
invariant-loop-i l = Clear (first l.i (λ j. blanks l.tables.numbers.now (bus_at l.tables.words.now j) 4))
