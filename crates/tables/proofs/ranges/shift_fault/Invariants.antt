use Prim.Native.Nat.{◌+◌}
use Rattle.base.proofs.Firsts.{Clear}
use Rattle.base.specs.Fault.{fault, unless, first}
use Rattle.base.specs.Refusal.{SHIFT}
use Rattle.network.specs.Network.{branch_at, shift}
use Rattle.bounds.specs.Bounds.{angle_right}
use Rattle.tables.proofs.ranges.shift_fault.Given as goal

abbrev pub invariant-loop-b : goal.invariant-loop-b
invariant-loop-b l = Clear (first l.b (λ j. unless (angle_right (shift l.tables.words.now l.tables.numbers.now j)) (fault SHIFT (branch_at l.tables.words.now j + 7))))
