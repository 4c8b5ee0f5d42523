use Rattle.base.proofs.Firsts.{Clear}
use Rattle.base.specs.Fault.{fault, unless, first}
use Rattle.base.specs.Refusal.{BOUNDS}
use Rattle.network.specs.Network.{vm_bounded, vm_column, vm_min, vm_max}
use Rattle.std.specs.Prelude.{not, ◌||◌}
use Rattle.bounds.specs.Bounds.{bounds_right}
use Rattle.tables.proofs.ranges.bounds_of_buses.Given as goal

abbrev pub invariant-loop-i : goal.invariant-loop-i
invariant-loop-i l =
    Clear (first l.i (λ j. unless (not (vm_bounded l.tables.words.now j) || bounds_right (vm_min l.tables.words.now l.tables.numbers.now j) (vm_max l.tables.words.now l.tables.numbers.now j)) (fault BOUNDS (vm_column l.tables.words.now j))))
