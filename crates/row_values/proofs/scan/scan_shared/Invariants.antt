-- `row_values::scan::scan_shared` meets its contract. The loop's invariant: the parts before have their values in the array.
use Prim.Native.Nat.{◌-◌}
use mathlib.Core.Path.{◌≡◌}
use lib.ListN.{length}
use Rattle.model_reading.specs.Reading.{shared_limit}
use Rattle.row_values.proofs.Runs.{SharedSoFar}
use Rattle.row_values.proofs.scan.scan_shared.Given as goal

abbrev pub invariant-loop-file : goal.invariant-loop-file
invariant-loop-file l =
    let e = l.inputs in
    (length l.initial.array ≡ shared_limit) × SharedSoFar e.words.now e.constants.now e.point.now l.array l.run.end.at l.run.end.next l.run.verdict l.run.count

abbrev pub decreases-loop-file : goal.decreases-loop-file
decreases-loop-file l = length l.initial.array - l.run.count
