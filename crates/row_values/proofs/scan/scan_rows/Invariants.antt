-- `row_values::scan::scan_rows` meets its contract. The loop's invariant: the rows before have their values in the list, as far as it reaches.
use Prim.Native.Nat.{◌-◌}
use lib.ListN.{length}
use Rattle.row_values.proofs.Runs.{RowsSoFar}
use Rattle.row_values.proofs.scan.scan_rows.Given as goal

abbrev pub invariant-loop-file : goal.invariant-loop-file
invariant-loop-file l =
    let e = l.inputs in
    RowsSoFar e.words.now e.constants.now e.point.now e.shared.now l.fn.from.at l.fn.from.next l.initial.rows l.rows l.run.end.at l.run.end.next l.run.verdict l.run.count

abbrev pub decreases-loop-file : goal.decreases-loop-file
decreases-loop-file l = length l.inputs.words.now - l.run.end.at
