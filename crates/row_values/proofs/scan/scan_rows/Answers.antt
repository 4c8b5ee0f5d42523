-- `row_values::scan::scan_rows` meets its contract.
use mathlib.Core.Path.{◌≡◌, ap, ◌∙◌}
use Prim.Native.Nat.{◌+◌}
use native.Mathlib.Omega.{arith}
use Rattle.nl.specs.Reader.{is_mark}
use Rattle.nl.proofs.PartSteps.{mark_inside}
use Rattle.row_values.specs.internal.Run.{RowsScanned}
use Rattle.expression.proofs.Scans.{exit_as}
use Rattle.row_values.proofs.Runs.{rows_none, rows_wrong, row_goes_on, rows_more, rows_all}
use Rattle.row_values.proofs.scan.scan_rows.Goals as goal
use Rattle.row_values.proofs.scan.scan_rows.Goals.{After-is_mark, After-past}

marks : (c : After-is_mark) → c.is_mark.result ≡ is_mark c.args.inputs.now.words.now 11 c.loop-file.run.count c.loop-file.run.end.at
marks c = c.is_mark.ensures ∙ ap (λ ws. is_mark ws 11 c.loop-file.run.count c.loop-file.run.end.at) c.file-file.ensures.0

-- past the part's beginning word
past_mark : (c : After-past) → c.past.result ≡ record { at = c.loop-file.run.end.at + 1; next = c.loop-file.run.end.next }
past_mark c = c.past.ensures (mark_inside _ _ _ _ _ c.is_mark.ensures c.loop-file-test.true)

pub loop-file-init : goal.loop-file-init
loop-file-init c = rw c.none-run.ensures (rows_none _ _ _ _ _ _ _)

pub returns-in_err-row : goal.returns-in_err-row
returns-in_err-row c =
    exit_as (RowsScanned _ _ _ _ _ _ _ _) _ _ c.from_residual.ensures.1
    (rows_wrong _ _ _ _ _ _ _ _ _ _ _ _ _ c.loop-file.invariant (marks (goal.at.returns-in_err-row c).After-is_mark) c.loop-file-test.true _ (rw (past_mark (goal.at.returns-in_err-row c).After-past) at c.in_err-row.ensures))

pub add-run-requires : goal.add-run-requires
add-run-requires c =
    let far = row_goes_on _ _ _ _ _ _ _ _ _ _ _ _ _ c.loop-file.invariant (marks (goal.at.add-run-requires c).After-is_mark) c.loop-file-test.true _ (rw (past_mark (goal.at.add-run-requires c).After-past) at c.in_ok-row.ensures) in
    omega (arith, c.loop-file.invariant.least)

pub loop-file-smaller : goal.loop-file-smaller
loop-file-smaller c =
    let far = row_goes_on _ _ _ _ _ _ _ _ _ _ _ _ _ c.loop-file.invariant (marks (goal.at.loop-file-smaller c).After-is_mark) c.loop-file-test.true _ (rw (past_mark (goal.at.loop-file-smaller c).After-past) at c.in_ok-row.ensures) in
    rw c.add-run.ensures.1 (omega arith)

pub loop-file-preserved : goal.loop-file-preserved
loop-file-preserved c =
    rw (c.keep.ensures, c.add-run.ensures.0, c.add-run.ensures.1) (rows_more _ _ _ _ _ _ _ _ _ _ _ _ _ c.loop-file.invariant (marks (goal.at.loop-file-preserved c).After-is_mark) c.loop-file-test.true _ (rw (past_mark (goal.at.loop-file-preserved c).After-past) at c.in_ok-row.ensures) _
    c.add-run.ensures.2)

pub returns : goal.returns
returns c = rows_all _ _ _ _ _ _ _ _ _ _ _ _ _ c.loop-file.invariant (marks (goal.at.returns c).After-is_mark) c.loop-file-test.false
