-- `row_values::scan::scan_file` meets its contract.
use mathlib.Core.Path.{◌∙◌}
use Rattle.row_values.specs.internal.Run.{FileScanned}
use Rattle.expression.proofs.Scans.{exit_as}
use Rattle.row_values.proofs.Files.{shared_exit, rows_failed, end_failed, file_run}
use Rattle.row_values.proofs.scan.scan_file.Goals as goal

pub returns-in_err-shared_run : goal.returns-in_err-shared_run
returns-in_err-shared_run c =
    exit_as (FileScanned _ _ _ _ _ _) _ _ c.from_residual.ensures.1
    (shared_exit _ _ _ c.scan_shared.new.array c.args.rows.now c.args.rows.now _ c.in_err-shared_run.ensures)

pub returns-in_err-row_run : goal.returns-in_err-row_run
returns-in_err-row_run c =
    exit_as (FileScanned _ _ _ _ _ _) _ _ c.from_residual-in_err-row_run.ensures.1
    (rows_failed _ _ _ _ _ c.in_ok-shared_run.ensures (c.scan_shared.auto.array ∙ c.requires) _ c.in_err-row_run.ensures)

pub returns-in_err-objective : goal.returns-in_err-objective
returns-in_err-objective c =
    exit_as (FileScanned _ _ _ _ _ _) _ _ c.from_residual-in_err-objective.ensures.1
    (end_failed _ _ _ _ _ c.in_ok-shared_run.ensures (c.scan_shared.auto.array ∙ c.requires) _ _ _ c.in_ok-row_run.ensures _ c.in_err-objective.ensures)

pub returns : goal.returns
returns c =
    file_run _ _ _ _ _ c.in_ok-shared_run.ensures (c.scan_shared.auto.array ∙ c.requires) _ _ _ c.in_ok-row_run.ensures _ _ _ c.in_ok-objective.ensures
    c.and-earlier.ensures c.first_fault.ensures
