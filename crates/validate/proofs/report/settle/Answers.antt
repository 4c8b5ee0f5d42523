use mathlib.Core.Path.{ap}
use lib.ListN.{set}
use Rattle.std.proofs.lemmas.Result.{err_from_is_err_and}
use Rattle.validate.proofs.Reported.{report_15, report_0}
use Rattle.validate.proofs.report.settle.Goals as goal

pub returns-in_err-measured : goal.returns-in_err-measured
returns-in_err-measured c =
    let p = err_from_is_err_and c.from_residual.result c.from_residual.ensures.1 in
    rw (p.1, p.2) (report_15 _ _ _ _ _ c.requires.1 _ c.in_err-measured.ensures.fault)

pub returns : goal.returns
returns c =
    let m = c.in_ok-measured.ensures in
    report_0 _ _ _ _ _ c.requires.1 _ _ _ m.fault m.residuals m.objective c.requires.0 (ap (λ l. set l 8 c.in_ok-measured.measured.objective) c.copy_front.ensures)
