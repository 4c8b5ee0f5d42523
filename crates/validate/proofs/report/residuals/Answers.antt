use mathlib.Core.Path.{sym, ap}
use Rattle.std.proofs.lemmas.Result.{err_from_is_err_and}
use Rattle.base.proofs.Refusals.{shown_number}
use Rattle.base.specs.Fault.{Fault}
use Rattle.validate.specs.Check.{fault_report}
use Rattle.validate.proofs.Reported.{report_cleared, stop_network, stop_report, stop_given}
use Rattle.validate.proofs.report.residuals.Goals as goal

pub returns-in_err-case : goal.returns-in_err-case
returns-in_err-case c =
    let a = c.args in
    let p = err_from_is_err_and c.from_residual.result c.from_residual.ensures.1 in
    rw (p.1, p.2) (stop_network _ _ a.point.now a.solver_objective a.report.now (shown_number c.in_err-case.field-0.0) c.in_err-case.ensures.fault)

pub returns-in_err-unless : goal.returns-in_err-unless
unfolding fault_report
returns-in_err-unless c =
    let a = c.args in
    let t = c.in_ok-case.ensures in
    let p = err_from_is_err_and c.from_residual-in_err-unless.result c.from_residual-in_err-unless.ensures.1 in
    rw (p.1, p.2) (stop_report _ _ a.point.now a.solver_objective a.report.now (shown_number c.in_err-unless.field-0.0) (sym t.fault) c.in_err-unless.ensures)

pub returns-in_err-candidate : goal.returns-in_err-candidate
unfolding fault_report
returns-in_err-candidate c =
    let a = c.args in
    let t = c.in_ok-case.ensures in
    let given = rw (t.words, t.numbers) at (c.in_err-candidate.ensures.fault a.solver_objective) in
    let p = err_from_is_err_and c.from_residual-in_err-candidate.result c.from_residual-in_err-candidate.ensures.1 in
    rw (p.1, p.2) (stop_given _ _ a.point.now a.solver_objective a.report.now (shown_number c.in_err-candidate.field-0.0) (sym t.fault) (ap (λ (f : Fault). f.number) (sym c.in_ok-unless.ensures)) given)

pub settle-requires : goal.settle-requires
unfolding fault_report
settle-requires c =
    let a = c.args in
    let t = c.in_ok-case.ensures in
    let k = c.in_ok-candidate.ensures in
    let given = rw (t.words, t.numbers) at (k.fault a.solver_objective) in
    rw (k.tables, k.point, t.words, t.numbers) (report_cleared _ _ a.point.now a.solver_objective _ t.fault c.in_ok-unless.ensures given)

pub returns : goal.returns
returns c =
    let t = c.in_ok-case.ensures in
    let k = c.in_ok-candidate.ensures in
    rw (k.tables, k.point, t.words, t.numbers) at c.settle.ensures
