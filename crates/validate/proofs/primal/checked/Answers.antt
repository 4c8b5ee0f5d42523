use mathlib.Core.Path.{refl, sym, ap}
use Rattle.std.proofs.lemmas.Result.{err_from_is_err_and}
use Rattle.base.proofs.Refusals.{shown_number}
use Rattle.base.specs.Fault.{Fault}
use Rattle.validate.proofs.Entry.{check_opened, stop_network, stop_lent, stop_given}
use Rattle.validate.proofs.primal.checked.Goals as goal

pub returns-in_err-case : goal.returns-in_err-case
returns-in_err-case c =
    let a = c.args in
    let p = err_from_is_err_and c.from_residual.result c.from_residual.ensures.1 in
    rw (p.1, p.2) (stop_network _ _ a.point.now a.solver a.tolerances.now a.outputs.now refl (shown_number c.in_err-case.field-0.0) c.in_err-case.ensures.fault)

pub returns-in_err-lent_fault : goal.returns-in_err-lent_fault
returns-in_err-lent_fault c =
    let a = c.args in
    let t = c.in_ok-case.ensures in
    let lent = rw (t.words, t.numbers) at (c.in_err-lent_fault.ensures a.point.now a.solver) in
    let p = err_from_is_err_and c.from_residual-in_err-lent_fault.result c.from_residual-in_err-lent_fault.ensures.1 in
    rw (p.1, p.2) (stop_lent _ _ a.point.now a.solver a.tolerances.now a.outputs.now refl (shown_number c.in_err-lent_fault.field-0.0) (sym t.fault) lent)

pub returns-in_err-candidate : goal.returns-in_err-candidate
returns-in_err-candidate c =
    let a = c.args in
    let t = c.in_ok-case.ensures in
    let lent = rw (t.words, t.numbers) at (c.in_ok-lent_fault.ensures a.point.now a.solver) in
    let given = rw (t.words, t.numbers) at (c.in_err-candidate.ensures.fault a.solver) in
    let p = err_from_is_err_and c.from_residual-in_err-candidate.result c.from_residual-in_err-candidate.ensures.1 in
    rw (p.1, p.2) (stop_given _ _ a.point.now a.solver a.tolerances.now a.outputs.now refl (shown_number c.in_err-candidate.field-0.0) (sym t.fault) (ap (λ (f : Fault). f.number) (sym lent)) given)

pub settled-requires : goal.settled-requires
settled-requires c =
    let a = c.args in
    let t = c.in_ok-case.ensures in
    let k = c.in_ok-candidate.ensures in
    let lent = rw (t.words, t.numbers) at (c.in_ok-lent_fault.ensures a.point.now a.solver) in
    let given = rw (t.words, t.numbers) at (k.fault a.solver) in
    rw (k.tables, k.point, t.words, t.numbers) (check_opened _ _ a.point.now a.solver a.tolerances.now _ t.fault lent given)

pub returns : goal.returns
returns c =
    let t = c.in_ok-case.ensures in
    let k = c.in_ok-candidate.ensures in
    rw (k.tables, k.point, t.words, t.numbers) at c.settled.ensures
