use mathlib.Core.Path.{ap, sym, ◌∙◌}
use Rattle.base.proofs.Refusals.{exit_shown}
use Rattle.lists.proofs.Point.{point_given}
use Rattle.acopf.proofs.Tallied.{columns_are}
use Rattle.derived.proofs.candidate.Candidate.new.Goals as goal

pub returns-in_err-point_fault-clause-fault : goal.returns-in_err-point_fault-clause-fault
returns-in_err-point_fault-clause-fault c =
    exit_shown _ _ c.from_residual.ensures.1 ∙ (rw c.columns.ensures at c.in_err-point_fault.ensures)

pub invariant_of-result : goal.invariant_of-result
invariant_of-result c =
    let case = c.args.case.now in
    let e = point_given _ _ (ap (λ f. f.number) (sym c.in_ok-point_fault.ensures)) in
    record { given = e ∙ c.columns.ensures ∙ sym (columns_are case.tables.laid case.tallied) ∙ rw (case.tallied.of_epigraphs, case.tables.laid.words.is) }

pub returns-clause-fault : goal.returns-clause-fault
returns-clause-fault c = rw c.columns.ensures at c.in_ok-point_fault.ensures
