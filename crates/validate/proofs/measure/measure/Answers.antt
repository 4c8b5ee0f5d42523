use mathlib.Core.Path.{◌∙◌}
use Rattle.base.proofs.Refusals.{exit_shown}
use Rattle.validate.proofs.Verdict.{derived_is, solved_outputs, solved_objective, solved_residuals}
use Rattle.validate.proofs.measure.measure.Goals as goal

pub residuals_at-requires : goal.residuals_at-requires
residuals_at-requires c = rw c.new-derived.ensures c.costs_at-costs.ensures

pub returns-in_err-fault-clause-fault : goal.returns-in_err-fault-clause-fault
returns-in_err-fault-clause-fault c =
    let filled = rw c.new-derived.ensures at c.new-derived.result.filled in
    exit_shown _ _ c.from_residual.ensures.1 ∙ c.in_err-fault.ensures ∙ derived_is _ _ _ _ filled c.costs_at-costs.ensures.objective_is

pub returns-clause-fault : goal.returns-clause-fault
returns-clause-fault c =
    let filled = rw c.new-derived.ensures at c.new-derived.result.filled in
    c.in_ok-fault.ensures ∙ derived_is _ _ _ _ filled c.costs_at-costs.ensures.objective_is

pub returns-clause-outputs : goal.returns-clause-outputs
returns-clause-outputs c =
    let filled = rw c.new-derived.ensures at c.new-derived.result.filled in
    solved_outputs _ _ _ _ filled c.costs_at-costs.ensures.objective_is

pub returns-clause-objective : goal.returns-clause-objective
returns-clause-objective c =
    let filled = rw c.new-derived.ensures at c.new-derived.result.filled in
    solved_objective _ _ _ _ filled c.costs_at-costs.ensures.objective_is

pub returns-clause-residuals : goal.returns-clause-residuals
returns-clause-residuals c = solved_residuals _ _ _ _ (rw c.new-derived.ensures at c.residuals_at.ensures)
