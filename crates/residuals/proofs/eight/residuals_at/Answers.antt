use mathlib.Core.Path.{ap}
use native.Mathlib.Omega.{arith}
use Rattle.derived.specs.Outputs.{flows}
use Rattle.residuals.proofs.Room.{active_is, reactive_is, difference_is, residuals_are}
use Rattle.residuals.proofs.eight.residuals_at.Goals as goal

pub returns : goal.returns
returns c =
    let candidate = c.args.derived.now.candidate in
    let ws = candidate.tables.words.now in
    let xs = candidate.tables.numbers.now in
    let x = candidate.point.now in
    let fs = flows ws xs x in
    let n = ap (λ z. z.buses) candidate.tables.laid.words.is in
    let list = c.balances.new.list in
    let active = active_is ws xs x fs _ list n (omega (arith, candidate.tables.laid.words.few_buses, c.balances.auto.list)) c.balances.ensures c.balance_residual-active.ensures in
    let reactive = reactive_is ws xs x fs _ list n (omega (arith, candidate.tables.laid.words.few_buses, c.balances.auto.list)) c.balances.ensures c.balance_residual-reactive.ensures in
    residuals_are ws xs x fs _ _ _ _ _ _ _ _ _ active reactive c.variable_bounds.ensures c.reference_angles.ensures c.angle_limits.ensures c.thermal_limits.ensures c.requires.epigraph_is
    (difference_is ws xs x _ _ _ c.requires.objective_is c.objective_difference.ensures)
