use mathlib.Core.Path.{◌≡◌}
use Rattle.network.specs.Network.{rated}
use Rattle.derived.specs.Outputs.{flows}
use Rattle.residuals.specs.Residuals.{largest_where}
use Rattle.residuals.proofs.Room.{flow_off}
use Rattle.residuals.proofs.single.thermal_limits.Given as goal

abbrev pub invariant-loop-b : goal.invariant-loop-b
invariant-loop-b l =
    let ws = l.tables.words.now in
    let xs = l.tables.numbers.now in
    l.most ≡ largest_where l.b (rated ws xs) (flow_off ws xs (flows ws xs l.derived.candidate.point.now))
