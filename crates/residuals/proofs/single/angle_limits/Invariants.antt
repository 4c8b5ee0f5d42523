use mathlib.Core.Path.{◌≡◌}
use Rattle.network.specs.Network.{angled}
use Rattle.residuals.specs.Residuals.{largest_where}
use Rattle.residuals.proofs.Room.{angle_off}
use Rattle.residuals.proofs.single.angle_limits.Given as goal

abbrev pub invariant-loop-b : goal.invariant-loop-b
invariant-loop-b l =
    let ws = l.tables.words.now in l.most ≡ largest_where l.b (angled ws) (angle_off ws l.tables.numbers.now l.candidate.point.now)
