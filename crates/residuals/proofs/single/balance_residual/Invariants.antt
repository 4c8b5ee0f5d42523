use mathlib.Core.Path.{◌≡◌}
use Rattle.float.specs.Number.{zero64, absolute}
use Rattle.network.specs.Network.{number}
use Rattle.residuals.specs.internal.Section.{largest_with}
use Rattle.residuals.proofs.single.balance_residual.Given as goal

abbrev pub invariant-loop-off : goal.invariant-loop-off
invariant-loop-off l = l.most ≡ largest_with zero64 l.off-index (λ j. absolute (number l.balance j))
