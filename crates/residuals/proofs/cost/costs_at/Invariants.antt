use mathlib.Core.Path.{◌≡◌}
use Rattle.residuals.proofs.CostWalk.{Walked}
use Rattle.residuals.proofs.cost.costs_at.Given as goal

abbrev pub invariant-loop-g : goal.invariant-loop-g
invariant-loop-g l =
    (l.g-iterator.tables ≡ l.tables)
    × Walked l.tables.words.now l.tables.numbers.now l.candidate.point.now l.g-iterator.cursor.index l.costs
