use mathlib.Core.Path.{◌≡◌}
use Rattle.float.specs.Number.{zero64, absolute}
use Rattle.network.specs.Network.{referred}
use Rattle.derived.specs.Outputs.{va}
use Rattle.residuals.specs.internal.Section.{largest_with}
use Rattle.residuals.proofs.single.reference_angles.Given as goal

abbrev pub invariant-loop-r : goal.invariant-loop-r
invariant-loop-r l =
    let ws = l.tables.words.now in l.most ≡ largest_with zero64 l.r (λ j. absolute (va ws l.candidate.point.now (referred ws j)))
