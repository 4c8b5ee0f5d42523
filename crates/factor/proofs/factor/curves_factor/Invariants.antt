use mathlib.Core.Path.{◌≡◌}
use Prim.Native.Nat.{◌+◌, ◌*◌, ◌≤◌}
use Rattle.base.specs.Fault.{first}
use Rattle.base.proofs.Firsts.{Clear}
use Rattle.network.specs.Limits.{most_points}
use Rattle.acopf.specs.Tallies.{segments_before}
use Rattle.factor.proofs.Turns.{curve_factor}
use Rattle.factor.proofs.factor.curves_factor.Given as goal

abbrev pub invariant-loop-generator : goal.invariant-loop-generator
invariant-loop-generator l =
    (l.generator-iterator.tables ≡ l.tables) × (l.place ≡ l.start + 2 * segments_before l.tables.words.now l.generator-iterator.cursor.index) × (l.place ≤ l.start + 2 * most_points * l.generator-iterator.cursor.index)
    × Clear (first l.generator-iterator.cursor.index (curve_factor l.tables.words.now l.tables.numbers.now l.start))
