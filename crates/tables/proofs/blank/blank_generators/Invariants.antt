use mathlib.Core.Path.{◌≡◌}
use Prim.Native.Nat.{◌+◌, ◌*◌}
use Rattle.base.proofs.Firsts.{Clear}
use Rattle.base.specs.Fault.{or_else, first}
use Rattle.network.specs.Limits.{point_numbers}
use Rattle.network.specs.Network.{points, generator_at, curve_at}
use Rattle.tables.specs.Fault.{blanks}
use Rattle.tables.proofs.blank.blank_generators.Given as goal

abbrev pub invariant-loop-generator : goal.invariant-loop-generator
invariant-loop-generator l =
    (l.generator-iterator.tables ≡ l.tables) × Clear (first l.generator-iterator.cursor.index (λ g.
    or_else (blanks l.tables.numbers.now (generator_at l.tables.words.now g + 4) 3) (blanks l.tables.numbers.now (curve_at l.tables.words.now g) (point_numbers * points l.tables.words.now g))))
