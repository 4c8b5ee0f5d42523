use mathlib.Core.Path.{◌≡◌}
use Prim.Native.Nat.{◌+◌, ◌*◌}
use Rattle.base.proofs.Firsts.{Clear}
use Rattle.base.specs.Fault.{fault, unless, first}
use Rattle.base.specs.Refusal.{CURVE}
use Rattle.network.specs.Limits.{point_numbers}
use Rattle.network.specs.Network.{power, segments, curve_at}
use Rattle.std.specs.Float.Ieee.{lt}
use Rattle.tables.proofs.curve.curve_fault.Given as goal

abbrev pub invariant-loop-generator : goal.invariant-loop-generator
invariant-loop-generator l =
    (l.generator-iterator.tables ≡ l.tables) × Clear (first l.generator-iterator.cursor.index (λ g. first (segments l.tables.words.now g) (λ s.
    unless (lt (power l.tables.numbers.now (curve_at l.tables.words.now g) s) (power l.tables.numbers.now (curve_at l.tables.words.now g) (s + 1))) (fault CURVE (curve_at l.tables.words.now g + point_numbers * (s + 1))))))
