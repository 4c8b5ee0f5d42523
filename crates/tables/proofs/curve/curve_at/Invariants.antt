use Prim.Native.Nat.{◌+◌, ◌*◌}
use Rattle.base.proofs.Firsts.{Clear}
use Rattle.base.specs.Fault.{fault, unless, first}
use Rattle.base.specs.Refusal.{CURVE}
use Rattle.network.specs.Limits.{point_numbers}
use Rattle.network.specs.Network.{power}
use Rattle.std.specs.Float.Ieee.{lt}
use Rattle.tables.proofs.curve.curve_at.Given as goal

abbrev pub invariant-loop-s : goal.invariant-loop-s
invariant-loop-s l =
    Clear (first l.s (λ s. unless (lt (power l.numbers l.at s) (power l.numbers l.at (s + 1))) (fault CURVE (l.at + point_numbers * (s + 1)))))
