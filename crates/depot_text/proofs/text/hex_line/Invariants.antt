use Prim.Native.Nat.{◌*◌, ◌-◌, ◌/◌, ◌%◌, ◌^◌}
use lib.ListN.{replicate}
use Rattle.base.specs.Loop.{table}
use Rattle.base.specs.internal.Section.{Wrote}
use Rattle.depot_text.specs.Text.{hex_digit}
use Rattle.depot_text.proofs.text.hex_line.Given as goal

abbrev pub invariant-loop-i : goal.invariant-loop-i
invariant-loop-i l = Wrote (replicate 9 10) 0 (table l.i (λ j. hex_digit (l.w / 2 ^ (28 - 4 * j) % 16))) l.line l.i
