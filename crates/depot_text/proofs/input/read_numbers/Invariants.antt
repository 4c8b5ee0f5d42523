use mathlib.Core.Path.{◌≡◌}
use Prim.Native.Nat.{◌+◌, ◌*◌}
use lib.ListN.{length}
use Rattle.base.specs.Loop.{table}
use Rattle.base.specs.internal.Section.{Wrote}
use Rattle.little_endian.specs.Bytes.{number_at}
use Rattle.depot_text.proofs.input.read_numbers.Given as goal

abbrev pub invariant-loop-i : goal.invariant-loop-i
invariant-loop-i l = (length l.numbers ≡ length l.initial.numbers) × Wrote l.initial.numbers 0 (table l.i (λ j. number_at l.bytes (l.first + 8 * j))) l.numbers l.i
