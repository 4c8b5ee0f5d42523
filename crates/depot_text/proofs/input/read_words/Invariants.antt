use mathlib.Core.Path.{◌≡◌}
use Prim.Native.Nat.{◌+◌, ◌*◌}
use lib.ListN.{length}
use Rattle.base.specs.Loop.{table}
use Rattle.little_endian.specs.Bytes.{word_at}
use Rattle.base.specs.internal.Section.{Wrote}
use Rattle.depot_text.proofs.input.read_words.Given as goal

abbrev pub invariant-loop-i : goal.invariant-loop-i
invariant-loop-i l = (length l.words ≡ length l.initial.words) × Wrote l.initial.words 0 (table l.i (λ j. word_at l.bytes (8 + 4 * j))) l.words l.i
