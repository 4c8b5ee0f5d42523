use mathlib.Core.Path.{◌≡◌}
use native.Mathlib.Omega.{arith}
use native.Mathlib.Nat.{div-one}
use Rattle.base.specs.Loop.{loop, table}
use Prim.Native.Nat.{◌*◌, ◌-◌, ◌/◌, ◌%◌, ◌^◌}
use lib.ListN.{replicate}
use Rattle.base.specs.internal.Section.{Wrote}
use Rattle.base.proofs.Sections.{wrote_front}
use Rattle.depot_text.specs.Text.{hex_digit, hex_line}
use Rattle.depot_text.proofs.Writes.{table_none, table_step}
use Rattle.depot_text.proofs.text.hex_line.Goals as goal

pub loop-i-init : goal.loop-i-init
loop-i-init c = table_none _ _

pub loop-i-preserved : goal.loop-i-preserved
loop-i-preserved c = table_step _ _ c.hex_digit.ensures c.loop-i.invariant

pub returns : goal.returns
unfolding hex_line loop table
returns c =
    let n : c.loop-i.i ≡ 8 = omega arith in
    let whole : Wrote (replicate 9 10) 0 (table 8 (λ j. hex_digit (c.args.w / 2 ^ (28 - 4 * j) % 16))) c.loop-i.line 8 = rw n at c.loop-i.invariant in
    rw (div-one c.args.w) at (wrote_front whole (omega arith))
