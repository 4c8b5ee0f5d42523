use mathlib.Core.Path.{◌≡◌, refl}
use Prim.Native.Nat.{◌+◌, ◌*◌}
use native.Mathlib.Omega.{arith}
use lib.ListN.{length-set}
use Rattle.base.proofs.Loops.{length_table}
use Rattle.depot_text.specs.Input.{word_count, input_words}
use Rattle.little_endian.specs.Bytes.{word_at}
use Rattle.depot_text.proofs.Writes.{table_none, table_step, wrote_take}
use Rattle.depot_text.proofs.Inputs.{formed_is}
use Rattle.depot_text.proofs.input.read_words.Goals as goal

pub count_at-count-requires : goal.count_at-count-requires
count_at-count-requires c = omega (arith, (formed_is c.args.bytes.now c.requires.0).below)

pub loop-i-init : goal.loop-i-init
loop-i-init c = (refl, table_none _ _)

pub word_at-requires : goal.word_at-requires
word_at-requires c = omega (arith, (formed_is c.args.bytes.now c.requires.0).needed, c.count_at-count.ensures.0, c.loop-i-test.true)

pub bounds-words-i : goal.bounds-words-i
bounds-words-i c =
    let g = formed_is c.args.bytes.now c.requires.0 in
    omega (arith, g.needed, g.above, c.count_at-count.ensures.0, c.requires.1, c.loop-i-test.true, c.loop-i.invariant.0)

pub loop-i-preserved : goal.loop-i-preserved
loop-i-preserved c =
    let inv = c.loop-i.invariant in
    (simp length-set (omega (arith, inv.0)), table_step _ _ c.word_at.ensures inv.1)

pub returns : goal.returns
unfolding input_words
returns c =
    let bytes = c.args.bytes.now in
    let i = c.loop-i.i in
    let inv = c.loop-i.invariant in
    let g = formed_is bytes c.requires.0 in
    let q : c.count_at-count.result ≡ i = omega arith in
    let e : i ≡ word_count bytes = omega (arith, q, c.count_at-count.ensures.0) in
    let count = length_table i (λ j. word_at bytes (8 + 4 * j)) in
    (rw (q, ← e) (wrote_take inv.1 (omega (arith, count, e, g.needed, g.above, c.requires.1))), omega (arith, q, e, g.needed, g.above, c.requires.1, inv.0))
