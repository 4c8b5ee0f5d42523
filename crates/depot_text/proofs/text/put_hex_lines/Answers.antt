use mathlib.Core.Path.{◌≡◌, ap, ◌∙◌}
use native.Mathlib.Omega.{arith}
use lib.ListN.{length, get_or}
use Rattle.base.proofs.Loops.{length_each}
use Rattle.base.proofs.Sections.{each_none, added_each, added_length}
use Rattle.depot_text.specs.Text.{hex_line, hex_lines}
use Rattle.depot_text.proofs.Texts.{length_line}
use Rattle.depot_text.proofs.text.put_hex_lines.Goals as goal

pub loop-word-init : goal.loop-word-init
loop-word-init c = each_none _ _

pub put-requires : goal.put-requires
put-requires c =
    let sofar = c.loop-word.invariant in
    let i = c.loop-word.word-index in
    let line : length c.hex_line.result ≡ 9 = ap length c.hex_line.ensures ∙ length_line _ in
    let lines = length_each 9 i (λ j. hex_line (get_or c.args.words.now j 0)) (λ j. length_line _) in
    omega (arith, c.requires, line, lines, sofar.wrote.follows, added_length sofar, c.loop-word-test.true)

pub loop-word-preserved : goal.loop-word-preserved
loop-word-preserved c = added_each _ c.loop-word.word-index c.loop-word.invariant (rw c.hex_line.ensures at c.put.ensures)

pub returns : goal.returns
unfolding hex_lines
returns c =
    let n : c.loop-word.word-index ≡ length c.args.words.now = omega arith in
    rw n at c.loop-word.invariant
