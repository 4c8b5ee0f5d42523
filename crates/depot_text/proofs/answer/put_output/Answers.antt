use mathlib.Core.Bool.{true}
use mathlib.Core.Path.{◌≡◌, sym, ◌∙◌}
use native.Mathlib.Omega.{arith}
use lib.Seq.{length-take-le}
use Rattle.depot_text.specs.Input.{formed}
use Rattle.depot_text.proofs.Texts.{output_none, output_some}
use Rattle.depot_text.proofs.answer.put_output.Goals as goal

pub returns-then-not-formed : goal.returns-then-not-formed
returns-then-not-formed c = rw (output_none c.args.input.now c.formed.result c.formed.ensures c.if-not-formed.true) at c.put.ensures

pub read_words-w-requires : goal.read_words-w-requires
read_words-w-requires c =
    let f : formed c.args.input.now ≡ true = sym c.formed.ensures ∙ c.if-not-formed.false in
    (f, omega arith)

pub read_numbers-n-requires : goal.read_numbers-n-requires
read_numbers-n-requires c =
    let input = c.args.input.now in
    let f : formed input ≡ true = sym c.formed.ensures ∙ c.if-not-formed.false in
    (f, omega arith)

pub slice_bounds-words-end : goal.slice_bounds-words-end
slice_bounds-words-end c = c.read_words-w.ensures.1

pub slice_bounds-put_network-end : goal.slice_bounds-put_network-end
slice_bounds-put_network-end c = sym (length-take-le _ _ c.read_words-w.ensures.1)

pub slice_bounds-numbers-end : goal.slice_bounds-numbers-end
slice_bounds-numbers-end c = c.read_numbers-n.ensures.1

pub slice_bounds-put_network-end-2 : goal.slice_bounds-put_network-end-2
slice_bounds-put_network-end-2 c = sym (length-take-le _ _ c.read_numbers-n.ensures.1)

pub returns : goal.returns
returns c =
    let formed = c.formed in
    let words = c.read_words-w.ensures.0 in
    let numbers = c.read_numbers-n.ensures.0 in
    rw (output_some c.args.input.now formed.result formed.ensures _ _ c.if-not-formed.false words numbers) at c.put_network.ensures
