use mathlib.Core.Path.{sym}
use native.Mathlib.Omega.{arith}
use lib.Seq.{length-take-le}
use Rattle.depot_text.proofs.Texts.{few_words, network_lines, network_refused}
use Rattle.depot_text.proofs.answer.put_network.Goals as goal

pub slice_bounds-model_words-end : goal.slice_bounds-model_words-end
slice_bounds-model_words-end c =
    let few = few_words _ _ c.in-Ok.answer c.in-Ok.ensures.0 in
    omega (arith, few, c.compile_words.auto.model_words)

pub slice_bounds-put_hex_lines-end : goal.slice_bounds-put_hex_lines-end
slice_bounds-put_hex_lines-end c =
    let few = few_words _ _ c.in-Ok.answer c.in-Ok.ensures.0 in
    sym (length-take-le _ _ (omega (arith, few, c.compile_words.auto.model_words)))

pub put_hex_lines-requires : goal.put_hex_lines-requires
put_hex_lines-requires c =
    let few = few_words _ _ c.in-Ok.answer c.in-Ok.ensures.0 in
    let e = length-take-le c.in-Ok.answer.words c.compile_words.new.model_words (omega (arith, few, c.compile_words.auto.model_words)) in
    omega (arith, few, e, c.requires)

pub returns-in-Ok : goal.returns-in-Ok
returns-in-Ok c = rw (network_lines _ _ c.in-Ok.answer c.in-Ok.ensures.0 _ _ c.compile_words.ensures.1) at c.put_hex_lines.ensures

pub put_refused-requires : goal.put_refused-requires
put_refused-requires c = omega (arith, c.requires)

pub returns-in-Err : goal.returns-in-Err
returns-in-Err c = rw (network_refused _ _ c.in-Err.refusal c.in-Err.ensures.0) at c.put_refused.ensures
