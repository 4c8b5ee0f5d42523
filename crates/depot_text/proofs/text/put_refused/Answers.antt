use native.Mathlib.Omega.{arith}
use Rattle.base.proofs.Sections.{added_then, added_length}
use Rattle.depot_text.specs.Text.{refused_line}
use Rattle.depot_text.proofs.text.put_refused.Goals as goal

pub put_decimal-requires : goal.put_decimal-requires
put_decimal-requires c =
    let word = c.put.ensures in
    omega (arith, c.requires, word.wrote.follows, added_length word)

pub put-requires-2 : goal.put-requires-2
put-requires-2 c =
    let word = c.put.ensures in
    let number = c.put_decimal.ensures in
    omega (arith, c.requires, word.wrote.follows, added_length word, number.1, added_length number.0)

pub put_decimal-requires-2 : goal.put_decimal-requires-2
put_decimal-requires-2 c =
    let word = c.put.ensures in
    let number = c.put_decimal.ensures in
    let space = c.put-2.ensures in
    omega (arith, c.requires, word.wrote.follows, added_length word, number.1, added_length number.0, space.wrote.follows, added_length space)

pub put-requires-3 : goal.put-requires-3
put-requires-3 c =
    let word = c.put.ensures in
    let number = c.put_decimal.ensures in
    let space = c.put-2.ensures in
    let place = c.put_decimal-2.ensures in
    omega (
      arith,
      c.requires,
      word.wrote.follows,
      added_length word,
      number.1,
      added_length number.0,
      space.wrote.follows,
      added_length space,
      place.1,
      added_length place.0,
    )

pub returns : goal.returns
unfolding refused_line
returns c =
    let number = rw (c.from.ensures, c.number.ensures) at c.put_decimal.ensures in
    added_then (added_then (added_then (added_then c.put.ensures number.0) c.put-2.ensures) c.put_decimal-2.ensures.0) c.put-3.ensures
