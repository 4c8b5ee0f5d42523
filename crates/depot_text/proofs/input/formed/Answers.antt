use native.Mathlib.Omega.{arith}
use Rattle.depot_text.proofs.Inputs.{formed_below, formed_above, formed_by}
use Rattle.depot_text.proofs.input.formed.Goals as goal

pub returns-then-bytes-lt8 : goal.returns-then-bytes-lt8
returns-then-bytes-lt8 c = formed_below c.args.bytes.now (omega (arith, c.if-bytes-lt8.true))

pub returns-then-too_long : goal.returns-then-too_long
returns-then-too_long c = formed_above c.args.bytes.now (omega (arith, c.if-bytes-lt8.false)) (omega (arith, c.if-too_long.true))

pub returns : goal.returns
returns c =
    let bytes = c.args.bytes.now in
    let words = c.count_at in
    let numbers = c.count_at-2 in
    let above = c.if-bytes-lt8.false in
    let below = c.if-too_long.false in
    formed_by bytes words.result numbers.result (omega (arith, above)) (omega (arith, below)) words.ensures.0 numbers.ensures.0
