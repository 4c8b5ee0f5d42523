use mathlib.Core.Path.{◌∙◌}
use native.Mathlib.Omega.{arith}
use Rattle.depot_text.proofs.Decimals.{few_digits, digits_decimal}
use Rattle.depot_text.proofs.text.put_decimal.Goals as goal

pub put-requires : goal.put-requires
put-requires c =
    let n = c.args.n in
    let good = c.well_formed in
    let fits = c.ranges in
    let decimal = c.decimal-count in
    let few = few_digits n decimal.result (omega (arith, good, fits)) decimal.ensures.len in
    omega (arith, few, c.requires, decimal.ensures.in_bounds.1)

pub returns : goal.returns
returns c =
    let n = c.args.n in
    let good = c.well_formed in
    let fits = c.ranges in
    let decimal = c.decimal-count in
    let value = decimal.ensures.len in
    let few = few_digits n decimal.result (omega (arith, good, fits)) value in
    let e = decimal.ensures.digits ∙ digits_decimal decimal.result n few value in
    let put = c.put.ensures in
    (rw e at put, omega (arith, few, put.wrote.follows, decimal.ensures.in_bounds.1))
