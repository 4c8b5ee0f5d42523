use Rattle.std.proofs.Common.{◌<◌, ◌≤◌, ◌^◌, to_bits, arith}
use Rattle.std.proofs.lemmas.Float.{not_nan_f64_bits}
use Rattle.std.proofs.lemmas.Grind.{common_steps}
use Rattle.std.specs.Float.{binary64}
use Rattle.fdlibm.proofs.Quick.{root_is}
use Rattle.fdlibm.proofs.quick_sqrt.quick.Goals as goal

pub float_from_bits-result : goal.float_from_bits-result
float_from_bits-result c =
    let h : to_bits binary64 c.args.x < 0x7ff0_0000_0000_0000 = grind (arith, common_steps) in
    not_nan_f64_bits _ (omega (arith, c.in_ok-w.ensures))

pub returns : goal.returns
returns c =
    let l : 2 ^ 52 ≤ to_bits binary64 c.args.x = grind (arith, common_steps) in
    let h : to_bits binary64 c.args.x < 0x7ff0_0000_0000_0000 = grind (arith, common_steps) in
    rw c.to_bits-b.ensures (root_is c.args.x c.in_ok-w.w l h (rw (c.even_exponent.ensures.value, c.to_bits-b.ensures) at c.in_ok-w.ensures.0))
