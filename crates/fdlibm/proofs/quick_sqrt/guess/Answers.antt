use Rattle.std.proofs.Common.{arith}
use Rattle.std.proofs.lemmas.Float.{not_nan_f64_bits}
use Rattle.fdlibm.proofs.quick_sqrt.guess.Goals as goal

pub float_from_bits-z : goal.float_from_bits-z
float_from_bits-z c = not_nan_f64_bits _ (omega arith)

pub float_from_bits-y0 : goal.float_from_bits-y0
float_from_bits-y0 c = not_nan_f64_bits _ (omega arith)
