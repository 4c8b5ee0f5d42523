use Rattle.std.proofs.Common.{arith}
use Rattle.std.proofs.lemmas.Grind.{common_steps}
use Rattle.little_endian.specs.Bytes.{word_at, bits_at}
use Rattle.little_endian.proofs.bits_at.Goals as goal

pub returns : goal.returns
unfolding word_at bits_at
returns c = grind (arith, common_steps)
