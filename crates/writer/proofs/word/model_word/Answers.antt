use Prim.Native.Nat.{ℕ}
use native.Mathlib.Omega.{arith}
use mathlib.Core.Path.{ap, ◌∙◌}
use lib.Bits.{or_shifted, bit_or}
use lib.Pow.{shl_exact}
use Rattle.writer.proofs.word.model_word.Goals as goal

pub returns : goal.returns
returns c = ap (λ (n : ℕ). bit_or n c.args.load) (shl_exact 4 28 32 c.requires.0 (omega arith)) ∙ or_shifted c.args.kind 28 c.args.load c.requires.1
