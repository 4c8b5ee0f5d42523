use mathlib.Core.Path.{◌≡◌, ◌∙◌}
use Prim.Native.Nat.{ℕ, ◌*◌, ◌/◌, ◌%◌, ◌^◌, ◌<◌}
use native.Mathlib.Omega.{arith}
use native.Mathlib.Nat.{one-mul}
use lib.Bits.{and_mask}
use lib.Pow.{shl_exact, pow_pos}
use Rattle.network.proofs.word.field.Goals as goal

-- the mask's shift loses nothing
ones : (width : ℕ) → width < 32 → 1 * 2 ^ width % 2 ^ 32 ≡ 2 ^ width
ones width h = shl_exact 1 width 32 (omega arith) (omega arith) ∙ one-mul (2 ^ width)

pub overflow_sub-result : goal.overflow_sub-result
overflow_sub-result c = rw (ones c.args.width c.requires.1) (pow_pos c.args.width)

pub returns : goal.returns
returns c = rw (ones c.args.width c.requires.1) (and_mask (c.args.w / 2 ^ c.args.low) c.args.width)
