-- `base::load_of` meets its contract: a mask of 28 bits is a remainder.
use lib.Bits.{and_mask}
use Rattle.base.proofs.load_of.Goals as goal

pub returns : goal.returns
returns c = and_mask c.args.w 28
