use Rattle.std.proofs.Common.{◌∙◌, arith}
use Rattle.fdlibm.proofs.Turns.{norm_moved}
use Rattle.fdlibm.proofs.e_sqrt.subnormal.Goals as goal

pub overflow_sub-places : goal.overflow_sub-places
overflow_sub-places c = (norm_moved c.args.f c.requires.0 c.requires.1).0

pub root_of-requires : goal.root_of-requires
root_of-requires c = ((norm_moved c.args.f c.requires.0 c.requires.1).1, omega arith)

pub returns : goal.returns
returns c = c.root_of.ensures ∙ rw c.from.ensures (norm_moved c.args.f c.requires.0 c.requires.1).2
