use Rattle.network.proofs.Forms.{sized_words}
use Rattle.network.proofs.layout.layout_of.Goals as goal

pub invariant_of-sized : goal.invariant_of-sized
invariant_of-sized c = let (right, sized, long) = sized_words c.requires.0 c.sizes_of.ensures in record { right = right; sized = sized; long = long }
