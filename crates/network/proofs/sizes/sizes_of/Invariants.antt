use Rattle.network.proofs.Steps.{Held}
use Rattle.network.proofs.sizes.sizes_of.Given as goal

abbrev pub invariant-loop-w : goal.invariant-loop-w
invariant-loop-w l =
    Held l.words 2 l.w-index l.buses × Held l.words 3 l.w-index l.generators × Held l.words 4 l.w-index l.branches × Held l.words 5 l.w-index l.references
