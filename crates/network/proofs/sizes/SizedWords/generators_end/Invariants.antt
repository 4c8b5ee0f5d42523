use mathlib.Core.Path.{◌≡◌}
use Rattle.network.specs.Network.{generator_at}
use Rattle.network.proofs.sizes.SizedWords.generators_end.Given as goal

abbrev pub invariant-loop-g : goal.invariant-loop-g
invariant-loop-g l = l.at ≡ generator_at l.self.words.now l.g
