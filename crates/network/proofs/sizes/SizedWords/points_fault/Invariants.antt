use lib.Dec.{leb}
use Rattle.base.proofs.Firsts.{Clear}
use Rattle.base.specs.Fault.{fault, unless, first}
use Rattle.network.specs.Limits.{most_points}
use Rattle.network.specs.Network.{points, generator_place}
use Rattle.network.proofs.sizes.SizedWords.points_fault.Given as goal

abbrev pub invariant-loop-g : goal.invariant-loop-g
invariant-loop-g l = Clear (first l.g (λ j. unless (leb (points l.self.words.now j) most_points) (fault 2 (generator_place l.self.words.now j))))
