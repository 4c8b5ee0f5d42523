use mathlib.Core.Path.{◌≡◌}
use mathlib.Core.List.{List}
use Prim.Native.Nat.{◌+◌, ℕ}
use native.Mathlib.Omega.{arith}
use lib.ListN.{get_or}
use lib.Dec.{leb}
use Rattle.base.specs.Fault.{Fault}
use Rattle.base.specs.Fault.{fault, unless}
use Rattle.base.specs.Refusal.{SIZE}
use Rattle.base.proofs.Firsts.{unless_proper}
use Rattle.base.proofs.Refusals.{first_pass, first_exit}
use Rattle.base.proofs.Turns.{first_none, first_done}
use Rattle.network.specs.Limits.{most_points}
use Rattle.network.specs.Word.{generator_points}
use Rattle.network.specs.Network.{buses, points, generator_place}
use Rattle.network.proofs.sizes.SizedWords.points_fault.Goals as goal

-- what the code looks at
here : (ws : List ℕ) (n g p : ℕ) {f : Fault} → n ≡ buses ws → p ≡ generator_points (get_or ws (1 + n + g) 0) → f ≡ unless (leb p most_points) (fault SIZE (1 + n + g))
    → f ≡ unless (leb (points ws g) most_points) (fault SIZE (generator_place ws g))
here ws n g p e q h = rw (q, e) at h

pub loop-g-init : goal.loop-g-init
loop-g-init c = first_none _

pub returns-in_err-unless : goal.returns-in_err-unless
returns-in_err-unless c =
    first_exit _ _ _ _ _ c.from_residual.ensures.1 c.loop-g-test.true c.loop-g.invariant
    (here _ _ _ _ c.args.self.now.sized.buses c.generator_points-points.ensures c.in_err-unless.ensures)

pub loop-g-preserved : goal.loop-g-preserved
loop-g-preserved c =
    first_pass _ _ c.loop-g.invariant (here _ _ _ _ c.args.self.now.sized.buses c.generator_points-points.ensures c.in_ok-unless.ensures)

pub returns : goal.returns
returns c = first_done _ _ _ (omega arith) (λ j. unless_proper _ 2 _ (omega arith)) c.loop-g.invariant
