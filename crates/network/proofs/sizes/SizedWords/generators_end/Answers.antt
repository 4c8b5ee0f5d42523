use mathlib.Core.Path.{◌≡◌, sym, ◌∙◌}
use mathlib.Core.List.{List}
use Prim.Native.Nat.{ℕ, ◌+◌, ◌*◌, ◌≤◌, ◌<◌}
use native.Mathlib.Omega.{arith}
use lib.ListN.{get_or}
use Rattle.base.proofs.Firsts.{Clear}
use Rattle.network.specs.Fault.{fault_size}
use Rattle.network.specs.Word.{generator_points}
use Rattle.network.specs.Network.{buses, generators, generator_at}
use Rattle.network.proofs.Places.{limits}
use Rattle.network.proofs.Numbers.{generator_zero, generator_high}
use Rattle.network.proofs.Steps.{generator_turn, generator_room}
use Rattle.network.proofs.sizes.SizedWords.generators_end.Goals as goal

-- 8 · 256 + 27 · 256
room : (ws : List ℕ) (n k g at p : ℕ) → n ≡ buses ws → k ≡ generators ws → Clear (fault_size ws) → at ≡ generator_at ws g
    → p ≡ generator_points (get_or ws (1 + n + g) 0) → g < k → at + 9 + 2 * p ≤ 8960
room ws n k g at p e f s a q h =
    let l = limits ws s in
    omega (arith, generator_room ws n g at p e a q k h, generator_high ws l.5 k (omega arith), l.1, l.2)

pub overflow_mul-at : goal.overflow_mul-at
overflow_mul-at c = omega (arith, (limits _ c.requires).1, c.args.self.now.sized.buses)

pub loop-g-init : goal.loop-g-init
loop-g-init c = rw c.args.self.now.sized.buses (sym (generator_zero _))

pub record_end-at-requires : goal.record_end-at-requires
record_end-at-requires c =
    let sized = c.args.self.now.sized in
    let h = room _ _ _ _ _ _ sized.buses sized.generators c.requires c.loop-g.invariant c.generator_points-points.ensures c.loop-g-test.true in omega (arith, sized.buses)

pub loop-g-preserved : goal.loop-g-preserved
loop-g-preserved c = c.record_end-at.ensures ∙ generator_turn _ _ _ _ _ c.args.self.now.sized.buses c.loop-g.invariant c.generator_points-points.ensures

pub returns : goal.returns
returns c = let e : c.args.self.now.sizes.generators ≡ c.loop-g.g = omega arith in rw e c.loop-g.invariant
