use native.Mathlib.Omega.{arith}
use mathlib.Core.Path.{◌≡◌}
use lib.ListN.{length}
use Rattle.network.specs.Network.{buses, generators, branches, references}
use Rattle.network.proofs.Steps.{held_none, held_next}
use Rattle.network.proofs.sizes.sizes_of.Goals as goal

pub loop-w-init : goal.loop-w-init
loop-w-init c = (held_none _ 2, held_none _ 3, held_none _ 4, held_none _ 5)

pub loop-w-preserved : goal.loop-w-preserved
loop-w-preserved c =
    let (b, g, m, r) = c.loop-w.invariant in
    let k = c.kind_of-kind.ensures in (
      held_next b k c.number.ensures c.from-buses.ensures,
      held_next g k c.number-in-loop-w.ensures c.from-generators.ensures,
      held_next m k c.number-in-loop-w-2.ensures c.from-branches.ensures,
      held_next r k c.number-in-loop-w-3.ensures c.from-references.ensures,
    )

pub returns : goal.returns
unfolding buses generators branches references
returns c =
    let (b, g, m, r) = c.loop-w.invariant in
    let e : length c.args.words.now ≡ c.loop-w.w-index = omega arith in
    rw e (b.is, g.is, m.is, r.is)
