use native.Mathlib.Omega.{arith}
use Rattle.network.proofs.Places.{limits}
use Rattle.network.proofs.sizes.SizedWords.layout.Goals as goal

pub layout_from-requires : goal.layout_from-requires
layout_from-requires c =
    let sized = c.args.self.now.sized in
    let few = limits _ c.requires in
    (omega (arith, few.1, sized.buses), omega (arith, few.2, sized.generators), omega (arith, few.3, sized.branches))

pub returns : goal.returns
returns c =
    let sized = c.args.self.now.sized in
    rw (c.layout_from.ensures, c.generators_end.ensures, c.header_costs.ensures, sized.buses, sized.generators, sized.branches, sized.references)
