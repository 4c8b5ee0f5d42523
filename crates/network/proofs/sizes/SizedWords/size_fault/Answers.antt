use mathlib.Core.Path.{◌≡◌, sym, ◌∙◌}
use mathlib.Core.List.{List}
use Prim.Native.Nat.{ℕ, ◌+◌}
use lib.Dec.{leb}
use Rattle.base.specs.Fault.{Fault}
use Rattle.base.specs.Fault.{fault, unless, or_else, first}
use Rattle.base.specs.Refusal.{SIZE}
use Rattle.base.proofs.Refusals.{link_exit, link_ok}
use Rattle.network.specs.Limits.{most_points}
use Rattle.network.specs.Network.{generator_place, points}
use Rattle.network.specs.Fault.{fault_size}
use Rattle.network.specs.declared.sizes.Sizes.{Sizes}
use Rattle.network.specs.internal.Records.{SizesOf}
use Rattle.network.proofs.sizes.SizedWords.size_fault.Goals as goal

-- what each `unless` looks at
abbrev link : ℕ → ℕ → ℕ → Fault
link most count place = unless (leb count most) (fault SIZE place)

-- refusal 2 in the code's terms
module _ (ws : List ℕ) (s : Sizes) (e : SizesOf ws s) where
  abbrev curves : Fault
  curves = first s.generators (λ g. unless (leb (points ws g) most_points) (fault SIZE (generator_place ws g)))

  chain : fault_size ws ≡ or_else (unless (leb 1 s.buses) (fault SIZE 0)) (or_else (link 256 s.buses 257)
      (or_else (link 256 s.generators (1 + s.buses + 256)) (or_else (link 512 s.branches (1 + s.buses + s.generators + 512))
      (or_else (link 256 s.references (1 + s.buses + s.generators + s.branches + 256)) curves))))
  unfolding fault_size
  chain = rw (e.buses, e.generators, e.branches, e.references)

pub returns-in_err-unless : goal.returns-in_err-unless
returns-in_err-unless c =
    let w0 = chain _ _ c.args.self.now.sized in
    link_exit _ _ _ _ _ c.from_residual.ensures.1 w0 c.in_err-unless.ensures

pub returns-in_err-unless-2 : goal.returns-in_err-unless-2
returns-in_err-unless-2 c =
    let w0 = chain _ _ c.args.self.now.sized in
    let w1 = link_ok _ _ _ w0 c.in_ok-unless.ensures in
    link_exit _ _ _ _ _ c.from_residual-in_err-unless-2.ensures.1 w1 c.in_err-unless-2.ensures

pub returns-in_err-unless-3 : goal.returns-in_err-unless-3
returns-in_err-unless-3 c =
    let w0 = chain _ _ c.args.self.now.sized in
    let w1 = link_ok _ _ _ w0 c.in_ok-unless.ensures in
    let w2 = link_ok _ _ _ w1 c.in_ok-unless-2.ensures in
    link_exit _ _ _ _ _ c.from_residual-in_err-unless-3.ensures.1 w2 c.in_err-unless-3.ensures

pub returns-in_err-unless-4 : goal.returns-in_err-unless-4
returns-in_err-unless-4 c =
    let w0 = chain _ _ c.args.self.now.sized in
    let w1 = link_ok _ _ _ w0 c.in_ok-unless.ensures in
    let w2 = link_ok _ _ _ w1 c.in_ok-unless-2.ensures in
    let w3 = link_ok _ _ _ w2 c.in_ok-unless-3.ensures in
    link_exit _ _ _ _ _ c.from_residual-in_err-unless-4.ensures.1 w3 c.in_err-unless-4.ensures

pub returns-in_err-unless-5 : goal.returns-in_err-unless-5
returns-in_err-unless-5 c =
    let w0 = chain _ _ c.args.self.now.sized in
    let w1 = link_ok _ _ _ w0 c.in_ok-unless.ensures in
    let w2 = link_ok _ _ _ w1 c.in_ok-unless-2.ensures in
    let w3 = link_ok _ _ _ w2 c.in_ok-unless-3.ensures in
    let w4 = link_ok _ _ _ w3 c.in_ok-unless-4.ensures in
    link_exit _ _ _ _ _ c.from_residual-in_err-unless-5.ensures.1 w4 c.in_err-unless-5.ensures

pub returns : goal.returns
returns c =
    let w0 = chain _ _ c.args.self.now.sized in
    let w1 = link_ok _ _ _ w0 c.in_ok-unless.ensures in
    let w2 = link_ok _ _ _ w1 c.in_ok-unless-2.ensures in
    let w3 = link_ok _ _ _ w2 c.in_ok-unless-3.ensures in
    let w4 = link_ok _ _ _ w3 c.in_ok-unless-4.ensures in
    let w5 = link_ok _ _ _ w4 c.in_ok-unless-5.ensures in
    c.points_fault.ensures ∙ sym w5
