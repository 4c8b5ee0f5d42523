use native.Mathlib.Omega.{arith}
use mathlib.Core.Path.{◌≡◌, refl, ap}
use lib.ListN.{length-set}
use Rattle.network.specs.Network.{branches}
use Rattle.derived.proofs.Scratch.{withdrawn_none, withdrawn_all}
use Rattle.derived.proofs.Turns.{withdrawn_turn}
use Rattle.derived.proofs.fill.balances.Goals as goal

pub loop-b-init : goal.loop-b-init
loop-b-init c = (refl, λ fs p q F P. withdrawn_none _ _ _ _ _ _ p q _ P)

pub loop-b-preserved : goal.loop-b-preserved
loop-b-preserved c =
    let loop = c.loop-b in (
      simp length-set loop.invariant.0,
      λ fs p q F P.
          withdrawn_turn c.branch-branch.ensures fs (c.flows_at-flow.ensures fs F) p q loop.list (omega (arith, c.requires.1, loop.invariant.0)) (loop.invariant.1 fs p q F P),
    )

pub returns : goal.returns
returns c =
    let tables = c.args.tables.now in
    let e : c.loop-b.b ≡ branches tables.words.now = omega (arith, ap (λ z. z.branches) tables.laid.words.is, c.loop-b-test.false, c.loop-b.auto.b-end) in
    λ fs p q F P. withdrawn_all _ _ _ _ _ _ p q _ _ e (c.loop-b.invariant.1 fs p q F P)
