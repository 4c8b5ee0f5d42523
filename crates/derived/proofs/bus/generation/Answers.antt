use native.Mathlib.Omega.{arith}
use mathlib.Core.Path.{◌≡◌, refl, ap, ◌∙◌}
use Rattle.network.specs.Network.{generators}
use Rattle.derived.specs.Outputs.{p_injection, q_injection}
use Rattle.derived.proofs.Scratch.{injected_none, injected_all, kept_two}
use Rattle.derived.proofs.Turns.{injected_turn}
use Rattle.derived.proofs.bus.generation.Goals as goal

pub loop-g-init : goal.loop-g-init
loop-g-init c =
    let items = c.generators-g-items.ensures in
    let e = c.into_iter-g-iterator.ensures.into_iter_gives in
    let zero : c.into_iter-g-iterator.result.cursor.index ≡ 0 = ap (λ s. s.cursor.index) e ∙ items.1 in
    (ap (λ s. s.tables) e ∙ items.0, rw zero (injected_none _ _ _ _ _ _ _ c.requires.1), λ j h. refl)

pub pg-requires : goal.pg-requires
pg-requires c =
    let step = rw c.loop-g.invariant.0 at c.in-Some.ensures.steps.0 in
    omega (arith, step.0, step.1)

pub qg-requires : goal.qg-requires
qg-requires c =
    let step = rw c.loop-g.invariant.0 at c.in-Some.ensures.steps.0 in
    omega (arith, step.0, step.1)

pub loop-g-preserved : goal.loop-g-preserved
loop-g-preserved c =
    let loop = c.loop-g in
    let inv = loop.invariant in
    let step = rw inv.0 at c.in-Some.ensures.steps.0 in (
      c.in-Some.ensures.steps.1 ∙ inv.0,
      rw step.3 (injected_turn c.args.candidate.now.point.now step.2 (rw step.1 at c.pg.ensures) (rw step.1 at c.qg.ensures) _ _ loop.list (omega (arith, c.requires.0, loop.auto.list)) inv.1),
      kept_two _ _ loop.list c.in-Some.generator.bus _ _ step.2.bus inv.2,
    )

pub returns : goal.returns
unfolding p_injection q_injection
returns c =
    let inv = c.loop-g.invariant in
    let k = ap (λ t. t.layout.generators) inv.0 in
    let L = ap (λ z. z.generators) c.args.candidate.now.tables.laid.words.is in
    let e : c.loop-g.g-iterator.cursor.index ≡ generators c.args.candidate.now.tables.words.now = omega (arith, L, k, c.in-None.ensures.steps.0.0, c.loop-g.g-iterator.standing.within) in
    (injected_all _ _ _ _ _ _ _ _ e inv.1, inv.2)
