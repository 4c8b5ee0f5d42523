use mathlib.Core.Path.{◌≡◌, ap, sym, ◌∙◌}
use native.Mathlib.Omega.{arith}
use Rattle.base.proofs.Sections.{each_none, added_length}
use Rattle.columns.proofs.Front.{epigraph_room, epigraph_turn, epigraph_skip}
use Rattle.columns.proofs.sections.epigraph_section.Goals as goal

pub loop-generator-init : goal.loop-generator-init
loop-generator-init c =
    let items = c.generators-generator-items.ensures in
    let e = c.into_iter-generator-iterator.ensures.into_iter_gives in
    (ap (λ s. s.tables) e ∙ items.0, rw (e, items.1) (each_none _ _))

pub push-requires : goal.push-requires
push-requires c =
    let sofar = c.loop-generator.invariant.1 in
    let step = rw c.loop-generator.invariant.0 at c.in-Some.ensures.steps.0 in
    omega (arith, c.requires, added_length sofar, sofar.wrote.follows, epigraph_room step.2 step.0 (sym c.curved.ensures ∙ c.if-curved.true))

pub loop-generator-preserved-then-curved : goal.loop-generator-preserved-then-curved
loop-generator-preserved-then-curved c =
    let inv = c.loop-generator.invariant in
    let step = rw inv.0 at c.in-Some.ensures.steps.0 in
    (c.in-Some.ensures.steps.1 ∙ inv.0, rw step.3 (epigraph_turn step.2 (sym c.curved.ensures ∙ c.if-curved.true) c.epigraph_start.ensures inv.1 c.push.ensures))

pub loop-generator-preserved : goal.loop-generator-preserved
loop-generator-preserved c =
    let inv = c.loop-generator.invariant in
    let step = rw inv.0 at c.in-Some.ensures.steps.0 in
    (c.in-Some.ensures.steps.1 ∙ inv.0, rw step.3 (epigraph_skip step.2 (sym c.curved.ensures ∙ c.if-curved.false) inv.1))

pub returns : goal.returns
returns c =
    let inv = c.loop-generator.invariant in
    let k = ap (λ t. t.layout.generators) inv.0 in
    let e : c.loop-generator.generator-iterator.cursor.index ≡ c.args.tables.now.layout.generators = omega (arith, k, c.in-None.ensures.steps.0.0, c.loop-generator.generator-iterator.standing.within) in
    rw e at inv.1
