use mathlib.Core.Path.{◌≡◌, sym, ap, ◌∙◌}
use native.Mathlib.Omega.{arith}
use Rattle.network.specs.Network.{generators}
use Rattle.acopf.specs.Model.{objective_constant}
use Rattle.acopf.proofs.Tallied.{costs_none, costs_turn}
use Rattle.acopf.proofs.objective.objective_constant.Goals as goal

pub loop-generator-init : goal.loop-generator-init
loop-generator-init c =
    let items = c.generators-generator-items.ensures in
    let e = c.into_iter-generator-iterator.ensures.into_iter_gives in
    (ap (λ s. s.tables) e ∙ items.0, rw (e, items.1) (sym (costs_none c.args.tables.now.words.now c.args.tables.now.numbers.now)))

pub loop-generator-preserved-then-tables-curved : goal.loop-generator-preserved-then-tables-curved
loop-generator-preserved-then-tables-curved c =
    let inv = c.loop-generator.invariant in
    let step = rw inv.0 at c.in-Some.ensures.steps.0 in
    (c.in-Some.ensures.steps.1 ∙ inv.0, rw step.3 (costs_turn c.args.tables.now.laid step.2 c.curved.ensures (rw c.if-tables-curved.true) inv.1))

pub loop-generator-preserved : goal.loop-generator-preserved
loop-generator-preserved c =
    let inv = c.loop-generator.invariant in
    let step = rw inv.0 at c.in-Some.ensures.steps.0 in
    (c.in-Some.ensures.steps.1 ∙ inv.0, rw step.3 (costs_turn c.args.tables.now.laid step.2 c.curved.ensures (rw c.if-tables-curved.false) inv.1))

pub returns : goal.returns
unfolding objective_constant
returns c =
    let inv = c.loop-generator.invariant in
    let L = ap (λ l. l.generators) c.args.tables.now.laid.words.is in
    let k = ap (λ t. t.layout.generators) inv.0 in
    let e : c.loop-generator.generator-iterator.cursor.index ≡ generators c.args.tables.now.words.now = omega (arith, L, k, c.in-None.ensures.steps.0.0, c.loop-generator.generator-iterator.standing.within) in
    rw e at inv.1
