use native.Mathlib.Omega.{arith}
use mathlib.Core.Path.{◌≡◌, ap, ◌∙◌}
use Rattle.network.specs.Network.{generators}
use Rattle.network.proofs.Epigraphs.{epigraph_few, epigraph_fits}
use Rattle.residuals.proofs.CostWalk.{walked_none, walked_plain, walked_curved, walked_all, costs_none, quadratic_is, curve_is}
use Rattle.residuals.proofs.cost.costs_at.Goals as goal

pub returns-then-not-tables : goal.returns-then-not-tables
returns-then-not-tables c = let none = c.default-costs.ensures in costs_none c.args.candidate.now.tables.laid c.if-not-tables.true none.0 none.1

pub loop-g-init : goal.loop-g-init
loop-g-init c =
    let items = c.generators-g-items.ensures in
    let e = c.into_iter-g-iterator.ensures.into_iter_gives in
    let none = c.default-costs.ensures in
    (ap (λ s. s.tables) e ∙ items.0, rw (e, items.1) (walked_none _ _ _ none.0 none.1))

pub pg-p-requires : goal.pg-p-requires
pg-p-requires c =
    let step = rw c.loop-g.invariant.0 at c.in-Some.ensures.steps.0 in
    omega (arith, step.0, step.1)

pub new-requires : goal.new-requires
new-requires c =
    let step = rw c.loop-g.invariant.0 at c.in-Some.ensures.steps.0 in
    (step.2.curve, step.2.points)

pub returns : goal.returns
returns c =
    let inv = c.loop-g.invariant in
    let L = c.args.candidate.now.tables.laid in
    let k = ap (λ t. t.layout.generators) inv.0 in
    let all : c.loop-g.g-iterator.cursor.index ≡ generators c.args.candidate.now.tables.words.now = omega (arith, k, ap (λ z. z.generators) L.words.is, c.in-None.ensures.steps.0.0, c.loop-g.g-iterator.standing.within) in
    walked_all inv.1 L all c.if-not-tables.false

pub offset_bounds-candidate-epigraph : goal.offset_bounds-candidate-epigraph
offset_bounds-candidate-epigraph c =
    let step = rw c.loop-g.invariant.0 at c.in-Some.ensures.steps.0 in
    omega (arith, epigraph_few step.2 c.in-Some-column.is c.args.candidate.now.tables.laid.words step.0)

pub bounds-candidate-epigraph : goal.bounds-candidate-epigraph
bounds-candidate-epigraph c =
    let candidate = c.args.candidate.now in
    let step = rw c.loop-g.invariant.0 at c.in-Some.ensures.steps.0 in
    omega (arith, candidate.given, epigraph_fits step.2 c.in-Some-column.is candidate.tables.laid.words step.0)

pub loop-g-preserved-in-Some-column : goal.loop-g-preserved-in-Some-column
loop-g-preserved-in-Some-column c =
    let inv = c.loop-g.invariant in
    let step = rw inv.0 at c.in-Some.ensures.steps.0 in
    let has = c.in-Some-column.is in
    let curve = c.new.ensures in
    let read = rw (curve.0, curve.1, curve.2) at c.value-cost.ensures in
    let value = curve_is c.args.candidate.now.point.now step.2 (rw step.1 at c.pg-p.ensures) has read in
    (c.in-Some.ensures.steps.1 ∙ inv.0, rw (step.3, c.maximum.ensures, c.maximum-over.ensures) (walked_curved inv.1 step.2 value has))

pub loop-g-preserved : goal.loop-g-preserved
loop-g-preserved c =
    let inv = c.loop-g.invariant in
    let step = rw inv.0 at c.in-Some.ensures.steps.0 in
    let has = c.in-None-column.is in
    let value = quadratic_is c.args.candidate.now.point.now step.2 (rw step.1 at c.pg-p.ensures) has c.quadratic_cost.ensures in
    (c.in-Some.ensures.steps.1 ∙ inv.0, rw step.3 (walked_plain inv.1 step.2 value has))
