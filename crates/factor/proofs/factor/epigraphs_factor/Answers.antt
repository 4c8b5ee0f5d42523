use mathlib.Core.Path.{◌≡◌, ap, ◌∙◌}
use native.Mathlib.Omega.{arith}
use Rattle.base.specs.Refusal.{FACTOR}
use Rattle.base.proofs.Firsts.{unless_proper}
use Rattle.base.proofs.Turns.{first_none, first_done}
use Rattle.network.proofs.Epigraphs.{epigraph_few}
use Rattle.factor.specs.internal.NonFinite.{epigraphs_factor}
use Rattle.factor.proofs.Turns.{epigraph_read, epigraph_none}
use Rattle.base.proofs.Refusals.{first_pass, first_exit}
use Rattle.factor.proofs.factor.epigraphs_factor.Goals as goal

pub loop-generator-init : goal.loop-generator-init
loop-generator-init c =
    let items = c.generators-generator-items.ensures in
    let e = c.into_iter-generator-iterator.ensures.into_iter_gives in
    let zero : c.into_iter-generator-iterator.result.cursor.index ≡ 0 = ap (λ s. s.cursor.index) e ∙ items.1 in
    (ap (λ s. s.tables) e ∙ items.0, rw zero (first_none _))

pub epigraph_start-requires : goal.epigraph_start-requires
epigraph_start-requires c =
    let step = rw c.loop-generator.invariant.0 at c.in-Some.ensures.steps.0 in
    (step.2.curve, step.2.points)

pub overflow_add-start : goal.overflow_add-start
overflow_add-start c =
    let step = rw c.loop-generator.invariant.0 at c.in-Some.ensures.steps.0 in
    omega (arith, c.requires, epigraph_few step.2 c.in-Some-epigraph.is c.args.tables.now.laid.words step.0)

pub returns-in_err-unless : goal.returns-in_err-unless
unfolding epigraphs_factor
returns-in_err-unless c =
    let inv = c.loop-generator.invariant in
    let L = c.args.tables.now.laid in
    let g = ap (λ l. l.generators) L.words.is in
    let step = rw inv.0 at c.in-Some.ensures.steps.0 in
    let turn = (rw c.is_finite-finite.ensures at c.in_err-unless.ensures) ∙ epigraph_read c.args.start step.2 c.in-Some-epigraph.is c.epigraph_start.ensures in
    first_exit _ _ _ _ _ c.from_residual.ensures.1 (rw (← g) step.0) inv.1 turn

pub loop-generator-preserved-in-Continue-1 : goal.loop-generator-preserved-in-Continue-1
loop-generator-preserved-in-Continue-1 c =
    let inv = c.loop-generator.invariant in
    let step = rw inv.0 at c.in-Some.ensures.steps.0 in
    let turn = (rw c.is_finite-finite.ensures at c.in_ok-unless.ensures) ∙ epigraph_read c.args.start step.2 c.in-Some-epigraph.is c.epigraph_start.ensures in
    (c.in-Some.ensures.steps.1 ∙ inv.0, rw step.3 (first_pass _ _ inv.1 turn))

pub loop-generator-preserved : goal.loop-generator-preserved
loop-generator-preserved c =
    let inv = c.loop-generator.invariant in
    let step = rw inv.0 at c.in-Some.ensures.steps.0 in
    (c.in-Some.ensures.steps.1 ∙ inv.0, rw step.3 (first_pass _ _ inv.1 (epigraph_none c.args.start step.2 c.in_default.is)))

pub returns : goal.returns
unfolding epigraphs_factor
returns c =
    let inv = c.loop-generator.invariant in
    let g = ap (λ l. l.generators) c.args.tables.now.laid.words.is in
    let k = ap (λ t. t.layout.generators) inv.0 in
    let e : c.args.tables.now.layout.generators ≡ c.loop-generator.generator-iterator.cursor.index = omega (arith, k, c.in-None.ensures.steps.0.0, c.loop-generator.generator-iterator.standing.within) in
    first_done _ _ _ (rw (← g) e) (λ j. unless_proper _ FACTOR _ (omega arith)) inv.1
