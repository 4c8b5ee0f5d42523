use native.Mathlib.Omega.{arith}
use mathlib.Core.Path.{◌≡◌, sym, ap, ◌∙◌}
use Rattle.network.proofs.Epigraphs.{epigraphs_none, bit_few}
use Rattle.acopf.proofs.Tallied.{segments_none, epigraphs_turn, segments_turn}
use Rattle.acopf.proofs.tallies.curve_tallies.Goals as goal

pub loop-generator-init : goal.loop-generator-init
loop-generator-init c =
    let items = c.generators-generator-items.ensures in
    let e = c.into_iter-generator-iterator.ensures.into_iter_gives in
    let zero : c.into_iter-generator-iterator.result.cursor.index ≡ 0 = ap (λ s. s.cursor.index) e ∙ items.1 in
    (ap (λ s. s.tables) e ∙ items.0, omega arith, omega arith, rw zero (sym (epigraphs_none _)), rw zero (sym (segments_none _)))

pub overflow_add-epigraphs : goal.overflow_add-epigraphs
overflow_add-epigraphs c =
    let step = rw c.loop-generator.invariant.0 at c.in-Some.ensures.steps.0 in
    omega (arith, c.args.tables.now.laid.words.few_generators, step.0, c.loop-generator.invariant.1, bit_few _ c.from-epigraphs.ensures)

pub overflow_add-segments : goal.overflow_add-segments
overflow_add-segments c =
    let step = rw c.loop-generator.invariant.0 at c.in-Some.ensures.steps.0 in
    omega (arith, c.args.tables.now.laid.words.few_generators, step.0, c.loop-generator.invariant.2, c.row_segments-segments.ensures.1, step.2.points)

pub loop-generator-preserved : goal.loop-generator-preserved
loop-generator-preserved c =
    let inv = c.loop-generator.invariant in
    let step = rw inv.0 at c.in-Some.ensures.steps.0 in (
      c.in-Some.ensures.steps.1 ∙ inv.0,
      omega (arith, step.3, bit_few _ c.from-epigraphs.ensures, inv.1),
      omega (arith, step.3, c.row_segments-segments.ensures.1, step.2.points, inv.2),
      rw step.3 (epigraphs_turn step.2 c.curved-curved.ensures c.from-epigraphs.ensures inv.3),
      rw step.3 (segments_turn step.2 c.curved-curved.ensures c.row_segments-segments.ensures.0 inv.4),
    )

pub returns : goal.returns
returns c =
    let inv = c.loop-generator.invariant in
    let k = ap (λ t. t.layout.generators) inv.0 in
    let e : c.loop-generator.generator-iterator.cursor.index ≡ c.args.tables.now.layout.generators = omega (arith, k, c.in-None.ensures.steps.0.0, c.loop-generator.generator-iterator.standing.within) in
    rw (← e) (inv.3, inv.1, inv.4, inv.2)
