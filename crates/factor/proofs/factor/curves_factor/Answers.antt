use mathlib.Core.Path.{◌≡◌, ap, sym, ◌∙◌}
use native.Mathlib.Omega.{arith}
use Rattle.base.proofs.Turns.{first_none, first_done}
use Rattle.acopf.proofs.Tallied.{segments_none}
use Rattle.factor.specs.internal.NonFinite.{curves_factor}
use Rattle.factor.proofs.Turns.{curved_read, curved_next, plain_read, plain_next, curve_proper}
use Rattle.base.proofs.Refusals.{first_pass, first_exit}
use Rattle.factor.proofs.factor.curves_factor.Goals as goal

pub loop-generator-init : goal.loop-generator-init
loop-generator-init c =
    let items = c.generators-generator-items.ensures in
    let e = c.into_iter-generator-iterator.ensures.into_iter_gives in
    let zero : c.into_iter-generator-iterator.result.cursor.index ≡ 0 = ap (λ s. s.cursor.index) e ∙ items.1 in
    (ap (λ s. s.tables) e ∙ items.0, rw zero (omega (arith, segments_none c.args.tables.now.words.now)), omega arith, rw zero (first_none _))

pub new-curve-requires : goal.new-curve-requires
new-curve-requires c =
    let step = rw c.loop-generator.invariant.0 at c.in-Some.ensures.steps.0 in
    (step.2.curve, step.2.points)

pub segments_fault-requires : goal.segments_fault-requires
segments_fault-requires c =
    let inv = c.loop-generator.invariant in
    let step = rw inv.0 at c.in-Some.ensures.steps.0 in
    omega (arith, c.requires, inv.2, step.0, c.args.tables.now.laid.words.few_generators)

pub returns-in_err-segments_fault : goal.returns-in_err-segments_fault
unfolding curves_factor
returns-in_err-segments_fault c =
    let inv = c.loop-generator.invariant in
    let step = rw inv.0 at c.in-Some.ensures.steps.0 in
    let g = ap (λ l. l.generators) c.args.tables.now.laid.words.is in
    let curve = c.new-curve.ensures in
    let turn = (rw (curve.0, curve.1, curve.2) at c.in_err-segments_fault.ensures) ∙ curved_read c.args.start step.2 inv.1 (sym c.curved.ensures ∙ c.if-curved.true) in
    first_exit _ _ _ _ _ c.from_residual.ensures.1 (rw (← g) step.0) inv.3 turn

pub overflow_mul-place : goal.overflow_mul-place
overflow_mul-place c =
    let step = rw c.loop-generator.invariant.0 at c.in-Some.ensures.steps.0 in
    omega (arith, c.segments.ensures, c.new-curve.ensures.2, step.2.points)

pub overflow_add-place : goal.overflow_add-place
overflow_add-place c =
    let inv = c.loop-generator.invariant in
    let step = rw inv.0 at c.in-Some.ensures.steps.0 in
    omega (arith, c.segments.ensures, c.new-curve.ensures.2, step.2.points, c.requires, inv.2, step.0, c.args.tables.now.laid.words.few_generators)

pub loop-generator-preserved-then-curved : goal.loop-generator-preserved-then-curved
loop-generator-preserved-then-curved c =
    let inv = c.loop-generator.invariant in
    let step = rw inv.0 at c.in-Some.ensures.steps.0 in
    let start = c.args.start in
    let curve = c.new-curve.ensures in
    let turn = (rw (curve.0, curve.1, curve.2) at c.in_ok-segments_fault.ensures) ∙ curved_read start step.2 inv.1 (sym c.curved.ensures ∙ c.if-curved.true) in (
      c.in-Some.ensures.steps.1 ∙ inv.0,
      rw (step.3, c.segments.ensures, curve.2) (curved_next start step.2 inv.1 (sym c.curved.ensures ∙ c.if-curved.true)),
      omega (arith, step.3, c.segments.ensures, curve.2, step.2.points, inv.2),
      rw step.3 (first_pass _ _ inv.3 turn),
    )

pub loop-generator-preserved : goal.loop-generator-preserved
loop-generator-preserved c =
    let inv = c.loop-generator.invariant in
    let step = rw inv.0 at c.in-Some.ensures.steps.0 in
    let start = c.args.start in (
      c.in-Some.ensures.steps.1 ∙ inv.0,
      rw step.3 (plain_next start step.2 inv.1 (sym c.curved.ensures ∙ c.if-curved.false)),
      omega (arith, step.3, inv.2),
      rw step.3 (first_pass _ _ inv.3 (plain_read start step.2 inv.1 (sym c.curved.ensures ∙ c.if-curved.false))),
    )

pub returns : goal.returns
unfolding curves_factor
returns c =
    let inv = c.loop-generator.invariant in
    let g = ap (λ l. l.generators) c.args.tables.now.laid.words.is in
    let k = ap (λ t. t.layout.generators) inv.0 in
    let e : c.args.tables.now.layout.generators ≡ c.loop-generator.generator-iterator.cursor.index = omega (arith, k, c.in-None.ensures.steps.0.0, c.loop-generator.generator-iterator.standing.within) in
    first_done _ _ _ (rw (← g) e) (curve_proper _ _ _) inv.3
