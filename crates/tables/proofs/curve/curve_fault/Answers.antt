use mathlib.Core.Path.{◌≡◌, ap, ◌∙◌}
use native.Mathlib.Omega.{arith}
use Rattle.base.proofs.Firsts.{unless_proper, first_proper}
use Rattle.base.proofs.Turns.{first_none, first_done}
use Rattle.base.proofs.Refusals.{first_pass, first_exit}
use Rattle.tables.specs.Fault.{fault_curve}
use Rattle.tables.proofs.curve.curve_fault.Goals as goal

pub loop-generator-init : goal.loop-generator-init
loop-generator-init c =
    let items = c.generators-generator-items.ensures in
    let e = c.into_iter-generator-iterator.ensures.into_iter_gives in
    (ap (λ s. s.tables) e ∙ items.0, rw (e, items.1) (first_none _))

pub curve_at-requires : goal.curve_at-requires
curve_at-requires c = let step = rw c.loop-generator.invariant.0 at c.in-Some.ensures.steps.0 in step.2.curve

pub returns-in_err-curve_at : goal.returns-in_err-curve_at
unfolding fault_curve
returns-in_err-curve_at c =
    let L = ap (λ l. l.generators) c.args.tables.now.laid.words.is in
    let step = rw c.loop-generator.invariant.0 at c.in-Some.ensures.steps.0 in
    first_exit _ _ _ _ _ c.from_residual.ensures.1 (omega (arith, L, step.0)) c.loop-generator.invariant.1 (rw step.2.is at c.in_err-curve_at.ensures)

pub loop-generator-preserved : goal.loop-generator-preserved
loop-generator-preserved c =
    let step = rw c.loop-generator.invariant.0 at c.in-Some.ensures.steps.0 in
    (c.in-Some.ensures.steps.1 ∙ c.loop-generator.invariant.0, rw step.3 (first_pass _ _ c.loop-generator.invariant.1 (rw step.2.is at c.in_ok-curve_at.ensures)))

pub returns : goal.returns
unfolding fault_curve
returns c =
    let L = ap (λ l. l.generators) c.args.tables.now.laid.words.is in
    let e = ap (λ t. t.layout.generators) c.loop-generator.invariant.0 in
    let end : c.args.tables.now.layout.generators ≡ c.loop-generator.generator-iterator.cursor.index = omega (arith, e, c.in-None.ensures.steps.0.0, c.loop-generator.generator-iterator.standing.within) in
    first_done _ _ _ (omega (arith, L, end)) (λ j. first_proper _ _ (λ s. unless_proper _ 5 _ (omega arith))) c.loop-generator.invariant.1
