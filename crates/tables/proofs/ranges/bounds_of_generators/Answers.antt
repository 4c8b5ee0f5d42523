use mathlib.Core.Path.{◌≡◌, ap, ◌∙◌}
use native.Mathlib.Omega.{arith}
use Rattle.base.proofs.Firsts.{unless_proper, or_proper}
use Rattle.base.proofs.Turns.{first_none, first_done}
use Rattle.base.proofs.Refusals.{first_pass, first_exit}
use Rattle.tables.proofs.ranges.bounds_of_generators.Goals as goal

pub loop-g-init : goal.loop-g-init
loop-g-init c =
    let items = c.generators-g-items.ensures in
    let e = c.into_iter-g-iterator.ensures.into_iter_gives in
    (ap (λ s. s.tables) e ∙ items.0, rw (e, items.1) (first_none _))

pub returns-in_err-bounds_of_generator : goal.returns-in_err-bounds_of_generator
returns-in_err-bounds_of_generator c =
    let L = ap (λ l. l.generators) c.args.tables.now.laid.words.is in
    let step = rw c.loop-g.invariant.0 at c.in-Some.ensures.steps.0 in
    first_exit _ _ _ _ _ c.from_residual.ensures.1 (omega (arith, L, step.0)) c.loop-g.invariant.1 (rw (step.2.is, step.1, c.args.tables.now.laid.words.is) at c.in_err-bounds_of_generator.ensures)

pub loop-g-preserved : goal.loop-g-preserved
loop-g-preserved c =
    let step = rw c.loop-g.invariant.0 at c.in-Some.ensures.steps.0 in
    (c.in-Some.ensures.steps.1 ∙ c.loop-g.invariant.0, rw step.3 (first_pass _ _ c.loop-g.invariant.1 (rw (step.2.is, step.1, c.args.tables.now.laid.words.is) at c.in_ok-bounds_of_generator.ensures)))

pub returns : goal.returns
returns c =
    let L = ap (λ l. l.generators) c.args.tables.now.laid.words.is in
    let e = ap (λ t. t.layout.generators) c.loop-g.invariant.0 in
    let end : c.args.tables.now.layout.generators ≡ c.loop-g.g-iterator.cursor.index = omega (arith, e, c.in-None.ensures.steps.0.0, c.loop-g.g-iterator.standing.within) in
    first_done _ _ _ (omega (arith, L, end)) (λ j. or_proper _ _ (unless_proper _ 7 _ (omega arith))) c.loop-g.invariant.1
