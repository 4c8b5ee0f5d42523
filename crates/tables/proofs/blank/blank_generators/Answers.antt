use mathlib.Core.Path.{◌≡◌, ap, ◌∙◌}
use native.Mathlib.Omega.{arith}
use Rattle.base.proofs.Firsts.{or_proper}
use Rattle.base.proofs.Turns.{first_none, first_done}
use Rattle.base.proofs.Refusals.{first_pass, first_exit}
use Rattle.tables.proofs.Steps.{blanks_proper}
use Rattle.tables.proofs.Steps.{costs_are}
use Rattle.tables.proofs.blank.blank_generators.Goals as goal

pub loop-generator-init : goal.loop-generator-init
loop-generator-init c =
    let items = c.generators-generator-items.ensures in
    let e = c.into_iter-generator-iterator.ensures.into_iter_gives in
    (ap (λ s. s.tables) e ∙ items.0, rw (e, items.1) (first_none _))

pub blank_generator-requires : goal.blank_generator-requires
blank_generator-requires c =
    let step = rw c.loop-generator.invariant.0 at c.in-Some.ensures.steps.0 in
    (rw step.2.is (omega arith), step.2.curve)

pub returns-in_err-blank_generator : goal.returns-in_err-blank_generator
returns-in_err-blank_generator c =
    let L = ap (λ l. l.generators) c.args.tables.now.laid.words.is in
    let step = rw c.loop-generator.invariant.0 at c.in-Some.ensures.steps.0 in
    first_exit _ _ _ _ _ c.from_residual.ensures.1 (omega (arith, L, step.0)) c.loop-generator.invariant.1 (c.in_err-blank_generator.ensures ∙ rw step.2.is (costs_are _ _ _))

pub loop-generator-preserved : goal.loop-generator-preserved
loop-generator-preserved c =
    let step = rw c.loop-generator.invariant.0 at c.in-Some.ensures.steps.0 in
    (c.in-Some.ensures.steps.1 ∙ c.loop-generator.invariant.0, rw step.3 (first_pass _ _ c.loop-generator.invariant.1 (c.in_ok-blank_generator.ensures ∙ rw step.2.is (costs_are _ _ _))))

pub returns : goal.returns
returns c =
    let L = ap (λ l. l.generators) c.args.tables.now.laid.words.is in
    let e = ap (λ t. t.layout.generators) c.loop-generator.invariant.0 in
    let end : c.args.tables.now.layout.generators ≡ c.loop-generator.generator-iterator.cursor.index = omega (arith, e, c.in-None.ensures.steps.0.0, c.loop-generator.generator-iterator.standing.within) in
    first_done _ _ _ (omega (arith, L, end)) (λ j. or_proper _ _ (blanks_proper _ _ _)) c.loop-generator.invariant.1
