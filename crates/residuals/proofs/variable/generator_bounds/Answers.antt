use mathlib.Core.Path.{◌≡◌, ap, ◌∙◌}
use native.Mathlib.Omega.{arith}
use Rattle.network.specs.internal.Records.{generator_record}
use Rattle.residuals.specs.internal.Section.{outside, held_lower, held_upper}
use Rattle.residuals.proofs.Section.{with_none, with_next}
use Rattle.residuals.proofs.variable.generator_bounds.Goals as goal

pub loop-g-init : goal.loop-g-init
loop-g-init g c =
    let tables = c.args.tables.now in
    let record_of = generator_record tables.words.now tables.numbers.now in
    let items = c.generators-g-items.ensures in
    let e = c.into_iter-g-iterator.ensures.into_iter_gives in (
      ap (λ s. s.tables) e ∙ items.0,
      λ f h. rw (e, items.1) (with_none (outside c.args.columns.now (λ j. held_lower f (record_of j)) (λ j. held_upper f (record_of j))) c.args.start),
    )

pub bounds-columns-g : goal.bounds-columns-g
bounds-columns-g g c =
    let step = rw c.loop-g.invariant.0 at c.in-Some.ensures.steps.0 in
    omega (arith, step.0, step.1, c.requires.room)

pub loop-g-preserved : goal.loop-g-preserved
loop-g-preserved g c =
    let inv = c.loop-g.invariant in
    let step = rw inv.0 at c.in-Some.ensures.steps.0 in (
      c.in-Some.ensures.steps.1 ∙ inv.0,
      λ f h.
          let b = h _ _ c.bounds-low.ensures in
          rw step.3 (with_next _ _ _ _ _ (inv.1 f h) (rw (c.maximum-most.ensures, c.positive_violation.ensures, c.lower_bound-lower.ensures, c.upper_bound-upper.ensures, b, step.1, step.2.is))),
    )

pub returns : goal.returns
returns g c f h =
    let inv = c.loop-g.invariant in
    let k = ap (λ t. t.layout.generators) inv.0 in
    let e : c.loop-g.g-iterator.cursor.index ≡ c.args.tables.now.layout.generators = omega (arith, k, c.in-None.ensures.steps.0.0, c.loop-g.g-iterator.standing.within) in
    rw e at (inv.1 f h)
