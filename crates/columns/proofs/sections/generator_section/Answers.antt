use mathlib.Core.Path.{◌≡◌, refl, ap, ◌∙◌}
use native.Mathlib.Omega.{arith}
use Rattle.base.proofs.Sections.{table_none, added_table, added_length}
use Rattle.network.specs.internal.Records.{generator_record}
use Rattle.columns.proofs.sections.generator_section.Goals as goal

pub loop-generator-init : goal.loop-generator-init
loop-generator-init g c =
    let tables = c.args.tables.now in
    let items = c.generators-generator-items.ensures in
    let e = c.into_iter-generator-iterator.ensures.into_iter_gives in (
      ap (λ s. s.tables) e ∙ items.0,
      refl,
      rw (e, items.1) (omega arith),
      λ f h. rw (e, items.1) (table_none _ (λ j. f (generator_record tables.words.now tables.numbers.now j))),
    )

pub push-requires : goal.push-requires
push-requires g c =
    let inv = c.loop-generator.invariant in
    let step = rw inv.0 at c.in-Some.ensures.steps.0 in
    omega (arith, c.requires.room, inv.1, inv.2, step.0)

pub loop-generator-preserved : goal.loop-generator-preserved
loop-generator-preserved g c =
    let tables = c.args.tables.now in
    let inv = c.loop-generator.invariant in
    let push = c.push.ensures in
    let step = rw inv.0 at c.in-Some.ensures.steps.0 in
    let record_of = generator_record tables.words.now tables.numbers.now in (
      c.in-Some.ensures.steps.1 ∙ inv.0,
      added_length push ∙ inv.1,
      omega (arith, inv.2, push.wrote.follows, step.3),
      λ f h.
          let value = h _ _ c.value.ensures ∙ ap f {y = record_of c.loop-generator.generator-iterator.cursor.index} step.2.is in
          rw step.3 (added_table (λ j. f (record_of j)) _ value (inv.3 f h) push),
    )

pub returns-clause-section : goal.returns-clause-section
returns-clause-section g c f h =
    let inv = c.loop-generator.invariant in
    let k = ap (λ t. t.layout.generators) inv.0 in
    let e : c.loop-generator.generator-iterator.cursor.index ≡ c.args.tables.now.layout.generators = omega (arith, k, c.in-None.ensures.steps.0.0, c.loop-generator.generator-iterator.standing.within) in
    rw e at (inv.3 f h)

pub returns-clause-next : goal.returns-clause-next
returns-clause-next g c =
    let inv = c.loop-generator.invariant in
    let k = ap (λ t. t.layout.generators) inv.0 in
    record { at = omega (arith, k, inv.2, c.in-None.ensures.steps.0.0, c.loop-generator.generator-iterator.standing.within); length = inv.1 }
