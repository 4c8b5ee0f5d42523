use native.Mathlib.Omega.{arith}
use mathlib.Core.Path.{◌≡◌, ap, ◌∙◌}
use Rattle.network.proofs.Epigraphs.{epigraph_few}
use Rattle.writer.proofs.Tokens.{turns_none, turns_step, turns_skip, turns_room}
use Rattle.emit.specs.internal.Rows.{curve_tokens}
use Rattle.emit.proofs.Pieces.{curve_is, curve_none}
use Rattle.emit.proofs.curves.curve_rows.Goals as goal

pub loop-g-init : goal.loop-g-init
loop-g-init c =
    let tables = c.args.tables.now in
    let items = c.generators-g-items.ensures in
    let e = c.into_iter-g-iterator.ensures.into_iter_gives in
    let zero : c.into_iter-g-iterator.result.cursor.index ≡ 0 = ap (λ s. s.cursor.index) e ∙ items.1 in
    (ap (λ s. s.tables) e ∙ items.0, rw zero (turns_none _ (curve_tokens tables.words.now tables.numbers.now)))

pub new-curve-requires : goal.new-curve-requires
new-curve-requires c =
    let step = rw c.loop-g.invariant.0 at c.in-Some.ensures.steps.0 in
    (step.2.curve, step.2.points)

pub invariant_of-columns : goal.invariant_of-columns
invariant_of-columns c =
    let words = c.args.tables.now.laid.words in
    let step = rw c.loop-g.invariant.0 at c.in-Some.ensures.steps.0 in
    record { few = (omega (arith, epigraph_few step.2 c.in-Some-epigraph.is words step.0), omega (arith, step.0, step.1, words.few_buses, words.few_generators)) }

pub segment_rows-requires : goal.segment_rows-requires
segment_rows-requires c =
    let tables = c.args.tables.now in
    let inv = c.loop-g.invariant in
    let step = rw inv.0 at c.in-Some.ensures.steps.0 in
    let curve = c.new-curve.ensures in
    let rows = curve_is tables.laid step.2 c.in-Some-epigraph.is in
    rw (step.1, curve.0, curve.1, curve.2) (rw rows at (turns_room _ (curve_tokens tables.words.now tables.numbers.now) _ step.0 c.requires inv.1))

pub loop-g-preserved-in-Some-epigraph : goal.loop-g-preserved-in-Some-epigraph
loop-g-preserved-in-Some-epigraph c =
    let tables = c.args.tables.now in
    let inv = c.loop-g.invariant in
    let step = rw inv.0 at c.in-Some.ensures.steps.0 in
    let curve = c.new-curve.ensures in
    let rows = curve_is tables.laid step.2 c.in-Some-epigraph.is in
    let written = rw (step.1, curve.0, curve.1, curve.2) at c.segment_rows.ensures in
    (c.in-Some.ensures.steps.1 ∙ inv.0, rw step.3 (turns_step (curve_tokens tables.words.now tables.numbers.now) _ inv.1 (rw rows written)))

pub loop-g-preserved : goal.loop-g-preserved
loop-g-preserved c =
    let tables = c.args.tables.now in
    let inv = c.loop-g.invariant in
    let step = rw inv.0 at c.in-Some.ensures.steps.0 in
    let none = curve_none tables.laid step.2 c.in_default.is in
    (c.in-Some.ensures.steps.1 ∙ inv.0, rw step.3 (turns_skip (curve_tokens tables.words.now tables.numbers.now) _ none inv.1))
