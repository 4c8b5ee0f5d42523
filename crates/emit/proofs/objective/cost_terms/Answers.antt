use mathlib.Core.Path.{◌≡◌, ap, ◌∙◌}
use Rattle.writer.proofs.Tokens.{turns_none, turns_step, turns_room}
use Rattle.emit.specs.internal.Objective.{cost_tokens}
use Rattle.emit.proofs.Pieces.{cost_is, epigraph_small}
use Rattle.emit.proofs.objective.cost_terms.Goals as goal

pub loop-g-init : goal.loop-g-init
loop-g-init c =
    let tables = c.args.tables.now in
    let items = c.generators-g-items.ensures in
    let e = c.into_iter-g-iterator.ensures.into_iter_gives in
    let zero : c.into_iter-g-iterator.result.cursor.index ≡ 0 = ap (λ s. s.cursor.index) e ∙ items.1 in
    (ap (λ s. s.tables) e ∙ items.0, rw zero (turns_none _ (cost_tokens tables.words.now tables.numbers.now)))

pub cost_term-requires-clause-room : goal.cost_term-requires-clause-room
cost_term-requires-clause-room c =
    let tables = c.args.tables.now in
    let inv = c.loop-g.invariant in
    let step = rw inv.0 at c.in-Some.ensures.steps.0 in
    let term = cost_is tables.laid step.2 in
    rw step.1 (rw term at (turns_room _ (cost_tokens tables.words.now tables.numbers.now) _ step.0 c.requires inv.1))

pub cost_term-requires-clause-epigraph : goal.cost_term-requires-clause-epigraph
cost_term-requires-clause-epigraph c =
    let step = rw c.loop-g.invariant.0 at c.in-Some.ensures.steps.0 in
    epigraph_small c.args.tables.now.laid step.2 step.0

pub loop-g-preserved : goal.loop-g-preserved
loop-g-preserved c =
    let tables = c.args.tables.now in
    let inv = c.loop-g.invariant in
    let step = rw inv.0 at c.in-Some.ensures.steps.0 in
    let term = cost_is tables.laid step.2 in
    (c.in-Some.ensures.steps.1 ∙ inv.0, rw step.3 (turns_step (cost_tokens tables.words.now tables.numbers.now) _ inv.1 (rw term (rw step.1 at c.cost_term.ensures))))
