use Rattle.writer.proofs.Tokens.{written_then, room_first, room_then, each_zero}
use Rattle.emit.specs.internal.Objective.{cost_tokens, objective_tokens}
use Rattle.emit.proofs.objective.objective.Goals as goal

pub objective_head-requires-clause-room : goal.objective_head-requires-clause-room
unfolding objective_tokens
objective_head-requires-clause-room c = room_first _ _ (rw c.if-tables.true at c.requires)

pub cost_terms-requires : goal.cost_terms-requires
unfolding objective_tokens
cost_terms-requires c = room_then _ _ (rw c.if-tables.true at c.requires) c.objective_head.ensures

pub returns-then-tables : goal.returns-then-tables
unfolding objective_tokens
returns-then-tables c = rw c.if-tables.true (written_then c.objective_head.ensures c.cost_terms.ensures)

pub objective_head-requires-else-tables-clause-room : goal.objective_head-requires-else-tables-clause-room
unfolding objective_tokens
objective_head-requires-else-tables-clause-room c = room_first _ _ (rw c.if-tables.false at c.requires)

pub returns-else-tables : goal.returns-else-tables
unfolding objective_tokens
returns-else-tables c = rw (c.if-tables.false, each_zero (cost_tokens c.args.tables.now.words.now c.args.tables.now.numbers.now)) c.objective_head-else-tables.ensures
