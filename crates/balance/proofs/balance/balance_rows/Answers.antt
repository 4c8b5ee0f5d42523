use Rattle.writer.proofs.Tokens.{turns_none, turns_step, turns_room}
use Rattle.balance.specs.internal.Balance.{balance_of}
use Rattle.balance.proofs.ByBus.{balance_listed}
use Rattle.balance.proofs.balance.balance_rows.Goals as goal

pub loop-i-init : goal.loop-i-init
loop-i-init c = turns_none _ (balance_of _ _ _)

pub balance_row-requires-clause-room : goal.balance_row-requires-clause-room
balance_row-requires-clause-room c =
    rw (← balance_listed c.args.groups.now.tables.now.laid c.args.power c.loop-i.i c.row_of-row.ensures c.at.ensures)
    (turns_room _ (balance_of _ _ _) _ c.loop-i-test.true c.requires c.loop-i.invariant)

pub loop-i-preserved : goal.loop-i-preserved
loop-i-preserved c =
    turns_step (balance_of _ _ _) _ c.loop-i.invariant
    (rw (balance_listed c.args.groups.now.tables.now.laid c.args.power c.loop-i.i c.row_of-row.ensures c.at.ensures) c.balance_row.ensures)
