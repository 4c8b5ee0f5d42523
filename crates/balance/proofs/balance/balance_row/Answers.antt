use Prim.Native.Nat.{ℕ, ◌+◌}
use mathlib.Core.List.{List}
use lib.ListN.{length, get_or}
use Rattle.writer.specs.internal.Tokens.{Token}
use Rattle.writer.proofs.Tokens.{room_then, turns_none, turns_step, turns_room}
use Rattle.balance.specs.declared.balance.Row.{Row}
use Rattle.balance.specs.internal.Balance.{row_head, item_tokens, listed_tokens}
use Rattle.balance.proofs.balance.balance_row.Goals as goal

abbrev turn : Row → List ℕ → ℕ → List Token
turn row items s = item_tokens row (get_or items s 0)

pub loop-item-init : goal.loop-item-init
loop-item-init c = turns_none _ (turn c.args.row c.args.items.now)

pub item_term-requires-clause-room : goal.item_term-requires-clause-room
item_term-requires-clause-room c =
    let row = c.args.row in
    let items = c.args.items.now in
    let room = room_then (row_head row (2 + length items)) (listed_tokens row items) c.requires.room c.row_head.ensures in
    turns_room _ (turn row items) _ c.loop-item-test.true room c.loop-item.invariant

pub loop-item-preserved : goal.loop-item-preserved
loop-item-preserved c = turns_step (turn c.args.row c.args.items.now) _ c.loop-item.invariant c.item_term.ensures
