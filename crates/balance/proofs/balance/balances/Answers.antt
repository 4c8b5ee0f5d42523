use native.Mathlib.Omega.{arith}
use mathlib.Core.Path.{subst, sym}
use Rattle.writer.specs.internal.Tokens.{Room, Written}
use Rattle.writer.proofs.Tokens.{written_then, room_first, room_then}
use Rattle.balance.specs.internal.Balance.{balances_of}
use Rattle.balance.proofs.Terms.{counts_same}
use Rattle.balance.proofs.balance.balances.Goals as goal

pub new-groups-requires-clause-none : goal.new-groups-requires-clause-none
new-groups-requires-clause-none c = counts_same _ 256 0 (omega (arith, c.args.tables.now.laid.words.few_buses))

pub balance_rows-requires : goal.balance_rows-requires
unfolding balances_of
balance_rows-requires c = rw (c.new-groups.ensures) (room_first _ _ c.requires)

pub balance_rows-requires-2 : goal.balance_rows-requires-2
unfolding balances_of
balance_rows-requires-2 c =
    room_then _ _ (subst (λ t. Room c.args.writer.now (balances_of t.now.words.now t.now.numbers.now t.now.layout.buses)) (sym c.new-groups.ensures) c.requires)
    c.balance_rows.ensures

pub returns : goal.returns
unfolding balances_of
returns c =
    subst (λ t. Written c.args.writer.now (balances_of t.now.words.now t.now.numbers.now t.now.layout.buses) c.balance_rows-2.new.writer) c.new-groups.ensures
    (written_then c.balance_rows.ensures c.balance_rows-2.ensures)
