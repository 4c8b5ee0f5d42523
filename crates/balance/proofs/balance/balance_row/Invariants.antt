use lib.ListN.{get_or}
use Rattle.base.specs.Loop.{each}
use Rattle.writer.specs.internal.Tokens.{Written}
use Rattle.balance.specs.internal.Balance.{item_tokens}
use Rattle.balance.proofs.balance.balance_row.Given as goal

abbrev pub invariant-loop-item : goal.invariant-loop-item
invariant-loop-item l = Written l.initial.writer (each l.item-index (λ s. item_tokens l.row (get_or l.items s 0))) l.writer
