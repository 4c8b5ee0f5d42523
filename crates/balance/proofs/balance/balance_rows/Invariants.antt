use Rattle.base.specs.Loop.{each}
use Rattle.writer.specs.internal.Tokens.{Written}
use Rattle.balance.specs.internal.Balance.{balance_of}
use Rattle.balance.proofs.balance.balance_rows.Given as goal

abbrev pub invariant-loop-i : goal.invariant-loop-i
invariant-loop-i l = Written l.initial.writer (each l.i (balance_of l.tables.words.now l.tables.numbers.now l.power)) l.writer
