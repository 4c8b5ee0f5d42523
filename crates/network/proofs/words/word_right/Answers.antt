use borrow.Author.Tests.{eq-eqb, ne_eqb}
use Rattle.network.specs.Fault.{word_right}
use Rattle.network.proofs.words.word_right.Goals as goal

pub returns-then-i-eq0 : goal.returns-then-i-eq0
unfolding word_right
returns-then-i-eq0 c = rw (← c.requires.1, eq-eqb _ _ c.if-i-eq0.true, c.load_right-load.ensures, c.number.ensures, c.kind_of-kind.ensures)

pub returns : goal.returns
unfolding word_right
returns c = rw (← c.requires.1, ne_eqb _ _ c.if-i-eq0.false, c.load_right-load.ensures, c.number-2.ensures, c.kind_of-kind.ensures, c.kind_of-last.ensures)
