use lib.Ieee.{neg}
use borrow.Author.Rules.{rules}
use Rattle.acopf.proofs.columns.lower_bound.Goals as goal

pub returns : goal.returns
unfolding neg
returns c = search rules
