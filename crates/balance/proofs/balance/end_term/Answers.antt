use Rattle.std.proofs.Common.{rules}
use lib.Ieee.{neg, of_bits}
use Rattle.balance.proofs.balance.end_term.Goals as goal

pub returns : goal.returns
unfolding neg of_bits
returns c = search rules
