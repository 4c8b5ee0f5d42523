use Rattle.base.specs.Fault.{unless}
use Rattle.base.proofs.refusal.unless.Goals as goal

pub returns-then-right : goal.returns-then-right
unfolding unless
returns-then-right c = rw c.if-right.true

pub returns : goal.returns
unfolding unless
returns c = rw c.if-right.false
