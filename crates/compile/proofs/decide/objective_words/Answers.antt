use native.Mathlib.Omega.{arith}
use Rattle.compile.proofs.decide.objective_words.Goals as goal

pub returns-then-layout-some : goal.returns-then-layout-some
returns-then-layout-some c = (rw c.if-layout-some.true c.cost_words.ensures.0, c.cost_words.ensures.1)

pub returns : goal.returns
returns c = (rw c.if-layout-some.false, omega arith)
