use native.Mathlib.Omega.{arith}
use Rattle.acopf.proofs.objective.objective_constants.Goals as goal

pub returns-then-costs-some : goal.returns-then-costs-some
returns-then-costs-some c = (rw c.if-costs-some.true, omega arith)

pub returns : goal.returns
returns c = (rw c.if-costs-some.false, omega arith)
