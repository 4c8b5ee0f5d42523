-- `expression::Evaluation::shallow` meets its contract.
use native.Mathlib.Omega.{arith}
use Rattle.std.specs.Prelude.{Some}
use Rattle.expression.proofs.Scans.{one_level, two_levels}
use Rattle.expression.proofs.Evaluation.shallow.Goals as goal

pub returns-in-Some : goal.returns-in-Some
returns-in-Some c = one_level _ _ _ _ _ _ _ (Some c.in-Some.leaf) (λ z. omega arith) c.in-Some.ensures

pub returns : goal.returns
returns c = two_levels _ _ _ _ _ _ _ _ (λ z. omega arith) c.if-depth-eq1.false c.product.ensures
