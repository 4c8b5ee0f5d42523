use Prim.Native.Nat.{◌*◌}
use Rattle.base.specs.Fault.{first}
use Rattle.base.proofs.Firsts.{Clear}
use Rattle.pi_model.specs.Flow.{coefficients}
use Rattle.factor.specs.internal.NonFinite.{coefficients_fault}
use Rattle.factor.proofs.factor.branches_factor.Given as goal

abbrev pub invariant-loop-b : goal.invariant-loop-b
invariant-loop-b l =
    Clear (first l.b (λ j. coefficients_fault (coefficients l.tables.words.now l.tables.numbers.now j) (12 * j)))
