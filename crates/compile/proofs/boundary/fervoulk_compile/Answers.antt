use mathlib.Core.Path.{ap, sym, ◌∙◌}
use native.Mathlib.Omega.{arith}
use Rattle.base.specs.Fault.{packed}
use Rattle.compile.proofs.Answer.{fault_said}
use Rattle.compile.proofs.boundary.fervoulk_compile.Goals as goal

pub returns : goal.returns
returns c =
    let is = c.compile-answer.ensures in
    let number = c.packed.ensures ∙ ap packed (sym (fault_said c.compile-answer.result) ∙ ap (λ a. a.fault) is.0) in
    (omega (arith, number), is.1, is.2)
