use Rattle.std.proofs.Common.{◌≡◌, ℕ, ◌+◌, ◌-◌, ◌*◌, ap, ◌∙◌, arith}
use Rattle.std.proofs.lemmas.Grind.{common_steps}
use Rattle.fdlibm.proofs.Square.{sq_suc}
use Rattle.fdlibm.proofs.quick_sqrt.settled.Goals as goal

pub returns-then-rest-margin-4 : goal.returns-then-rest-margin-4
returns-then-rest-margin-4 c =
    let p = c.args.p in
    let n = p - 1 in
    let s : p ≡ n + 1 → p * p ≡ n * n + 2 * n + 1 = λ e. ap (λ (k : ℕ). k * k) e ∙ sq_suc n in
    grind (arith, common_steps)
