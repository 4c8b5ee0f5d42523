use mathlib.Core.Path.{◌∙◌}
use Rattle.std.proofs.lemmas.Result.{err_from_is_err_and}
use Rattle.compile.proofs.Answer.{sized_exit, sized_accepted}
use Rattle.compile.proofs.decide.sized.Goals as goal

pub returns-in_err-clear : goal.returns-in_err-clear
returns-in_err-clear c =
    let p = err_from_is_err_and c.from_residual.result c.from_residual.ensures.1 in
    rw (p.1, p.2) (sized_exit _ _ _ c.in_err-clear.ensures.fault)

pub returns : goal.returns
returns c =
    let j = c.in_ok-clear.ensures in
    (rw (j.words, j.numbers) at c.accepted.ensures) ∙ sized_accepted _ _ j.fault
