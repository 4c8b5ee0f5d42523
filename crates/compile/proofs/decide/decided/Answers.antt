use mathlib.Core.Path.{refl}
use Rattle.std.proofs.lemmas.Result.{err_from_is_err_and}
use Rattle.base.proofs.Refusals.{shown_number}
use Rattle.compile.proofs.Answer.{network_exit, decided_short, decided_accepted}
use Rattle.compile.proofs.decide.decided.Goals as goal

pub returns-in_err-clear-clause-answer : goal.returns-in_err-clear-clause-answer
returns-in_err-clear-clause-answer c =
    let p = err_from_is_err_and c.from_residual.result c.from_residual.ensures.1 in
    rw (p.1, p.2) (network_exit _ _ _ _ c.in_err-clear.ensures.fault)

pub returns-in_err-short_fault-clause-answer : goal.returns-in_err-short_fault-clause-answer
returns-in_err-short_fault-clause-answer c =
    let j = c.in_ok-clear.ensures in
    let is = rw (j.words, j.numbers) at c.accepted-answer.ensures in
    let p = err_from_is_err_and c.from_residual-in_err-short_fault.result c.from_residual-in_err-short_fault.ensures.1 in
    rw (p.1, p.2) (decided_short _ _ j.fault _ is c.in_err-short_fault.ensures (shown_number c.in_err-short_fault.field-0.0))

pub returns-clause-answer : goal.returns-clause-answer
returns-clause-answer c =
    let j = c.in_ok-clear.ensures in
    let is = rw (j.words, j.numbers) at c.accepted-answer.ensures in
    decided_accepted _ _ j.fault _ is c.in_ok-short_fault.ensures refl
