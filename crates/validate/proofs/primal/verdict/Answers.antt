use native.Mathlib.Omega.{arith}
use Rattle.std.proofs.lemmas.Result.{err_from_is_err_and}
use Rattle.validate.proofs.Verdict.{cleared_eight, outputs_length, says_15, says_rest}
use Rattle.validate.proofs.primal.verdict.Goals as goal

pub returns-in_err-measured : goal.returns-in_err-measured
returns-in_err-measured c =
    let p = err_from_is_err_and c.from_residual.result c.from_residual.ensures.1 in
    rw (p.1, p.2) (says_15 _ _ _ _ _ _ c.requires.0.cleared _ c.in_err-measured.ensures.fault)

pub accept-requires : goal.accept-requires
accept-requires c =
    let m = c.in_ok-measured.ensures in
    let a = c.args.asked.now in
    let n = outputs_length a.candidate.tables.words.now a.candidate.tables.numbers.now a.candidate.point.now a.solver in
    (cleared_eight _ _ _ _ _ _ c.requires.0.cleared, rw m.outputs (omega (arith, n, c.requires.0.room)))

pub returns : goal.returns
returns c =
    let m = c.in_ok-measured.ensures in
    let a = c.accept.ensures in
    says_rest _ _ _ _ _ _ c.requires.0.cleared m.fault _ m.residuals _ _ _ _ a.fault a.objective m.outputs m.objective a.outputs
