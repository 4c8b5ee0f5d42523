use mathlib.Core.Path.{ap, ◌∙◌}
use native.Mathlib.Omega.{arith}
use Prim.Native.Nat.{◌*◌}
use Rattle.base.proofs.Turns.{first_none, first_done}
use Rattle.factor.specs.internal.NonFinite.{branches_factor}
use Rattle.factor.proofs.Turns.{coefficients_proper, coefficients_read}
use Rattle.base.proofs.Refusals.{first_pass, first_exit}
use Rattle.factor.proofs.factor.branches_factor.Goals as goal

pub loop-b-init : goal.loop-b-init
loop-b-init c = first_none _

pub returns-in_err-first_non_finite : goal.returns-in_err-first_non_finite
unfolding branches_factor
returns-in_err-first_non_finite c =
    let m = ap (λ l. l.branches) c.args.tables.now.laid.words.is in
    let read = c.in_err-first_non_finite.ensures ∙ coefficients_read (12 * c.loop-b.b) c.branch-tables.ensures c.coefficients-cs.ensures in
    first_exit _ _ _ _ _ c.from_residual.ensures.1 (rw (← m) c.loop-b-test.true) c.loop-b.invariant read

pub loop-b-preserved : goal.loop-b-preserved
loop-b-preserved c =
    first_pass _ _ c.loop-b.invariant (c.in_ok-first_non_finite.ensures ∙ coefficients_read (12 * c.loop-b.b) c.branch-tables.ensures c.coefficients-cs.ensures)

pub returns : goal.returns
unfolding branches_factor
returns c =
    let m = ap (λ l. l.branches) c.args.tables.now.laid.words.is in
    first_done _ _ _ (rw (← m) (omega (arith, c.loop-b-test.false, c.loop-b.auto.b-end))) (λ j. coefficients_proper _ _) c.loop-b.invariant
