-- `row_values::scan::scan_shared` meets its contract.
use mathlib.Core.Path.{◌≡◌, ap, ◌∙◌}
use Prim.Native.Nat.{◌+◌}
use native.Mathlib.Omega.{arith}
use Rattle.nl.specs.Reader.{is_mark}
use Rattle.nl.proofs.PartSteps.{mark_inside}
use Rattle.row_values.specs.internal.Run.{SharedScanned}
use Rattle.expression.proofs.Scans.{exit_as}
use Rattle.row_values.proofs.Runs.{shared_none, shared_full, shared_wrong, shared_goes_on, shared_more, shared_all}
use Rattle.row_values.proofs.scan.scan_shared.Goals as goal
use Rattle.row_values.proofs.scan.scan_shared.Goals.{After-is_mark, After-past}

marks : (c : After-is_mark) → c.is_mark.result ≡ is_mark c.args.inputs.now.words.now 10 c.loop-file.run.count c.loop-file.run.end.at
marks c = c.is_mark.ensures ∙ ap (λ ws. is_mark ws 10 c.loop-file.run.count c.loop-file.run.end.at) c.file-file.ensures.0

-- past the part's beginning word
past_mark : (c : After-past) → c.past.result ≡ record { at = c.loop-file.run.end.at + 1; next = c.loop-file.run.end.next }
past_mark c = c.past.ensures (mark_inside _ _ _ _ _ c.is_mark.ensures c.loop-file-test.true)

pub loop-file-init : goal.loop-file-init
loop-file-init c = (c.requires, rw (c.none-run.ensures, c.default.ensures.0, c.default.ensures.1) (shared_none _ _ _ _))

pub returns-then-array-run : goal.returns-then-array-run
returns-then-array-run c =
    let small = c.loop-file.auto.array ∙ c.loop-file.invariant.0 in
    shared_full _ _ _ _ _ _ _ _ _ c.loop-file.invariant.1 small c.if-array-run.true (marks (goal.at.returns-then-array-run c).After-is_mark) c.loop-file-test.true

pub returns-in_err-part : goal.returns-in_err-part
returns-in_err-part c =
    exit_as (SharedScanned _ _ _ _) _ _ c.from_residual.ensures.1
    (shared_wrong _ _ _ _ _ _ _ _ _ c.loop-file.invariant.1 c.if-array-run.false (marks (goal.at.returns-in_err-part c).After-is_mark) c.loop-file-test.true _ (rw (past_mark (goal.at.returns-in_err-part c).After-past) at c.in_err-part.ensures))

pub add-run-requires : goal.add-run-requires
add-run-requires c =
    let far = shared_goes_on _ _ _ _ _ _ _ _ _ c.loop-file.invariant.1 c.if-array-run.false (marks (goal.at.add-run-requires c).After-is_mark) c.loop-file-test.true _ (rw (past_mark (goal.at.add-run-requires c).After-past) at c.in_ok-part.ensures) in
    omega (arith, c.loop-file.invariant.1.least)

pub loop-file-preserved : goal.loop-file-preserved
loop-file-preserved c =
    let small = c.loop-file.auto.array ∙ c.loop-file.invariant.0 in (
      c.loop-file.invariant.0,
      rw (c.add-run.ensures.0, c.add-run.ensures.1) (shared_more _ _ _ _ _ _ _ _ _ c.loop-file.invariant.1 c.if-array-run.false (marks (goal.at.loop-file-preserved c).After-is_mark) c.loop-file-test.true _ (rw (past_mark (goal.at.loop-file-preserved c).After-past) at c.in_ok-part.ensures) _ small
          c.add-run.ensures.2),
    )

pub returns : goal.returns
returns c =
    let small = c.loop-file.auto.array ∙ c.loop-file.invariant.0 in
    shared_all _ _ _ _ _ _ _ _ _ c.loop-file.invariant.1 small (marks (goal.at.returns c).After-is_mark) c.loop-file-test.false
