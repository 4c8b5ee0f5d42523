-- `row_values::scan::scan_end` meets its contract.
use mathlib.Core.Path.{◌≡◌, ap, sym, ◌∙◌}
use Prim.Native.Nat.{◌+◌}
use lib.ListN.{length}
use Rattle.nl.specs.Reader.{is_mark, read_last}
use Rattle.nl.proofs.PartSteps.{mark_inside}
use Rattle.row_values.specs.internal.Run.{EndScanned}
use Rattle.expression.proofs.Scans.{exit_as}
use Rattle.row_values.proofs.Files.{no_end, objective_bad, last_read, ends}
use Rattle.row_values.proofs.scan.scan_end.Goals as goal
use Rattle.row_values.proofs.scan.scan_end.Goals.{After-is_mark, After-past, After-read_last}

marks : (c : After-is_mark) → c.is_mark.result ≡ is_mark c.args.inputs.now.words.now 12 0 c.args.from.at
marks c = c.is_mark.ensures ∙ ap (λ ws. is_mark ws 12 0 c.args.from.at) c.file-file.ensures.0

-- past the part's beginning word
past_mark : (c : After-past) → c.past.result ≡ record { at = c.args.from.at + 1; next = c.args.from.next }
past_mark c = c.past.ensures (mark_inside _ _ _ _ _ c.is_mark.ensures c.if-not-is_mark.false)

last_is : (c : After-read_last) → c.read_last.result ≡ read_last c.args.inputs.now.words.now (length c.args.inputs.now.constants.now) c.in_ok-objective.objective.end.at c.in_ok-objective.objective.end.next
last_is c = rw (c.file-file.ensures.0, c.file-file.ensures.1) at c.read_last.ensures

pub returns-then-not-is_mark : goal.returns-then-not-is_mark
returns-then-not-is_mark c = no_end _ _ _ _ _ _ _ (marks (goal.at.returns-then-not-is_mark c).After-is_mark) c.if-not-is_mark.true

pub returns-in_err-objective : goal.returns-in_err-objective
returns-in_err-objective c =
    exit_as (EndScanned _ _ _ _ _ _) _ _ c.from_residual.ensures.1
    (objective_bad _ _ _ _ _ _ _ (marks (goal.at.returns-in_err-objective c).After-is_mark) c.if-not-is_mark.false _ (rw (past_mark (goal.at.returns-in_err-objective c).After-past) at c.in_err-objective.ensures))

pub returns-in_err-read_last : goal.returns-in_err-read_last
returns-in_err-read_last c =
    exit_as (EndScanned _ _ _ _ _ _) _ _ c.from_residual-in_err-read_last.ensures.1
    (sym (last_read _ _ _ _ _ _ _ (marks (goal.at.returns-in_err-read_last c).After-is_mark) c.if-not-is_mark.false _ (rw (past_mark (goal.at.returns-in_err-read_last c).After-past) at c.in_ok-objective.ensures) _ (last_is (goal.at.returns-in_err-read_last c).After-read_last))
    ∙ c.in_err-read_last.was)

pub returns : goal.returns
returns c =
    ends _ _ _ _ _ _ _ (marks (goal.at.returns c).After-is_mark) c.if-not-is_mark.false _ (rw (past_mark (goal.at.returns c).After-past) at c.in_ok-objective.ensures) _ (last_is (goal.at.returns c).After-read_last) _ c.in_ok-read_last.was
