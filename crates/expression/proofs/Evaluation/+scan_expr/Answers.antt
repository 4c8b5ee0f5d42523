-- `expression::Evaluation::scan_expr` meets its contract.
use mathlib.Core.Path.{◌≡◌, refl, sym, ◌∙◌}
use Prim.Native.Nat.{ℕ, ◌+◌, ◌<◌}
use lib.ListN.{length}
use Rattle.std.specs.Prelude.{Some}
use Rattle.nl.specs.Reader.{read_head}
use Rattle.nl.proofs.Steps.{no_depth, head_refused, head_inside, head_kind}
use Rattle.expression.specs.internal.Scan.{Scans}
use Rattle.expression.proofs.Scans.{leaf_only, one_level, too_deep, exit_as, missing_exit, gathered_none, gathered_more, gathered_all}
use Rattle.expression.proofs.Evaluation.+scan_expr.Goals as goal
use Rattle.expression.proofs.Evaluation.+scan_expr.Goals.{After-read_head, In_ok-head, After-past-first, in-Some, in-None+in-Ok}

head_is : (t : ℕ) (c : After-read_head t)
    → c.read_head.result ≡ read_head c.args.self.now.words.now (length c.args.self.now.constants.now) (length c.args.self.now.point.now) (length c.args.self.now.shared.now) c.args.from.at c.args.from.next
head_is t c = rw (c.file-file.ensures.0, c.file-file.ensures.1, c.file-file.ensures.2) at c.read_head.ensures

-- the word there may stand
opened : (t : ℕ) (c : In_ok-head t)
    → Some c.in_ok-head.head ≡ read_head c.args.self.now.words.now (length c.args.self.now.constants.now) (length c.args.self.now.point.now) (length c.args.self.now.shared.now) c.args.from.at c.args.from.next
opened t c = sym c.in_ok-head.ensures.ok_part ∙ head_is t (goal.at.In_ok-head t c).After-read_head

inside : (t : ℕ) (c : In_ok-head t) → c.args.from.at < length c.args.self.now.words.now
inside t c = head_inside _ _ _ _ _ _ _ _ (opened t c) refl

pub returns-then-depth-eq0 : goal.returns-then-depth-eq0
returns-then-depth-eq0 t c = no_depth _ _ _ _ _ _ _ c.if-depth-eq0.true

pub returns-in_err-head : goal.returns-in_err-head
returns-in_err-head t c =
    let none = c.in_err-head.ensures.ok_part in
    let place = missing_exit _ _ _ _ c.in_err-head.was c.ok_or.ensures.value in
    let head = head_is t (goal.at.returns-in_err-head t c).After-read_head in
    exit_as (Scans _ _ _ _ _ _ _) _ _ c.from_residual.ensures.1 (rw place (sym (head_refused _ _ _ _ _ _ _ _ head none)))

pub returns-in_err-leaf : goal.returns-in_err-leaf
returns-in_err-leaf t c =
    let d = (goal.at.returns-in_err-leaf t c).In_ok-head in
    absurd (leaf_only _ _ _ _ _ _ _ _ (opened t d) c.if-head-eq0.true c.leaf.ensures c.in_err-leaf.ensures.ok_part)

pub returns-then-head-eq0 : goal.returns-then-head-eq0
returns-then-head-eq0 t c =
    rw c.scanned.ensures (one_level _ _ _ _ _ _ _ (Some c.in_ok-leaf.leaf) c.if-depth-eq0.false (rw c.in_ok-leaf.ensures.ok_part at c.leaf.ensures))

first_is : (t : ℕ) (c : After-past-first t) → c.past-first.result ≡ record { at = c.args.from.at + 1; next = c.args.from.next }
first_is t c = c.past-first.ensures (rw c.file-file.ensures.0 (inside t (goal.at.After-past-first t c).In_ok-head))

pub returns-then-depth-eq1 : goal.returns-then-depth-eq1
returns-then-depth-eq1 t c =
    let d = (goal.at.returns-then-depth-eq1 t c) in
    rw (first_is t d.After-past-first) (too_deep _ _ _ _ _ _ _ _ c.if-depth-eq1.true (opened t d.In_ok-head) c.if-head-eq0.false)

pub loop-i-init : goal.loop-i-init
loop-i-init t c =
    let d = goal.at.loop-i-init t c in
    let kind = head_kind _ _ _ _ _ _ _ (opened t d.In_ok-head) in
    rw (first_is t d.After-past-first) (gathered_none _ _ _ _ _ _ _ _ _ c.if-depth-eq0.false (opened t d.In_ok-head) kind c.if-head-eq0.false)

pub loop-i-preserved : goal.loop-i-preserved
loop-i-preserved t c = elim c.match-shallow.branch [
  | in-Some w ↦
      rw (w.gathered-is, w.gather-gathered.ensures, w.scanned-in-Some.ensures) (gathered_more _ _ _ _ _ _ _ _ _ _ _ _ c.loop-i-test.true c.loop-i.invariant w.in-Some.ensures)
  | in-None+in-Ok w ↦
      rw (w.gathered-is, w.gather.ensures) (gathered_more _ _ _ _ _ _ _ _ _ _ _ _ c.loop-i-test.true c.loop-i.invariant w.in-Ok.ensures)
]

pub returns : goal.returns
returns t c = rw c.finish.ensures (gathered_all _ _ _ _ _ _ _ _ _ _ _ c.loop-i-test.false c.loop-i.invariant)
