-- `nl::reader::Scope::read_expr` meets its contract.
use mathlib.Core.Path.{◌≡◌, ap, sym}
use native.Mathlib.Omega.{arith}
use Rattle.std.specs.Prelude.{Some}
use Rattle.std.proofs.lemmas.Grind.{common_steps}
use Rattle.nl.specs.declared.reader.Cursor.{Cursor}
use Rattle.nl.proofs.Steps.{no_depth, head_refused, head_open, head_inside, one_more_is}
use Rattle.nl.proofs.reader.Scope.+read_expr.Goals as goal

pub returns-then-depth-eq0 : goal.returns-then-depth-eq0
returns-then-depth-eq0 t c = sym (no_depth _ _ _ _ _ _ _ c.if-depth-eq0.true)

pub returns-in_err-head : goal.returns-in_err-head
returns-in_err-head t c = grind (arith, common_steps, head_refused)

pub loop-init : goal.loop-init
loop-init t c =
    let e : c.read_head.result ≡ Some c.in_ok-head.head = grind arith in
    rw (ap (λ (p : Cursor). p.at) (c.past.ensures (head_inside _ _ _ _ _ _ _ _ c.read_head.ensures e))) (head_open _ _ _ _ _ _ _ _ c.in_ok-head.head c.if-depth-eq0.false c.read_head.ensures (grind arith))

pub loop-preserved : goal.loop-preserved
loop-preserved t c = one_more_is _ _ _ _ _ _ _ _ _ c.loop-test.true c.loop.invariant c.read_expr.ensures c.in_ok-here.was
