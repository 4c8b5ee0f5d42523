-- `expression::Evaluation::scan_expr` meets its contract. The remaining depth is the falling number; the loop's invariant: the answer is what the operands that are left give, with what is gathered.
use Rattle.nl.specs.Kinds.{number_of}
use Rattle.expression.proofs.Scans.{Gathered}
use Rattle.expression.proofs.Evaluation.+scan_expr.Given as goal

abbrev pub decreases-scan_expr : goal.decreases-scan_expr
decreases-scan_expr l = l.depth

abbrev pub invariant-loop-i : goal.invariant-loop-i
invariant-loop-i l =
    let e = l.self in
    Gathered e.words.now e.constants.now e.point.now e.shared.now l.depth l.fn.from.at l.fn.from.next (number_of l.head.kind) l.i-end l.gathered l.i
