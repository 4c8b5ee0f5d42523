-- `nl::reader::Scope::read_expr` meets its contract. The remaining depth is the falling number; the loop's invariant: the answer is what reading the
-- operands that are left gives.
use mathlib.Core.Path.{◌≡◌}
use Prim.Native.Nat.{◌-◌}
use Rattle.nl.specs.Reader.{many, read_expr}
use Rattle.nl.proofs.reader.Scope.+read_expr.Given as goal

abbrev pub decreases-read_expr : goal.decreases-read_expr
decreases-read_expr l = l.depth

abbrev pub invariant-loop : goal.invariant-loop
invariant-loop l =
    read_expr l.self.file.words.now l.self.file.constants l.self.file.columns l.self.named l.depth l.fn.from.at l.fn.from.next
    ≡ many (read_expr l.self.file.words.now l.self.file.constants l.self.file.columns l.self.named (l.depth - 1)) (l.end - l.counter) l.here.at l.here.next
