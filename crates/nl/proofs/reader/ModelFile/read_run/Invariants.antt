-- `nl::reader::ModelFile::read_run` meets its contract. The loop's invariant: the answer is what reading the parts from here on gives, and each part took a
-- word.
use mathlib.Core.Path.{◌≡◌}
use Prim.Native.Nat.{◌-◌, ◌≤◌}
use lib.ListN.{length}
use Rattle.std.specs.Prelude.{None}
use Rattle.nl.specs.Kinds.{named_by}
use Rattle.nl.specs.Reader.{read_parts}
use Rattle.nl.proofs.reader.ModelFile.read_run.Given as goal

abbrev pub invariant-loop-named : goal.invariant-loop-named
invariant-loop-named l =
    let ws = l.self.words.now in
    (l.count ≤ l.end.at)
    × (read_parts ws l.self.constants l.self.columns (named_by l.kind l.shared) l.kind l.r (length ws) 0 l.fn.from.at l.fn.from.next None
    ≡ read_parts ws l.self.constants l.self.columns (named_by l.kind l.shared) l.kind l.r (length ws - l.count) l.count l.end.at l.end.next l.span)

abbrev pub decreases-loop-named : goal.decreases-loop-named
decreases-loop-named l = length l.self.words.now - l.end.at
