use mathlib.Core.Path.{◌≡◌}
use Prim.Native.Nat.{◌*◌}
use Rattle.derived.specs.internal.Agree.{Untouched}
use Rattle.derived.specs.internal.Scratch.{p_demand, q_demand}
use Rattle.derived.specs.Outputs.{pg, qg}
use Rattle.derived.proofs.Scratch.{Injected}
use Rattle.derived.proofs.bus.generation.Given as goal

abbrev pub invariant-loop-g : goal.invariant-loop-g
invariant-loop-g l =
    let ws = l.candidate.tables.words.now in
    let xs = l.candidate.tables.numbers.now in
    let x = l.candidate.point.now in
    (l.g-iterator.tables ≡ l.candidate.tables)
    × Injected ws l.n (pg ws x) (qg ws x) (p_demand ws xs x) (q_demand ws xs x) l.list l.g-iterator.cursor.index
    × Untouched (2 * l.n) l.initial.list l.list
