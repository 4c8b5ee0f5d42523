use Prim.Native.Nat.{◌*◌}
use Rattle.derived.specs.internal.Agree.{PerBus, Untouched}
use Rattle.derived.specs.internal.Scratch.{p_demand, q_demand}
use Rattle.derived.proofs.bus.demands.Given as goal

abbrev pub invariant-loop-i : goal.invariant-loop-i
invariant-loop-i l =
    let ws = l.candidate.tables.words.now in
    let xs = l.candidate.tables.numbers.now in
    let x = l.candidate.point.now in
    PerBus l.n l.i (p_demand ws xs x) (q_demand ws xs x) l.list × Untouched (2 * l.n) l.initial.list l.list
