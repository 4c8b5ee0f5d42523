use mathlib.Core.Path.{◌≡◌}
use mathlib.Core.List.{List}
use Prim.Native.Nat.{ℕ}
use lib.Ieee.{Float}
use lib.ListN.{length}
use Rattle.derived.specs.internal.Agree.{PerBus}
use Rattle.derived.specs.Outputs.{p_from, q_from, p_to, q_to}
use Rattle.derived.specs.internal.Scratch.{FlowsAre}
use Rattle.derived.proofs.Scratch.{Withdrawn}
use Rattle.derived.proofs.fill.balances.Given as goal

abbrev pub invariant-loop-b : goal.invariant-loop-b
invariant-loop-b l =
    (length l.list ≡ length l.initial.list)
    × ((fs : List (List Float)) (p q : ℕ → Float) → FlowsAre fs l.n l.tables.layout.branches l.tables.layout.branches l.outputs → PerBus l.n l.n p q l.initial.list
    → Withdrawn l.tables.words.now l.n (p_from fs) (p_to fs) (q_from fs) (q_to fs) p q l.list l.b)
