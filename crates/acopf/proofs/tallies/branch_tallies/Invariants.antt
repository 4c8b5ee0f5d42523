use mathlib.Core.Path.{◌≡◌}
use Prim.Native.Nat.{◌≤◌}
use Rattle.base.specs.Loop.{tally}
use Rattle.network.specs.Network.{angled, rated}
use Rattle.acopf.proofs.tallies.branch_tallies.Given as goal

abbrev pub invariant-loop-b : goal.invariant-loop-b
invariant-loop-b l =
    (l.angles ≤ l.b) × (l.ratings ≤ l.b) × (l.angles ≡ tally l.b (angled l.tables.words.now)) × (l.ratings ≡ tally l.b (rated l.tables.words.now l.tables.numbers.now))
