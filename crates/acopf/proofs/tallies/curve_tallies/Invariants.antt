use mathlib.Core.Path.{◌≡◌}
use Prim.Native.Nat.{◌*◌, ◌≤◌}
use Rattle.network.specs.Limits.{most_points}
use Rattle.network.specs.Network.{epigraphs_before}
use Rattle.acopf.specs.Tallies.{segments_before}
use Rattle.acopf.proofs.tallies.curve_tallies.Given as goal

abbrev pub invariant-loop-generator : goal.invariant-loop-generator
invariant-loop-generator l =
    (l.generator-iterator.tables ≡ l.tables) × (l.epigraphs ≤ l.generator-iterator.cursor.index) × (l.segments ≤ most_points * l.generator-iterator.cursor.index)
    × (l.epigraphs ≡ epigraphs_before l.tables.words.now l.generator-iterator.cursor.index) × (l.segments ≡ segments_before l.tables.words.now l.generator-iterator.cursor.index)
