use mathlib.Core.Path.{◌≡◌}
use Rattle.base.proofs.Firsts.{Clear}
use Rattle.base.specs.Fault.{fault, unless, or_else, first}
use Rattle.base.specs.Refusal.{BOUNDS}
use Rattle.network.specs.Network.{capable, pg_column, qg_column, p_min, p_max, q_min, q_max}
use Rattle.std.specs.Prelude.{not, ◌||◌}
use Rattle.bounds.specs.Bounds.{bounds_right}
use Rattle.tables.proofs.ranges.bounds_of_generators.Given as goal

abbrev pub invariant-loop-g : goal.invariant-loop-g
invariant-loop-g l =
    (l.g-iterator.tables ≡ l.tables) × Clear (first l.g-iterator.cursor.index (λ g. or_else
    (unless (not (capable l.tables.words.now g) || bounds_right (p_min l.tables.words.now l.tables.numbers.now g) (p_max l.tables.words.now l.tables.numbers.now g)) (fault BOUNDS (pg_column l.tables.words.now g)))
    (unless (not (capable l.tables.words.now g) || bounds_right (q_min l.tables.words.now l.tables.numbers.now g) (q_max l.tables.words.now l.tables.numbers.now g)) (fault BOUNDS (qg_column l.tables.words.now g)))))
