use mathlib.Core.Path.{◌≡◌}
use Rattle.fdlibm.specs.Sqrt.{start}
use Rattle.fdlibm.proofs.Turns.{Good, turns}
use Rattle.fdlibm.proofs.e_sqrt.all_bits.Given as goal

abbrev pub invariant-loop-place : goal.invariant-loop-place
invariant-loop-place l = Good l.place l.v × (turns l.place l.v ≡ turns 54 (start l.ix))
