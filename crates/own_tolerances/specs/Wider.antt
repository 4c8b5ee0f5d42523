-- Two lists of tolerances, one as wide as the other or wider.
use Rattle.std.specs.Prelude.{ℕ, ◌<◌, ◌≡◌, true, List, length, get_or, Float}
use Rattle.std.specs.Float.{nan}
use Rattle.std.specs.Float.Ieee.{le}
use Rattle.base.specs.Fault.{clear}
use Rattle.validate.specs.Tolerances.{fault_tolerance}
use Rattle.validate.specs.Check.{checked, outputs_after}

-- 20 passes us, and each of its tolerances is at least that of ts
pub record Wider (ts us : List Float) : Type 0 where
  pub passes : fault_tolerance us ≡ clear
  pub each : (i : ℕ) → i < 8 → le (get_or ts i nan) (get_or us i nan) ≡ true

-- with us as with ts: the whole answer and the output list, from what it held before
pub record Same (ws : List ℕ) (xs x : List Float) (solver : Float) (ts us before : List Float) : Type 0 where
  pub answer : checked ws xs x solver us (length before) ≡ checked ws xs x solver ts (length before)
  pub outputs : outputs_after ws xs x solver us before ≡ outputs_after ws xs x solver ts before
