-- A start of va is not clamped.
use mathlib.Core.Path.{◌≡◌}
use mathlib.Core.Bool.{true}
use mathlib.Core.List.{List}
use Prim.Native.Nat.{ℕ}
use lib.Ieee.{Float}
use Rattle.float.specs.Number.{is_finite}
use Rattle.bounds.specs.Bounds.{finite_or}
use Rattle.network.specs.Network.{va_given}
use Rattle.acopf.specs.Columns.{va_start}

pub va_kept : (ws : List ℕ) (xs : List Float) (i : ℕ) → is_finite (va_given ws xs i) ≡ true → va_start ws xs i ≡ va_given ws xs i
unfolding va_start finite_or
va_kept ws xs i h = rw h
