-- Document 02 (a): what it says of a model at a point that 14 does not refuse it.
use Rattle.std.specs.Prelude.{ℕ, ◌<◌, ◌≡◌, true, List, [], ◌∷◌, ◌++◌, get_or, Float}
use Rattle.float.specs.Number.{zero64}
use Rattle.bounds.specs.Bounds.{angle_right}
use Rattle.network.specs.Network.{buses, va_column}
use Rattle.nl.specs.Expr.{Terms, none, more}
use Rattle.nl.specs.File.{Model}
use Rattle.expression.specs.Value.{value, in_range}
use Rattle.row_values.specs.Answer.{shared_values}

-- each bus's angle is one that the check accepts: refusal 14's range there, -1,024 to 1,024
abbrev pub AnglesRight : List ℕ → List Float → Type 0
AnglesRight ws point = (i : ℕ) → i < buses ws → angle_right (get_or point (va_column ws i) zero64) ≡ true

module _ (point : List Float) where
  -- every sine's and cosine's argument is in range: of shared parts, each by the values of those before it,
  abbrev pub SharedSpared : List Float → Terms → Type 0
  SharedSpared values none = Unit {0}
  SharedSpared values (more e ts) =
      (in_range point values e ≡ true) × SharedSpared (values ++ (value point values e ∷ [])) ts

  -- of rows, where the shared parts have these values,
  abbrev pub RowsSpared : List Float → Terms → Type 0
  RowsSpared values none = Unit {0}
  RowsSpared values (more e ts) = (in_range point values e ≡ true) × RowsSpared values ts

  -- and of a whole model
  pub record Spared (M : Model) : Type 0 where
    pub shared : SharedSpared [] M.shared
    pub rows : RowsSpared (shared_values point [] M.shared) M.rows
    pub objective : in_range point (shared_values point [] M.shared) M.objective ≡ true
