-- The rows of references, angle differences, thermal limits and curve segments over plain numbers.
use Rattle.std.specs.Prelude.{ℕ, ◌+◌, ◌*◌, Bool, cond, List, [], ◌∷◌, ◌++◌, Float}
use Rattle.base.specs.Loop.{each, keep}
use Rattle.float.specs.Number.{◌⊗◌}
use Rattle.nl.specs.Expr.{Expr, column, shared}
use Rattle.network.specs.Network.{from, to, angled, referred, rated, s_max, curved, segments, curve_at, epigraph_column, pg_column}
use Rattle.acopf.specs.Build.{literal, add, subtract, square, scaled}
use Rattle.piecewise_cost.specs.Curve.{slope, intercept}
use Rattle.writer.specs.internal.Tokens.{Token, part_tokens}

abbrev pub reference_tokens : List ℕ → ℕ → List Token
reference_tokens ws r = part_tokens 11 (column (referred ws r) ∷ [])

abbrev pub angle_tokens : List ℕ → ℕ → List Token
angle_tokens ws b = part_tokens 11 (keep (angled ws b) (subtract (column (from ws b)) (column (to ws b))))

-- x less the squares of the shared parts p and q
abbrev pub thermal_of : ℕ → ℕ → Float → Expr
thermal_of p q x = subtract (literal x) (add (square (shared p)) (square (shared q)))

abbrev pub thermal_pair : Bool → ℕ → Float → List Expr
thermal_pair rated first x = keep rated (thermal_of (first + 4) (first + 5) x) ++ keep rated (thermal_of (first + 6) (first + 7) x)

-- a branch has eight shared parts, after n of the buses
abbrev pub thermal_tokens : List ℕ → List Float → ℕ → ℕ → List Token
thermal_tokens ws xs n b = part_tokens 11 (thermal_pair (rated ws xs b) (n + 8 * b) (s_max ws xs b ⊗ s_max ws xs b))

-- the epigraph column e less slope a times pg's column c plus intercept b
abbrev pub segment_of : ℕ → ℕ → Float → Float → Expr
segment_of e c a b = subtract (column e) (add (scaled a (column c)) (literal b))

abbrev pub segment_tokens : List Float → ℕ → ℕ → ℕ → ℕ → List Token
segment_tokens xs at e c s = part_tokens 11 (segment_of e c (slope xs at s) (intercept xs at s) ∷ [])

unfoldable pub curve_tokens : List ℕ → List Float → ℕ → List Token
curve_tokens ws xs g =
    each (cond (curved ws g) (segments ws g) 0) (segment_tokens xs (curve_at ws g) (epigraph_column ws g) (pg_column ws g))
