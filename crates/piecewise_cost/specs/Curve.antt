-- PiecewiseCost (006, from_prepared and evaluate): each segment's slope and intercept, and the value at a power.
-- The curve's numbers start at `at`; document 01, "The network file": power, value pairs.
use Rattle.std.specs.Prelude.{ℕ, ◌+◌, true, List, Float}
use Rattle.std.specs.Float.{inf}
use Rattle.base.specs.Loop.{loop}
use Rattle.float.specs.Number.{◌⊕◌, ◌⊖◌, ◌⊗◌, ◌⊘◌, maximum}
use Rattle.network.specs.Network.{power, value, curve_at, segments}

module _ (xs : List Float) (at : ℕ) where
  -- segment s, from point s to the next
  unfoldable pub slope : ℕ → Float
  slope s = (value xs at (s + 1) ⊖ value xs at s) ⊘ (power xs at (s + 1) ⊖ power xs at s)

  unfoldable pub intercept : ℕ → Float
  intercept s = value xs at s ⊖ slope s ⊗ power xs at s

  -- evaluate: the maximum over the segments, from minus infinity on
  unfoldable pub evaluate : ℕ → Float → Float
  evaluate count p = loop (λ most s. maximum most (slope s ⊗ p ⊕ intercept s)) (inf true) count

-- the value of generator g's curve at the power p
abbrev pub curve_value : List ℕ → List Float → ℕ → Float → Float
curve_value ws xs g p = evaluate xs (curve_at ws g) (segments ws g) p
