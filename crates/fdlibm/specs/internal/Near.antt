-- The nearest root of whole numbers, by which a guess of the root is checked.
use Rattle.std.specs.Prelude.{ℕ, ◌+◌, ◌*◌, ◌<◌, ◌≤◌}

-- w is the whole number nearest to m's root: (w - 1/2)^2 < m < (w + 1/2)^2
pub record Near (m w : ℕ) : Type 0 where
  pub low : w * w < m + w
  pub high : m ≤ w * w + w
