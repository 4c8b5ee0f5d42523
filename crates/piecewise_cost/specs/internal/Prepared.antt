-- from_prepared's table (006): its first `count` entries are the segments of the curve whose numbers start at `at`.
use Rattle.std.specs.Prelude.{ℕ, ◌≡◌, List, take, Float}
use Rattle.base.specs.Loop.{table}
use Rattle.piecewise_cost.specs.Curve.{slope, intercept}
use Rattle.piecewise_cost.specs.declared.curve.Segment.{Segment}

-- segment s
abbrev pub segment : List Float → ℕ → ℕ → Segment
segment xs at s = record { slope = slope xs at s; intercept = intercept xs at s }

pub record Prepared (xs : List Float) (at count : ℕ) (segments : List Segment) : Type 0 where
  pub are : take count segments ≡ table count (segment xs at)
