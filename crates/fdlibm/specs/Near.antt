-- The nearest root, for the law that a root is correctly rounded.
use Rattle.std.specs.Prelude.{◌≡◌, ℕ, ◌+◌, ◌-◌, ◌*◌, ◌<◌, ◌≤◌, ◌^◌, false, Float}
use Rattle.std.specs.Float.Ieee.Exact.{HasValue}

-- r is x's root, correctly rounded: x is size / 2^1074 and r is p * 2^k / 2^1074, p has 53 digits, and the root is within
-- half a unit of r's last digit. Where p is 2^52 the number below r is half as far, and the root is not below r.
-- Both sides are squared, with 4 * size * 2^1074 for the square of twice the root in units of 2^-1074.
pub record Nearest (x r : Float) : Type 0 where
  pub size : ℕ
  pub p : ℕ
  pub k : ℕ
  pub of_x : HasValue x false size (2 ^ 1074)
  pub of_r : HasValue r false (p * 2 ^ k) (2 ^ 1074)
  pub least : 2 ^ 52 ≤ p
  pub most : p < 2 ^ 53
  pub below : (2 * p - 1) * 2 ^ k * ((2 * p - 1) * 2 ^ k) < 4 * (size * 2 ^ 1074)
  pub above : 4 * (size * 2 ^ 1074) < (2 * p + 1) * 2 ^ k * ((2 * p + 1) * 2 ^ k)
  pub edge : p ≡ 2 ^ 52 → p * 2 ^ k * (p * 2 ^ k) ≤ size * 2 ^ 1074
