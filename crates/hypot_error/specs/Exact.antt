-- The exact hypotenuse of two doubles, in units of 2^-1074 and by its square, which is a whole number.
use Rattle.std.specs.Prelude.{ℕ, ◌+◌, ◌-◌, ◌*◌, ◌^◌, ◌≤◌, Float}
use Rattle.rounding.specs.Units.{size}

-- the square of the exact hypotenuse
abbrev pub exact_square : Float → Float → ℕ
exact_square x y = size x * size x + size y * size y

-- the exact hypotenuse is at most (1 + c / 2^53) * h, both squared
abbrev pub Upper : ℕ → ℕ → ℕ → Type 0
Upper c square h = 2 ^ 53 * 2 ^ 53 * square ≤ (2 ^ 53 + c) * h * ((2 ^ 53 + c) * h)

-- and at least (1 - c / 2^53) * h
abbrev pub Lower : ℕ → ℕ → ℕ → Type 0
Lower c square h = (2 ^ 53 - c) * h * ((2 ^ 53 - c) * h) ≤ 2 ^ 53 * 2 ^ 53 * square
