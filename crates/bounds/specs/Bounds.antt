-- The Rust's small functions on bounds and starts (000: finite_or, clamp_start, validate_bounds, positive_violation), and document 01's
-- range of angles.
use Rattle.std.specs.Prelude.{Bool, cond, not, ◌&&◌, Float}
use Rattle.std.specs.Float.{binary64}
use Rattle.std.specs.Float.Ieee.{of_bits, neg, lt, le}
use Rattle.float.specs.Number.{◌⊖◌, zero64, is_finite, maximum}

-- 1e19, the Rust's INF: "Bounds are -1e19 to 1e19"
abbrev pub huge64 : Float
huge64 = of_bits binary64 0x43E1_58E4_6091_3D00

-- 1,024
abbrev pub swing64 : Float
swing64 = of_bits binary64 0x4090_0000_0000_0000

unfoldable pub finite_or : Float → Float → Float
finite_or value fallback = cond (is_finite value) value fallback

-- "non-finite becomes 0", then clamped; "a start equal to a bound keeps its own zero's sign"
unfoldable pub clamp_start : Float → Float → Float → Float
clamp_start value lower upper =
    let y = finite_or value zero64 in
    let z = cond (lt y lower) lower y in
    cond (lt upper z) upper z

-- validate_bounds: not "non-finite or lower above upper"
unfoldable pub bounds_right : Float → Float → Bool
bounds_right lower upper = is_finite lower && is_finite upper && not (lt upper lower)

-- not "outside -1,024 to 1,024"; a NaN is outside
unfoldable pub angle_right : Float → Bool
angle_right x = le (neg swing64) x && le x swing64

unfoldable pub positive_violation : Float → Float → Float → Float
positive_violation value lower upper = maximum (maximum (lower ⊖ value) zero64) (maximum (value ⊖ upper) zero64)
