-- One part in 2^53 is too few in either direction, and the unit of 2^-1074 is needed where the hypotenuse is subnormal.
use mathlib.Core.Path.{◌≡◌, refl}
use mathlib.Core.Bool.{true}
use Prim.Native.Nat.{ℕ, ◌+◌, ◌-◌, ◌*◌, ◌^◌}
use lib.Dec.{ltb}
use lib.Ieee.{Float, binary64, of_bits, to_bits, round, odd, add, sub, mul, neg, lt}
use Rattle.float.specs.Number.{absolute}
use Rattle.fdlibm.specs.Sqrt.{square_root, bit_by_bit, normalized}
use Rattle.fdlibm.specs.Hypot.{hypotenuse, ordered, small, middle, scaled}
use Rattle.rounding.specs.Units.{units, size}
use Rattle.hypot_error.specs.Exact.{exact_square}

-- the exact hypotenuse of x and y is more than (1 + c / 2^53) * h
abbrev Above : ℕ → ℕ → ℕ → Type 0
Above c square h = ltb ((2 ^ 53 + c) * h * ((2 ^ 53 + c) * h)) (2 ^ 53 * 2 ^ 53 * square) ≡ true

-- and less than (1 - c / 2^53) * h
abbrev Below : ℕ → ℕ → ℕ → Type 0
Below c square h = ltb (2 ^ 53 * 2 ^ 53 * square) ((2 ^ 53 - c) * h * ((2 ^ 53 - c) * h)) ≡ true

abbrev double : ℕ → Float
double n = of_bits binary64 n

pub upper_1_fails : Above 1 (exact_square (double 0x2d3f_8625_ee36_31ac) (double 0x2d4c_2d4a_f4a3_3c70)) (size (hypotenuse (double 0x2d3f_8625_ee36_31ac) (double 0x2d4c_2d4a_f4a3_3c70)))
unfolding hypotenuse ordered small middle scaled square_root normalized bit_by_bit units absolute of_bits to_bits round odd add sub mul neg lt
upper_1_fails = refl

pub lower_1_fails : Below 1 (exact_square (double 0x2d3d_bdcf_ea71_e8c4) (double 0x2d29_1717_0bef_43d5)) (size (hypotenuse (double 0x2d3d_bdcf_ea71_e8c4) (double 0x2d29_1717_0bef_43d5)))
unfolding hypotenuse ordered small middle scaled square_root normalized bit_by_bit units absolute of_bits to_bits round odd add sub mul neg lt
lower_1_fails = refl

-- two equal subnormals: of 1 unit each, whose hypotenuse is 1 unit, and of 2, whose hypotenuse is 3
pub unit_needed : Above 4 (exact_square (double 1) (double 1)) (size (hypotenuse (double 1) (double 1)))
unfolding hypotenuse ordered small middle scaled square_root normalized bit_by_bit units absolute of_bits to_bits round odd add sub mul neg lt
unit_needed = refl

pub unit_needed_below : Below 4 (exact_square (double 2) (double 2)) (size (hypotenuse (double 2) (double 2)))
unfolding hypotenuse ordered small middle scaled square_root normalized bit_by_bit units absolute of_bits to_bits round odd add sub mul neg lt
unit_needed_below = refl
