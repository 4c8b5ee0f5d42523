-- The bounds that stand for a missing one are finite.
use mathlib.Core.Path.{◌≡◌, refl}
use mathlib.Core.Bool.{Bool, true, false, cond}
use lib.Ieee.{Float, of_bits, neg}
use Rattle.float.specs.Number.{is_finite, zero64}
use Rattle.bounds.specs.Bounds.{huge64}

-- ---- bounds

pub zero_finite : is_finite zero64 ≡ true
unfolding of_bits is_finite
zero_finite = refl

pub huge_finite : is_finite huge64 ≡ true
unfolding of_bits is_finite
huge_finite = refl

pub low_finite : is_finite (neg huge64) ≡ true
unfolding of_bits neg is_finite
low_finite = refl

-- the table's bound where its flag is set, else the given one
pub bound_finite : (flag : Bool) (x y : Float) → (flag ≡ true → is_finite x ≡ true) → is_finite y ≡ true → is_finite (cond flag x y) ≡ true
bound_finite true x y h k = h refl
bound_finite false x y h k = k
