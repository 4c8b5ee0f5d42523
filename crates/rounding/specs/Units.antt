-- A finite double as a whole number of units of 2^-1074, the smallest positive double.
use Rattle.std.specs.Prelude.{ℕ, ◌*◌, ◌/◌, ◌^◌, ◌≤◌, Bool, true, false, ℤ, pos, negsuc, neg_ℤ, ◌-ℤ◌, nat_abs, Float}
use Rattle.std.specs.Float.{nan, inf, fin}
use Rattle.std.specs.Float.Ieee.{up, down}

-- n with a sign, negative where it is true
abbrev pub signed : Bool → ℕ → ℤ
signed false n = pos n
signed true n = neg_ℤ (pos n)

-- x * 2^1074, a whole number for every finite double (the division is exact: units_whole, proofs/Units.antt). 0 for a NaN and an infinity.
unfoldable pub units : Float → ℤ
units nan = pos 0
units (inf s) = pos 0
units (fin s m e) = signed s (m * up e * 2 ^ 1074 / down e)

-- the absolute value
abbrev pub size : Float → ℕ
size x = nat_abs (units x)

-- 0 in place of a negative number
abbrev pub above : ℤ → ℕ
above (pos n) = n
above (negsuc n) = 0

-- how much a is larger than b, exactly; 0 where it is not
abbrev pub excess : Float → Float → ℕ
excess a b = above (units a -ℤ units b)

-- how far a and b are apart, 2^53 times, is at most `bound`
abbrev pub Within : ℕ → ℤ → ℤ → Type 0
Within bound a b = 2 ^ 53 * nat_abs (a -ℤ b) ≤ bound
