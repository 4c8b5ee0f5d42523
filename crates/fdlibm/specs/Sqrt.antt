-- fdlibm 5.3's e_sqrt.c, with each pair of 32-bit words as one number.
use Rattle.std.specs.Prelude.{ℕ, zero, suc, ◌+◌, ◌-◌, ◌*◌, ◌/◌, ◌%◌, ◌^◌, cond, ltb, leb, eqb, Float}
use Rattle.std.specs.Float.{binary64}
use Rattle.std.specs.Float.Ieee.{to_bits, of_bits}
use Rattle.float.specs.Number.{◌⊕◌, ◌⊖◌, ◌⊗◌, ◌⊘◌}
use Rattle.fdlibm.specs.declared.e_sqrt.Root.{Root}

-- t = s + r; if (t <= ix) { s = t + r; ix -= t; q += r; } ix += ix;
abbrev pub next_bit : ℕ → Root → Root
next_bit r v =
    cond (leb (v.s + r) v.ix)
    (record { s = v.s + r + r; ix = (v.ix - (v.s + r)) * 2; q = v.q + r })
    (record { s = v.s; ix = v.ix * 2; q = v.q })

-- k bits, r halved after each
unfoldable pub bit_by_bit : ℕ → ℕ → Root → Root
bit_by_bit zero r v = v
bit_by_bit (suc k) r v = bit_by_bit k (r / 2) (next_bit r v)

abbrev pub start : ℕ → Root
start ix = record { s = 0; ix = ix; q = 0 }

-- the rounding: q += q & 1 where something is left
abbrev pub rounded : Root → ℕ
rounded v = cond (eqb v.ix 0) v.q (v.q + v.q % 2)

-- an odd e - 1023 doubles m; e is moved by 1021
abbrev pub even_exponent : ℕ → ℕ → ℕ
even_exponent m e = cond (eqb (e % 2) 1) (m * 2) m

-- the significand m, from 2^52 below 2^53, and the exponent's field e, moved by 1021
abbrev pub root_of : ℕ → ℕ → ℕ
root_of m e = rounded (bit_by_bit 54 (2 ^ 53) (start (even_exponent m e * 2))) / 2 + e / 2 * 2 ^ 52

-- a subnormal's significand is moved up to 2^52, k places at most
unfoldable pub normalized : ℕ → ℕ → ℕ → ℕ
normalized zero m e = root_of m e
normalized (suc k) m e = normalized k (cond (ltb m (2 ^ 52)) (m * 2) m) (cond (ltb m (2 ^ 52)) (e - 1) e)

-- the root's bits of a positive finite number's bits
abbrev pub root_bits : ℕ → ℕ
root_bits b = cond (eqb (b / 2 ^ 52) 0) (normalized 52 (b % 2 ^ 52) 1022) (root_of (b % 2 ^ 52 + 2 ^ 52) (b / 2 ^ 52 + 1021))

-- __ieee754_sqrt: NaN and infinities, zeros keep their sign, negatives give NaN, then the bits
unfoldable pub square_root : Float → Float
square_root x =
    let b = to_bits binary64 x in
    cond (eqb (b / 2 ^ 52 % 2 ^ 11) 0x7ff) (x ⊗ x ⊕ x)
    (cond (eqb (b % 2 ^ 63) 0) x
    (cond (leb (2 ^ 63) b) ((x ⊖ x) ⊘ (x ⊖ x)) (of_bits binary64 (root_bits b))))
