-- fdlibm 5.3's e_rem_pio2.c: x less the nearest multiple of pi/2, as y0 + y1, and n & 3, all that sine and cosine use of the multiple n.
-- It is fdlibm's up to |x| = 2^19*pi/2, about 823,550. Past that fdlibm calls __kernel_rem_pio2, with its table of 2/pi; here the
-- medium case goes on, so that the answer is defined and is not fdlibm's.
use Rattle.std.specs.Prelude.{ℕ, ◌+◌, ◌-◌, ◌/◌, ◌%◌, ◌^◌, Bool, cond, not, ◌&&◌, List, [], ◌∷◌, ltb, leb, eqb, get_or, pos, Float}
use Rattle.std.specs.Float.{binary64}
use Rattle.std.specs.Float.Ieee.{neg, to_unsigned, of_int}
use Rattle.float.specs.Number.{◌⊕◌, ◌⊖◌, ◌⊗◌, half64, from_words, high_word, absolute}
use Rattle.fdlibm.specs.Kernel.{IX}
use Rattle.fdlibm.specs.declared.e_rem_pio2.Reduced.{Reduced}

-- 6.36619772367581382433e-01
abbrev pub invpio2 : Float
invpio2 = from_words 0x3FE45F30 0x6DC9C883

-- 1.57079632673412561417e+00, the first 33 bits of pi/2
abbrev pub pio2_1 : Float
pio2_1 = from_words 0x3FF921FB 0x54400000

-- 6.07710050650619224932e-11, pi/2 less pio2_1
abbrev pub pio2_1t : Float
pio2_1t = from_words 0x3DD0B461 0x1A626331

-- 6.07710050630396597660e-11, the second 33 bits
abbrev pub pio2_2 : Float
pio2_2 = from_words 0x3DD0B461 0x1A600000

-- 2.02226624879595063154e-21, pi/2 less both
abbrev pub pio2_2t : Float
pio2_2t = from_words 0x3BA3198A 0x2E037073

-- 2.02226624871116645580e-21, the third 33 bits
abbrev pub pio2_3 : Float
pio2_3 = from_words 0x3BA3198A 0x2E000000

-- 8.47842766036889956997e-32, pi/2 less all three
abbrev pub pio2_3t : Float
pio2_3t = from_words 0x397B839A 0x252049C1

-- the high words of n*pi/2, n from 1 to 32
abbrev pub npio2_hw : List ℕ
npio2_hw =
    0x3FF921FB ∷ 0x400921FB ∷ 0x4012D97C ∷ 0x401921FB ∷ 0x401F6A7A ∷ 0x4022D97C ∷
    0x4025FDBB ∷ 0x402921FB ∷ 0x402C463A ∷ 0x402F6A7A ∷ 0x4031475C ∷ 0x4032D97C ∷
    0x40346B9C ∷ 0x4035FDBB ∷ 0x40378FDB ∷ 0x403921FB ∷ 0x403AB41B ∷ 0x403C463A ∷
    0x403DD85A ∷ 0x403F6A7A ∷ 0x40407E4C ∷ 0x4041475C ∷ 0x4042106C ∷ 0x4042D97C ∷
    0x4043A28C ∷ 0x40446B9C ∷ 0x404534AC ∷ 0x4045FDBB ∷ 0x4046C6CB ∷ 0x40478FDB ∷
    0x404858EB ∷ 0x404921FB ∷ []

-- y[0] = r - w, y[1] = (r - y[0]) - w
abbrev pub two_parts : ℕ → Float → Float → Reduced
two_parts q r w = record { q = q; y0 = r ⊖ w; y1 = (r ⊖ (r ⊖ w)) ⊖ w }

-- (__HI(y[0]) >> 20) & 0x7ff
abbrev pub exponent_field : Float → ℕ
exponent_field y = high_word y / 2 ^ 20 % 2 ^ 11

-- the third iteration, from t = r of the second
abbrev pub third_iteration : ℕ → Float → Float → Reduced
third_iteration n fn t =
    let w = fn ⊗ pio2_3 in
    let r = t ⊖ w in
    two_parts n r (fn ⊗ pio2_3t ⊖ ((t ⊖ r) ⊖ w))

-- the second, from t = r of the first; j is x's exponent
unfoldable pub second_iteration : ℕ → ℕ → Float → Float → Reduced
second_iteration j n fn t =
    let w = fn ⊗ pio2_2 in
    let r = t ⊖ w in
    let w' = fn ⊗ pio2_2t ⊖ ((t ⊖ r) ⊖ w) in
    cond (ltb (exponent_field (r ⊖ w') + 49) j) (third_iteration n fn r) (two_parts n r w')

-- n < 32 && ix != npio2_hw[n-1]
unfoldable pub no_cancellation : ℕ → ℕ → Bool
no_cancellation n ix = ltb n 32 && not (eqb ix (get_or npio2_hw (n - 1) 0))

-- n = (int)(t*invpio2+half)
abbrev pub nearest_multiple : Float → ℕ
nearest_multiple t = to_unsigned 64 (t ⊗ invpio2 ⊕ half64)

-- from n on
unfoldable pub first_iteration : ℕ → Float → ℕ → Reduced
first_iteration ix t n =
    let fn = of_int binary64 (pos n) in
    let r = t ⊖ fn ⊗ pio2_1 in
    let w = fn ⊗ pio2_1t in
    cond (no_cancellation n ix) (two_parts n r w)
    (cond (ltb (exponent_field (r ⊖ w) + 16) (ix / 2 ^ 20)) (second_iteration (ix / 2 ^ 20) n fn r) (two_parts n r w))

-- |x| up to 2^19*pi/2, with the sign dropped
abbrev pub medium : Float → Reduced
medium x = first_iteration (IX x) (absolute x) (nearest_multiple (absolute x))

-- |x| < 3pi/4, hx > 0: n = 1
unfoldable pub near_positive : ℕ → Float → Reduced
near_positive ix x =
    let z = x ⊖ pio2_1 in
    cond (eqb ix 0x3ff921fb) (two_parts 1 (z ⊖ pio2_2) pio2_2t) (two_parts 1 z pio2_1t)

abbrev pub two_parts_negative : Float → Float → Reduced
two_parts_negative z w = record { q = 3; y0 = z ⊕ w; y1 = (z ⊖ (z ⊕ w)) ⊕ w }

-- and hx < 0: n = -1, of which n & 3 is 3
unfoldable pub near_negative : ℕ → Float → Reduced
near_negative ix x =
    let z = x ⊕ pio2_1 in
    cond (eqb ix 0x3ff921fb) (two_parts_negative (z ⊕ pio2_2) pio2_2t) (two_parts_negative z pio2_1t)

-- n & 3; for hx < 0 -n & 3 and the negated parts
unfoldable pub signed : Bool → Reduced → Reduced
signed s v =
    cond s (record { q = (4 - v.q % 4) % 4; y0 = neg v.y0; y1 = neg v.y1 }) (record { q = v.q % 4; y0 = v.y0; y1 = v.y1 })

-- hx < 0
abbrev pub minus_sign : Float → Bool
minus_sign x = leb (2 ^ 31) (high_word x)

-- __ieee754_rem_pio2 for |x| above pi/4
unfoldable pub rem_pio2 : Float → Reduced
rem_pio2 x =
    cond (ltb (IX x) 0x4002d97c) (cond (minus_sign x) (near_negative (IX x) x) (near_positive (IX x) x)) (signed (minus_sign x) (medium x))
