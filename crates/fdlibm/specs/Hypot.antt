-- fdlibm 5.3's e_hypot.c. k is kept as 1023 + k, the exponent's field of 2^k.
use Rattle.std.specs.Prelude.{ℕ, ◌+◌, ◌-◌, ◌*◌, ◌%◌, ◌^◌, cond, ltb, leb, eqb, Float}
use Rattle.std.specs.Float.{binary64}
use Rattle.std.specs.Float.Ieee.{to_bits, of_bits, neg, lt}
use Rattle.float.specs.Number.{◌⊕◌, ◌⊖◌, ◌⊗◌, high_word, absolute}
use Rattle.fdlibm.specs.Sqrt.{square_root}

-- __HI(x) = h
abbrev pub set_high_word : Float → ℕ → Float
set_high_word x h = of_bits binary64 (h * 2 ^ 32 + to_bits binary64 x % 2 ^ 32)

-- t = 0; __HI(t) = h
abbrev pub from_high_word : ℕ → Float
from_high_word h = of_bits binary64 (h * 2 ^ 32)

-- a and b of medium size, w = a - b > b
abbrev pub wide : Float → Float → ℕ → Float
wide a b ha =
    let t1 = from_high_word ha in
    let t2 = a ⊖ t1 in
    square_root (t1 ⊗ t1 ⊖ (b ⊗ neg b ⊖ t2 ⊗ (a ⊕ t1)))

-- and where it is not
abbrev pub close : Float → Float → ℕ → ℕ → Float
close a b ha hb =
    let w = a ⊖ b in
    let y1 = from_high_word hb in
    let y2 = b ⊖ y1 in
    let t1 = from_high_word (ha + 0x00100000) in
    let t2 = a ⊕ a ⊖ t1 in
    square_root (t1 ⊗ y1 ⊖ (w ⊗ neg w ⊖ (t1 ⊗ y2 ⊕ t2 ⊗ b)))

-- the factor 2^k taken out before is put back
unfoldable pub scaled : ℕ → Float → Float
scaled k w = cond (eqb k 1023) w (of_bits binary64 (k * 2 ^ 52) ⊗ w)

-- __ieee754_hypot's medium size
unfoldable pub middle : ℕ → Float → Float → ℕ → ℕ → Float
middle k a b ha hb = scaled k (cond (lt b (a ⊖ b)) (wide a b ha) (close a b ha hb))

-- b < 2^-500 is scaled up first: a subnormal or zero by 2^1022, its high words left as they were, else by 2^600
unfoldable pub small : ℕ → Float → Float → ℕ → ℕ → Float
small k a b ha hb =
    cond (ltb hb 0x20b00000)
    (cond (leb hb 0x000fffff)
    (cond (eqb (to_bits binary64 b) 0) a (middle (k - 1022) (a ⊗ from_high_word 0x7fd00000) (b ⊗ from_high_word 0x7fd00000) ha hb))
    (middle (k - 600) (set_high_word a (ha + 0x25800000)) (set_high_word b (hb + 0x25800000)) (ha + 0x25800000) (hb + 0x25800000)))
    (middle k a b ha hb)

-- an infinity or a NaN is among them
unfoldable pub endless : Float → Float → Float
endless a b = cond (eqb (to_bits binary64 b) 0x7ff0000000000000) b (cond (eqb (to_bits binary64 a % 2 ^ 52) 0) a (a ⊕ b))

-- a and b not negative, a's high word ha no smaller than b's hb: far apart, above 2^500 (scaled down by 2^600), the rest
unfoldable pub ordered : Float → Float → ℕ → ℕ → Float
ordered a b ha hb =
    cond (ltb 0x3c00000 (ha - hb)) (a ⊕ b)
    (cond (ltb 0x5f300000 ha)
    (cond (leb 0x7ff00000 ha) (endless a b)
    (small 1623 (set_high_word a (ha - 0x25800000)) (set_high_word b (hb - 0x25800000)) (ha - 0x25800000) (hb - 0x25800000)))
    (small 1023 a b ha hb))

-- __ieee754_hypot
unfoldable pub hypotenuse : Float → Float → Float
hypotenuse x y =
    let ha = high_word x % 2 ^ 31 in
    let hb = high_word y % 2 ^ 31 in
    cond (ltb ha hb) (ordered (absolute y) (absolute x) hb ha) (ordered (absolute x) (absolute y) ha hb)
