-- fdlibm 5.3's k_sin.c and k_cos.c, one rounding for each operation. Beside each constant's bits stands fdlibm's decimal.
use Rattle.std.specs.Prelude.{ℕ, ◌-◌, ◌*◌, ◌%◌, ◌^◌, Bool, cond, ltb, Float}
use Rattle.std.specs.Float.{binary64}
use Rattle.std.specs.Float.Ieee.{of_bits}
use Rattle.float.specs.Number.{◌⊕◌, ◌⊖◌, ◌⊗◌, half64, one64, from_words, high_word}

-- fdlibm's ix: the high word without the sign
abbrev pub IX : Float → ℕ
IX x = high_word x % 2 ^ 31

-- -1.66666666666666324348e-01
abbrev pub S1 : Float
S1 = from_words 0xBFC55555 0x55555549

-- 8.33333333332248946124e-03
abbrev pub S2 : Float
S2 = from_words 0x3F811111 0x1110F8A6

-- -1.98412698298579493134e-04
abbrev pub S3 : Float
S3 = from_words 0xBF2A01A0 0x19C161D5

-- 2.75573137070700676789e-06
abbrev pub S4 : Float
S4 = from_words 0x3EC71DE3 0x57B1FE7D

-- -2.50507602534068634195e-08
abbrev pub S5 : Float
S5 = from_words 0xBE5AE5E6 0x8A2B9CEB

-- 1.58969099521155010221e-10
abbrev pub S6 : Float
S6 = from_words 0x3DE5D93A 0x5ACFD57C

-- __kernel_sin: the sine of x + y, y the tail of x; iy is false where y is 0
unfoldable pub kernel_sin : Float → Float → Bool → Float
kernel_sin x y iy =
    let z = x ⊗ x in
    let v = z ⊗ x in
    let r = S2 ⊕ z ⊗ (S3 ⊕ z ⊗ (S4 ⊕ z ⊗ (S5 ⊕ z ⊗ S6))) in
    cond (ltb (IX x) 0x3e400000) x
    (cond iy (x ⊖ ((z ⊗ (half64 ⊗ y ⊖ v ⊗ r) ⊖ y) ⊖ v ⊗ S1)) (x ⊕ v ⊗ (S1 ⊕ z ⊗ r)))

-- 4.16666666666666019037e-02
abbrev pub C1 : Float
C1 = from_words 0x3FA55555 0x5555554C

-- -1.38888888888741095749e-03
abbrev pub C2 : Float
C2 = from_words 0xBF56C16C 0x16C15177

-- 2.48015872894767294178e-05
abbrev pub C3 : Float
C3 = from_words 0x3EFA01A0 0x19CB1590

-- -2.75573143513906633035e-07
abbrev pub C4 : Float
C4 = from_words 0xBE927E4F 0x809C52AD

-- 2.08757232129817482790e-09
abbrev pub C5 : Float
C5 = from_words 0x3E21EE9E 0xBDB4B1C4

-- -1.13596475577881948265e-11
abbrev pub C6 : Float
C6 = from_words 0xBDA8FAE9 0xBE8838D4

-- z * (C1 + z * (C2 + ..))
abbrev pub cos_polynomial : Float → Float
cos_polynomial z = z ⊗ (C1 ⊕ z ⊗ (C2 ⊕ z ⊗ (C3 ⊕ z ⊗ (C4 ⊕ z ⊗ (C5 ⊕ z ⊗ C6)))))

-- x / 4 with its low word cleared, at most 0.28125
abbrev pub qx : ℕ → Float
qx ix = cond (ltb 0x3fe90000 ix) (from_words 0x3fd20000 0) (of_bits binary64 ((ix - 0x00200000) * 2 ^ 32))

-- __kernel_cos: the cosine of x + y, y the tail of x
unfoldable pub kernel_cos : Float → Float → Float
kernel_cos x y =
    let z = x ⊗ x in
    let r = cos_polynomial z in
    let ix = IX x in
    cond (ltb ix 0x3e400000) one64
    (cond (ltb ix 0x3FD33333) (one64 ⊖ (half64 ⊗ z ⊖ (z ⊗ r ⊖ x ⊗ y)))
    ((one64 ⊖ qx ix) ⊖ ((half64 ⊗ z ⊖ qx ix) ⊖ (z ⊗ r ⊖ x ⊗ y))))
