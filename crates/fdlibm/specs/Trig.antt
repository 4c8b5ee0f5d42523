-- fdlibm 5.3's s_sin.c and s_cos.c.
use Rattle.std.specs.Prelude.{true, false, cond, leb, eqb, Float}
use Rattle.std.specs.Float.Ieee.{neg}
use Rattle.float.specs.Number.{◌⊖◌, zero64}
use Rattle.fdlibm.specs.Kernel.{IX, kernel_sin, kernel_cos}
use Rattle.fdlibm.specs.RemPio2.{rem_pio2}
use Rattle.fdlibm.specs.declared.e_rem_pio2.Reduced.{Reduced}

-- the switches on n & 3
unfoldable pub sin_reduced : Reduced → Float
sin_reduced v =
    cond (eqb v.q 0) (kernel_sin v.y0 v.y1 true)
    (cond (eqb v.q 1) (kernel_cos v.y0 v.y1)
    (cond (eqb v.q 2) (neg (kernel_sin v.y0 v.y1 true)) (neg (kernel_cos v.y0 v.y1))))

unfoldable pub cos_reduced : Reduced → Float
cos_reduced v =
    cond (eqb v.q 0) (kernel_cos v.y0 v.y1)
    (cond (eqb v.q 1) (neg (kernel_sin v.y0 v.y1 true))
    (cond (eqb v.q 2) (neg (kernel_cos v.y0 v.y1)) (kernel_sin v.y0 v.y1 true)))

-- s_sin.c: |x| up to pi/4 by the kernel alone, infinite or NaN is NaN, else by reduction
unfoldable pub sine : Float → Float
sine x = cond (leb (IX x) 0x3fe921fb) (kernel_sin x zero64 false) (cond (leb 0x7ff00000 (IX x)) (x ⊖ x) (sin_reduced (rem_pio2 x)))

-- s_cos.c, likewise
unfoldable pub cosine : Float → Float
cosine x = cond (leb (IX x) 0x3fe921fb) (kernel_cos x zero64) (cond (leb 0x7ff00000 (IX x)) (x ⊖ x) (cos_reduced (rem_pio2 x)))
