-- A quick test by which a branch is far below its rating, so that its hypotenuse need not be worked out.
use Rattle.std.specs.Prelude.{Bool, ◌&&◌, Float}
use Rattle.std.specs.Float.{binary64}
use Rattle.std.specs.Float.Ieee.{of_bits, lt}
use Rattle.float.specs.Number.{◌⊕◌, ◌⊗◌}

-- 1 - 2^-40
abbrev pub nearly64 : Float
nearly64 = of_bits binary64 0x3FEF_FFFF_FFFF_E000

-- 2^-960 and 2^960: a square between them neither underflows nor overflows
abbrev pub floor64 : Float
floor64 = of_bits binary64 0x03F0_0000_0000_0000

abbrev pub ceiling64 : Float
ceiling64 = of_bits binary64 0x7BF0_0000_0000_0000

-- p^2 + q^2 is below s^2 * (1 - 2^-40), and that is of a usual size
abbrev pub far_below : Float → Float → Float → Bool
far_below p q s =
    let most = s ⊗ s ⊗ nearly64 in
    lt (p ⊗ p ⊕ q ⊗ q) most && lt floor64 most && lt most ceiling64
