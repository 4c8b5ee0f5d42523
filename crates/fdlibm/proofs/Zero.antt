-- Sine and cosine of a number below 2^-27, a zero among them: the number itself, sign and all, and 1.
use mathlib.Core.Path.{◌≡◌}
use mathlib.Core.Bool.{Bool, true, false}
use Prim.Native.Nat.{◌<◌}
use native.Mathlib.Omega.{arith}
use lib.IntN.{ℤ, pos}
use lib.Ieee.{Float, fin, binary64, of_bits, neg}
use borrow.Author.Tests.{le-leb, lt-ltb}
use Rattle.float.specs.Number.{one64}
use Rattle.float.proofs.Patterns.{zero_bits}
use Rattle.fdlibm.specs.Kernel.{IX, kernel_sin, kernel_cos}
use Rattle.fdlibm.specs.Trig.{sine, cosine}

pub sine_tiny : (x : Float) → IX x < 0x3e400000 → sine x ≡ x
unfolding sine kernel_sin
sine_tiny x h = rw (le-leb (IX x) 0x3fe921fb (omega arith), lt-ltb (IX x) 0x3e400000 h)

pub cosine_tiny : (x : Float) → IX x < 0x3e400000 → cosine x ≡ one64
unfolding cosine kernel_cos
cosine_tiny x h = rw (le-leb (IX x) 0x3fe921fb (omega arith), lt-ltb (IX x) 0x3e400000 h)

zero_word : (s : Bool) (e : ℤ) → IX (fin s 0 e) < 0x3e400000
zero_word true e = rw (zero_bits true e) (omega arith)
zero_word false e = rw (zero_bits false e) (omega arith)

-- a zero however written
pub sine_zero : (s : Bool) (e : ℤ) → sine (fin s 0 e) ≡ fin s 0 e
sine_zero s e = sine_tiny (fin s 0 e) (zero_word s e)

pub cosine_zero : (s : Bool) (e : ℤ) → cosine (fin s 0 e) ≡ one64
cosine_zero s e = cosine_tiny (fin s 0 e) (zero_word s e)

-- +0 and -0
pub sine_plus_zero : sine (of_bits binary64 0) ≡ of_bits binary64 0
unfolding of_bits
sine_plus_zero = sine_zero false (pos 0)

pub sine_minus_zero : sine (neg (of_bits binary64 0)) ≡ neg (of_bits binary64 0)
unfolding of_bits neg
sine_minus_zero = sine_zero true (pos 0)

pub cosine_plus_zero : cosine (of_bits binary64 0) ≡ one64
unfolding of_bits
cosine_plus_zero = cosine_zero false (pos 0)

pub cosine_minus_zero : cosine (neg (of_bits binary64 0)) ≡ one64
unfolding of_bits neg
cosine_minus_zero = cosine_zero true (pos 0)
