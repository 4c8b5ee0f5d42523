use Rattle.std.proofs.Common.{◌≡◌, ℕ, ◌^◌, ◌<◌, ◌≤◌, true, false, T, sym, refl, subst, arith}
use lib.Ieee.{Float, nan, inf, fin, binary64, to_bits, neg, fits}
use lib.Ieee.Fits.{neg-fits}
use lib.Ieee.Bits.{to_bits-lt}
use Rattle.float.specs.Number.{absolute}
use Rattle.float.proofs.absolute.Goals as goal

-- a clear sign bit, a positive value
clear : (x : Float) → to_bits binary64 x < 2 ^ 63 → x ≡ absolute x
unfolding absolute to_bits
clear nan h = refl
clear (inf true) h = absurd (omega arith)
clear (inf false) h = refl
clear (fin true m e) h = absurd (omega arith)
clear (fin false m e) h = refl

-- a set one, a negative value
set : (x : Float) → T (fits binary64 x) → 2 ^ 63 ≤ to_bits binary64 x → neg x ≡ absolute x
unfolding absolute neg to_bits
set nan f h = absurd (omega arith)
set (inf true) f h = refl
set (inf false) f h = absurd (omega arith)
set (fin true m e) f h = refl
set (fin false m e) f h = let z = to_bits-lt binary64 (fin true m e) (neg-fits binary64 (fin false m e) f) in absurd (omega arith)

pub returns-then-positive : goal.returns-then-positive
returns-then-positive c = clear c.args.x (subst (λ (n : ℕ). n < 2 ^ 63) c.to_bits-positive.ensures c.if-positive.true)

pub returns-else-positive : goal.returns-else-positive
returns-else-positive c = set c.args.x (subst T (sym c.well_formed.0.1) tt) (subst (λ (n : ℕ). 2 ^ 63 ≤ n) c.to_bits-positive.ensures c.if-positive.false)
