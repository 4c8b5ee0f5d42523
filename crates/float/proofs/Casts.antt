-- What a cast to u64 and a float of a pattern ask of their arguments, by a body's own tests. Two edits in must-fail/ have such tests, each
-- with a wrong bound: with the right one these lemmas prove the body.
use Rattle.std.proofs.Common.{◌≡◌, ℕ, ◌%◌, ◌≤◌, Bool, true, false, not, T, pos, sym, ◌∙◌, subst, le-ltb}
use lib.Ieee.{Float, fin, binary64, of_bits, nan_bits, lt, neg}
use lib.Ieee.Bits.{nan_bits_above}

pub above_minus_one : (x : Float) → lt (neg (of_bits binary64 0x3ff0_0000_0000_0000)) x ≡ true → T (lt (fin true 1 (pos 0)) x)
unfolding of_bits neg
above_minus_one x h = subst T (sym h) tt

pub below_top : (x : Float) → lt x (of_bits binary64 0x43f0_0000_0000_0000) ≡ true → T (lt x (fin false 1 (pos 64)))
unfolding of_bits
below_top x h = subst T (sym h) tt

-- a pattern that is not above an infinity's, its sign apart, is no NaN's
pub no_nan : (n : ℕ) → n % 0x8000_0000_0000_0000 ≤ 0x7ff0_0000_0000_0000 → T (not (nan_bits binary64 n))
no_nan n h = subst (λ (t : Bool). T (not t)) (sym (nan_bits_above binary64 n ∙ le-ltb _ _ h)) tt
