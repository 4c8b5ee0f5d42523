-- A branch that is far below its rating at both ends has the violation +0, the very float.
use mathlib.Core.Path.{◌≡◌, refl, ap, ◌∙◌}
use mathlib.Core.Bool.{Bool, true, false, cond, false≢true}
use Prim.Native.Nat.{ℕ, ◌+◌, ◌-◌, ◌^◌, ◌≤◌}
use native.Mathlib.Omega.{arith}
use lib.IntN.{ℤ}
use lib.Dec.{T, ltb}
use lib.Pow.{pow_pos}
use lib.Ieee.{Float, nan, inf, fin, binary64, top, to_bits, of_bits, fits, lt, eq, ne, round}
use borrow.Author.Tests.{le-ltb, ltb-true, ltb-false}
use Rattle.float.specs.Number.{◌⊖◌, zero64, maximum}
use Rattle.float.proofs.Really.{Signed, round_signed}
use Rattle.float.proofs.Values.{sub_at}
use Rattle.fdlibm.specs.Hypot.{hypotenuse}
use Rattle.rounding.specs.Units.{size}
use Rattle.rounding.proofs.Overflow.{sub_more}
use Rattle.hypot_error.specs.internal.Quick.{far_below}
use Rattle.hypot_error.proofs.Quick.{AtMost, quick_at_most}

-- ---- maxima with +0

abbrev pick : Float → Float → Bool → Bool → Bool → Bool → Bool → Float
pick a b na nb la lb z = cond na b (cond nb a (cond la b (cond lb a (cond z a b))))

maximum_is : (a b : Float) → maximum a b ≡ pick a b (ne a a) (ne b b) (lt a b) (lt b a) (ltb (to_bits binary64 a) (2 ^ 63))
unfolding maximum
maximum_is a b = refl

zero_itself : ne zero64 zero64 ≡ false
unfolding ne eq of_bits
zero_itself = refl

minus_bits : (m : ℕ) (e : ℤ) → 2 ^ 63 ≤ to_bits binary64 (fin true m e)
unfolding to_bits
minus_bits m e = sign_on _ _
  where
    sign_on : (a b : ℕ) → 2 ^ 63 ≤ top binary64 + a + b
    sign_on a b = omega arith

zero_not_below : (m : ℕ) (e : ℤ) → lt zero64 (fin true m e) ≡ false
unfolding lt of_bits
zero_not_below m e = refl

infinity_maximum : maximum (inf true) zero64 ≡ zero64
unfolding maximum lt ne eq of_bits
infinity_maximum = refl

minus_maximum : (a : Float) → Signed true a → maximum a zero64 ≡ zero64
minus_maximum nan s = absurd s
minus_maximum (inf false) s = absurd (false≢true s)
minus_maximum (inf true) s = infinity_maximum
minus_maximum (fin false m e) s = absurd (false≢true s)
minus_maximum (fin true m e) s =
    let a = fin true m e in
    maximum_is a zero64 ∙ go (ne a a) (ne zero64 zero64) (lt a zero64) (lt zero64 a) (ltb (to_bits binary64 a) (2 ^ 63)) zero_itself (zero_not_below m e) (le-ltb (to_bits binary64 a) (2 ^ 63) (minus_bits m e))
  where
    go : (na nb la lb z : Bool) → nb ≡ false → lb ≡ false → z ≡ false → pick (fin true m e) zero64 na nb la lb z ≡ zero64
    go true nb la lb z p q r = refl
    go false nb true lb z p q r = rw p
    go false nb false lb z p q r = rw (p, q, r)

-- ---- no violation

round_zero : round binary64 false 0 (2 ^ 1074) ≡ zero64
unfolding round of_bits
round_zero = refl

zero_maximum : maximum zero64 zero64 ≡ zero64
unfolding maximum lt ne eq of_bits to_bits
zero_maximum = refl

no_violation : (h s : Float) → AtMost h s → maximum (h ⊖ s) zero64 ≡ zero64
no_violation h s a = go (ltb a.count (size s)) refl
  where
    n : ℕ
    n = a.count

    go : (t : Bool) → ltb n (size s) ≡ t → maximum (h ⊖ s) zero64 ≡ zero64
    go true q =
        let e = sub_more h s n (size s) a.value a.rating (ltb-true n (size s) q) in
        rw e (minus_maximum (round binary64 true (size s - n) (2 ^ 1074)) (round_signed binary64 true (size s - n) (2 ^ 1074)))
    go false q =
        let l = ltb-false n (size s) q in
        let z : n - size s ≡ 0 = none n (size s) a.least in
        let e = sub_at h s n (size s) (2 ^ 1074) (pow_pos 1074) a.value a.rating l in
        ap (λ (x : Float). maximum x zero64) (e ∙ ap (λ (k : ℕ). round binary64 false k (2 ^ 1074)) z ∙ round_zero) ∙ zero_maximum
      where
        none : (n m : ℕ) → n ≤ m → n - m ≡ 0
        none n m l = omega arith

larger : (h k s : Float) → AtMost h s → AtMost k s → AtMost (maximum h k) s
unfolding maximum
larger h k s a b = go (ne h h) (ne k k) (lt h k) (lt k h) (ltb (to_bits binary64 h) (2 ^ 63))
  where
    go : (na nb la lb z : Bool) → AtMost (pick h k na nb la lb z) s
    go true nb la lb z = b
    go false true la lb z = a
    go false false true lb z = b
    go false false false true z = a
    go false false false false true = a
    go false false false false false = b

-- ---- the laws

-- p and q at one end, r and t at the other; s is the rating
module _ (p q r t s : Float) (fp : T (fits binary64 p)) (fq : T (fits binary64 q)) (fr : T (fits binary64 r)) (ft : T (fits binary64 t)) (fs : T (fits binary64 s)) (sign : Signed false s)
    (one : far_below p q s ≡ true) (two : far_below r t s ≡ true) where
  -- the violation is +0
  pub quick_violation : maximum (maximum (hypotenuse p q) (hypotenuse r t) ⊖ s) zero64 ≡ zero64
  quick_violation =
      no_violation (maximum (hypotenuse p q) (hypotenuse r t)) s (larger (hypotenuse p q) (hypotenuse r t) s (quick_at_most p q s fp fq fs sign one) (quick_at_most r t s fr ft fs sign two))
