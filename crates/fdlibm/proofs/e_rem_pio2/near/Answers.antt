use Rattle.std.proofs.Common.{◌≡◌, ap, refl, true, false, eq-eqb, ne_eqb}
use lib.Ieee.{Float, nan, inf, fin, binary64, add, sub, mul, neg, of_bits, round}
use Rattle.float.specs.Number.{one64}
use Rattle.fdlibm.specs.RemPio2.{pio2_1, pio2_1t, pio2_2, pio2_2t, near_positive, near_negative}
use Rattle.fdlibm.proofs.e_rem_pio2.near.Goals as goal
use Rattle.fdlibm.proofs.e_rem_pio2.near.Goals.{then-this-ne0, else-this-ne0}

same-pio2_1 : mul binary64 one64 pio2_1 ≡ pio2_1
unfolding mul neg of_bits round lib.Count.count_trailing_zeros
same-pio2_1 = refl

turned-pio2_1 : mul binary64 (neg one64) pio2_1 ≡ neg pio2_1
unfolding mul neg of_bits round lib.Count.count_trailing_zeros
turned-pio2_1 = refl

same-pio2_1t : mul binary64 one64 pio2_1t ≡ pio2_1t
unfolding mul neg of_bits round lib.Count.count_trailing_zeros
same-pio2_1t = refl

turned-pio2_1t : mul binary64 (neg one64) pio2_1t ≡ neg pio2_1t
unfolding mul neg of_bits round lib.Count.count_trailing_zeros
turned-pio2_1t = refl

same-pio2_2 : mul binary64 one64 pio2_2 ≡ pio2_2
unfolding mul neg of_bits round lib.Count.count_trailing_zeros
same-pio2_2 = refl

turned-pio2_2 : mul binary64 (neg one64) pio2_2 ≡ neg pio2_2
unfolding mul neg of_bits round lib.Count.count_trailing_zeros
turned-pio2_2 = refl

same-pio2_2t : mul binary64 one64 pio2_2t ≡ pio2_2t
unfolding mul neg of_bits round lib.Count.count_trailing_zeros
same-pio2_2t = refl

turned-pio2_2t : mul binary64 (neg one64) pio2_2t ≡ neg pio2_2t
unfolding mul neg of_bits round lib.Count.count_trailing_zeros
turned-pio2_2t = refl

neg-neg : (x : Float) → neg (neg x) ≡ x
unfolding neg
neg-neg nan = refl
neg-neg (inf true) = refl
neg-neg (inf false) = refl
neg-neg (fin true m e) = refl
neg-neg (fin false m e) = refl

less_minus : (x y : Float) → sub binary64 x (neg y) ≡ add binary64 x y
unfolding sub
less_minus x y = ap (add binary64 x) (neg-neg y)

pub returns-then-ix-eq1073291771 : goal.returns-then-ix-eq1073291771
unfolding near_positive near_negative
returns-then-ix-eq1073291771 g c =
    let i = eq-eqb _ _ c.if-ix-eq1073291771.true in
    elim c.if-this-ne0.branch [
      | then-this-ne0 w ↦ rw (c.two_parts.ensures, w.n-is, ne_eqb _ _ w.if-this-ne0.true, i, turned-pio2_1, turned-pio2_2, turned-pio2_2t) (simp less_minus)
      | else-this-ne0 w ↦ rw (c.two_parts.ensures, w.n-is, w.if-this-ne0.false, i, same-pio2_1, same-pio2_2, same-pio2_2t) refl
    ]

pub returns-else-ix-eq1073291771 : goal.returns-else-ix-eq1073291771
unfolding near_positive near_negative
returns-else-ix-eq1073291771 g c =
    let i = ne_eqb _ _ c.if-ix-eq1073291771.false in
    let e = c.two_parts-else-ix-eq1073291771.ensures in
    elim c.if-this-ne0.branch [
      | then-this-ne0 w ↦ rw (e, w.n-is, ne_eqb _ _ w.if-this-ne0.true, i, turned-pio2_1, turned-pio2_1t) (simp less_minus)
      | else-this-ne0 w ↦ rw (e, w.n-is, w.if-this-ne0.false, i, same-pio2_1, same-pio2_1t) refl
    ]
