-- What two of document 01's mistakes to rule out come to: the shift turned the same way at both ends, va clamped.
use mathlib.Core.Path.{◌≡◌, refl, sym, ap, ◌∙◌}
use mathlib.Core.List.{List, [], ◌∷◌}
use Prim.Native.Nat.{ℕ}
use lib.ListN.{get_or}
use lib.Ieee.{Float, nan, neg}
use Rattle.float.specs.Number.{◌⊕◌, ◌⊖◌, ◌⊗◌, ◌⊘◌}
use Rattle.float.proofs.Negated.{SignChanged, neg_neg, mul_neg, neg_mul, add_neg, sub_neg, neg_add, square_over}
use Rattle.fdlibm.specs.Trig.{sine, cosine}
use Rattle.network.specs.declared.records.Branch.{Branch}
use Rattle.network.specs.Layout.{branch_record}
use Rattle.network.specs.Network.{line_g, line_b, tap, shift}
use Rattle.pi_model.specs.declared.complex.Complex.{Complex}
use Rattle.pi_model.specs.Flow.{conjugate, transfer_from, transfer_to, coefficients_of, coefficients}

-- ---- the two ends see the shift turned opposite ways

-- in the check: the to end's admittance is the from end's at the conjugate tap
pub opposite : (y t : Complex) → transfer_from y t ≡ transfer_to y (conjugate t)
opposite y t = refl

-- in compile: of branch_flow's twelve coefficients, those of wr and wi in p_from and q_from, and in p_to and q_to
abbrev pub from_end : List Float → List Float
from_end k = get_or k 1 nan ∷ get_or k 2 nan ∷ get_or k 4 nan ∷ get_or k 5 nan ∷ []

abbrev pub to_end : List Float → List Float
to_end k = get_or k 7 nan ∷ get_or k 8 nan ∷ get_or k 10 nan ∷ get_or k 11 nan ∷ []

-- the from end's by the shift's cosine c and sine s
abbrev pub from_end_at : (g b tap c s : Float) → List Float
from_end_at g b tap c s =
    let tap² = tap ⊗ tap in
    let tr = tap ⊗ c in
    let ti = tap ⊗ s in
    (neg g ⊗ tr ⊕ b ⊗ ti) ⊘ tap² ∷ (neg b ⊗ tr ⊖ g ⊗ ti) ⊘ tap² ∷ (b ⊗ tr ⊕ g ⊗ ti) ⊘ tap² ∷ (neg g ⊗ tr ⊕ b ⊗ ti) ⊘ tap² ∷ []

-- u is v with the sign of wi changed: those of wr are equal bit for bit, those of wi v's negated, or +0 in both
pub record WiChanged (u v : List Float) : Type 0 where
  pub p_wr : get_or u 0 nan ≡ get_or v 0 nan
  pub p_wi : SignChanged (get_or u 1 nan) (get_or v 1 nan)
  pub q_wr : get_or u 2 nan ≡ get_or v 2 nan
  pub q_wi : SignChanged (get_or u 3 nan) (get_or v 3 nan)

turned_product : (b t s : Float) → b ⊗ (t ⊗ neg s) ≡ neg (b ⊗ (t ⊗ s))
turned_product b t s = ap (λ x. b ⊗ x) (mul_neg t s) ∙ mul_neg b (t ⊗ s)

turned_sum : (x b t s : Float) → x ⊖ b ⊗ (t ⊗ s) ≡ x ⊕ b ⊗ (t ⊗ neg s)
turned_sum x b t s = sym (ap (λ y. x ⊕ y) (turned_product b t s) ∙ add_neg x (b ⊗ (t ⊗ s)))

turned_p : (b r g t s : Float) → SignChanged (b ⊗ r ⊖ g ⊗ (t ⊗ s)) (neg b ⊗ r ⊖ g ⊗ (t ⊗ neg s))
turned_p b r g t s =
    let p = b ⊗ r in
    let q = g ⊗ (t ⊗ s) in
    rw (turned_product g t s, neg_mul b r, sub_neg (neg p) q) (rw (neg_neg p, add_neg p q) at (neg_add (neg p) q))

turned_q : (g r b t s : Float) → SignChanged (g ⊗ r ⊕ b ⊗ (t ⊗ s)) (neg g ⊗ r ⊕ b ⊗ (t ⊗ neg s))
turned_q g r b t s =
    let p = g ⊗ r in
    let q = b ⊗ (t ⊗ s) in
    rw (turned_product b t s, neg_mul g r) (rw (neg_neg p, neg_neg q) at (neg_add (neg p) (neg q)))

module _ (r : Branch) where
  pub from_coefficients : from_end (coefficients_of r) ≡ from_end_at r.g r.b r.tap (cosine r.shift) (sine r.shift)
  unfolding coefficients_of
  from_coefficients = refl

  -- the to end's are the from end's at the negated sine, with the sign of wi changed
  pub opposite_coefficients : WiChanged (to_end (coefficients_of r)) (from_end_at r.g r.b r.tap (cosine r.shift) (neg (sine r.shift)))
  unfolding coefficients_of
  opposite_coefficients =
      let tr = r.tap ⊗ cosine r.shift in
      let s = sine r.shift in
      record {
        p_wr = ap (λ x. x ⊘ (r.tap ⊗ r.tap)) (turned_sum (neg r.g ⊗ tr) r.b r.tap s);
        p_wi = square_over _ _ r.tap (turned_p r.b tr r.g r.tap s);
        q_wr = ap (λ x. x ⊘ (r.tap ⊗ r.tap)) (turned_sum (r.b ⊗ tr) r.g r.tap s);
        q_wi = square_over _ _ r.tap (turned_q r.g tr r.b r.tap s);
      }

-- the same of a network's branch a
module _ (ws : List ℕ) (xs : List Float) (a : ℕ) where
  abbrev from_end_of : Float → List Float
  from_end_of = from_end_at (line_g ws xs a) (line_b ws xs a) (tap ws xs a) (cosine (shift ws xs a))

  pub branch_from_is : from_end (coefficients ws xs a) ≡ from_end_of (sine (shift ws xs a))
  branch_from_is = from_coefficients (branch_record ws xs a)

  pub branch_opposite : WiChanged (to_end (coefficients ws xs a)) (from_end_of (neg (sine (shift ws xs a))))
  branch_opposite = opposite_coefficients (branch_record ws xs a)
