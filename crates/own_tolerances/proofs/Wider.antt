-- A wider list of tolerances never refuses what a narrower one accepts.
use Prim.Native.Nat.{ℕ}
use mathlib.Core.Path.{◌≡◌, ap, sym, subst, ◌∙◌}
use mathlib.Core.List.{List}
use lib.ListN.{length, get_or}
use lib.Dec.{T}
use lib.Ieee.{Float, nan}
use Rattle.base.specs.Fault.{Fault}
use Rattle.base.specs.Fault.{or_else, left}
use Rattle.base.proofs.Firsts.{Clear, or_left, or_right, or_clear}
use Rattle.float.proofs.Above.{not_above}
use Rattle.float.proofs.Really.{finite_number}
use Rattle.validate.specs.Tolerances.{fault_tolerance, fault_residual}
use Rattle.acopf.specs.Factor.{network_fault}
use Rattle.validate.specs.Check.{solved, fault_output, fault_point, fault_swing, fault_derived, check_fault, checked, answered}
use Rattle.validate.proofs.Tolerances.{tolerances_finite, each_right, none_above, above_none}
use Rattle.validate.proofs.Order.{check_is, check_proper}
use Rattle.accepted.proofs.Accepts.{answer_number}
use Rattle.accepted.proofs.Floats.{most_not}
use Rattle.own_tolerances.specs.Wider.{Wider, Same}

-- what follows a fault may be another that is clear where the first is
later : (f a b : Fault) → (Clear a → Clear b) → Clear (or_else f a) → Clear (or_else f b)
later f a b h c = or_clear f b (or_left f a c) (h (or_right f a c))

module _ (ts us : List Float) (W : Wider ts us) where
  -- a residual that is not above the one is not above the other
  above_clear : Clear (fault_tolerance ts) → (residuals : List Float) → Clear (fault_residual ts residuals) → Clear (fault_residual us residuals)
  above_clear right residuals c = above_none _ _ (λ i l.
      not_above (get_or us i nan) (get_or residuals i nan) (get_or ts i nan) (finite_number _ (tolerances_finite ts (each_right ts right) i l))
      (none_above _ _ c i l) (most_not (get_or ts i nan) (get_or us i nan) (subst T (sym (W.each i l)) tt)))

  module _ (ws : List ℕ) (xs x : List Float) (solver : Float) where
    still_clear : (lent : ℕ) → Clear (check_fault ws xs x solver ts lent) → Clear (check_fault ws xs x solver us lent)
    still_clear lent c =
        let s = solved ws xs x solver in
        ap (λ f. f.number) (check_is ws xs x solver us lent)
        ∙ later (network_fault ws xs) _ _ (later (fault_output ws xs x solver lent) _ _ (λ k.
        or_clear (fault_tolerance us) _ (ap (λ f. f.number) W.passes)
        (later (fault_point ws xs x solver) _ _ (later (fault_swing ws xs x solver) _ _ (later (fault_derived ws xs x solver s) _ _
        (above_clear (or_left (fault_tolerance ts) _ k) s.residuals))) (or_right (fault_tolerance ts) _ k))))
        (ap (λ f. f.number) (sym (check_is ws xs x solver ts lent)) ∙ c)

    -- an accepted point stays accepted, with the same answer and the same outputs
    pub wider_accepts : (before : List Float) → (checked ws xs x solver ts (length before)).fault.number ≡ 0 → Same ws xs x solver ts us before
    unfolding checked check_fault
    wider_accepts before z =
        let c = sym (answer_number ws xs x solver ts (length before)) ∙ z in
        let wide = check_proper ws xs x solver us (length before) (still_clear (length before) c) in
        let narrow = check_proper ws xs x solver ts (length before) c in
        let same : check_fault ws xs x solver us (length before) ≡ check_fault ws xs x solver ts (length before) = wide ∙ sym narrow in
        record {
          answer = ap (λ f. answered f (solved ws xs x solver)) same;
          outputs = ap (λ f. left f (solved ws xs x solver).outputs before) same;
        }
