-- What an accepted point is, piece by piece: the check refuses nothing exactly where these hold.
use mathlib.Core.Path.{◌≡◌, refl, ap, sym, ◌∙◌}
use mathlib.Core.List.{List, [], ◌∷◌, ◌++◌}
use mathlib.Core.Bool.{Bool, true, false, cond}
use mathlib.Core.Logic.{◌↔◌}
use Prim.Native.Nat.{ℕ, zero, suc}
use native.Mathlib.Omega.{arith}
use native.Mathlib.Nat.{zero-add}
use lib.ListN.{length, get_or}
use lib.Dec.{eqb}
use lib.Ieee.{Float, nan, lt}
use borrow.Author.Tests.{leb-true, le-leb, eqb-true, eq-eqb}
use Rattle.base.proofs.Firsts.{Clear, or_left, or_right, or_clear, unless_true, unless_clear, unless_proper, first_clear, all_clear, first_proper}
use Rattle.base.proofs.Loops.{Every, every_nil, every_cons, all_at}
use Rattle.base.specs.Fault.{clear, fault, unless}
use Rattle.base.specs.Fault.{Fault}
use Rattle.float.proofs.Above.{maximum_law}
use Rattle.float.proofs.Finite.{finite_append}
use Rattle.float.specs.Number.{is_finite, AllFinite, maximum, ◌⊖◌, zero64}
use Rattle.bounds.specs.Bounds.{positive_violation}
use Rattle.network.specs.Network.{buses, generators, branches, references, columns}
use Rattle.lists.specs.Finite.{first_non_finite, point_fault}
use Rattle.acopf.specs.Factor.{network_fault}
use Rattle.acopf.proofs.Order.{network_proper}
use Rattle.lists.proofs.NonFinite.{non_finite_clear}
use Rattle.accepted.proofs.Largest.{largest_law, largest_where_law}
use Rattle.accepted.specs.Accepted.{NotAbove, Accepted}
use Rattle.validate.specs.Check.{Answer}
use Rattle.validate.specs.Tolerances.{fault_tolerance, fault_residual}
use Rattle.validate.specs.Check.{Solved, solved, fault_output, fault_point, fault_swing, fault_derived, fault_of, check_fault, checked}
use Rattle.validate.proofs.Tolerances.{tolerances_not_below, eight_given, each_right, right_clear, none_above, above_none}
use Rattle.validate.proofs.Order.{check_is, check_proper}
use Rattle.derived.specs.Outputs.{own_objective, flows, outputs}
use Rattle.residuals.specs.Residuals.{active_balance, reactive_balance, thermal_limits, variable_bounds, reference_angles, angle_limits, epigraphs, objective_difference, residuals}

-- the two answers of `checked`
one_of_two : (n : ℕ) (r s : Answer) → r.fault.number ≡ 0 → s.fault.number ≡ n → (cond (eqb n 0) r s).fault.number ≡ n
one_of_two n r s hr hs = go (eqb n 0) refl
  where
    go : (a : Bool) → eqb n 0 ≡ a → (cond a r s).fault.number ≡ n
    go true p = hr ∙ sym (eqb-true n 0 p)
    go false p = hs

-- ---- the theorem

module _ (ws : List ℕ) (xs x : List Float) (solver : Float) where
  abbrev S : Solved
  S = solved ws xs x solver

  -- 15 looks at the outputs, the solver's objective and the own one, and at nothing else
  pub derived_exactly : Clear (fault_derived ws xs x solver (solved ws xs x solver))
      ↔ (AllFinite (outputs ws xs x (flows ws xs x)) × (is_finite solver ≡ true) × (is_finite (own_objective ws xs x) ≡ true))
  unfolding fault_derived solved
  derived_exactly =
      let n = non_finite_clear 15 (S.outputs ++ (solver ∷ S.objective ∷ [])) (omega arith) in
      let a = finite_append S.outputs (solver ∷ S.objective ∷ []) in
      (λ c. let d = a.0 (n.0 c) in (d.0, d.1 0 (omega arith), d.1 1 (omega arith)), λ h. n.1 (a.1 (h.0, two h.1 h.2)))
    where
      two : is_finite solver ≡ true → is_finite (own_objective ws xs x) ≡ true → AllFinite (solver ∷ own_objective ws xs x ∷ [])
      two p q zero l = p
      two p q (suc zero) l = q
      two p q (suc (suc j)) l = absurd (omega arith)

  -- so a balance that overflows is never 15
  pub balance_never_15 : AllFinite (outputs ws xs x (flows ws xs x)) → is_finite solver ≡ true → is_finite (own_objective ws xs x) ≡ true
      → fault_derived ws xs x solver (solved ws xs x solver) ≡ clear
  unfolding fault_derived first_non_finite
  balance_never_15 h p q = first_proper _ _ (λ i. unless_proper _ 15 i (omega arith)) (derived_exactly.1 (h, p, q))

  module _ (ts : List Float) where
    pub within_residual : Every (λ i v. lt (get_or ts i nan) v ≡ false) 0 S.residuals → Clear (fault_residual ts S.residuals)
    unfolding solved residuals
    within_residual h =
        above_none _ _ (λ i l. rw zero-add at (all_at (λ i v. lt (get_or ts i nan) v ≡ false) 0 S.residuals h.all i nan l))

    module _ (lent : ℕ) where
      pub accepted_means : check_fault ws xs x solver ts lent ≡ clear → Accepted ws xs x solver ts lent
      unfolding fault_output fault_point point_fault fault_swing solved residuals active_balance reactive_balance variable_bounds reference_angles angle_limits thermal_limits epigraphs objective_difference
      accepted_means e =
          let c = ap (λ f. f.number) (sym (check_is ws xs x solver ts lent) ∙ e) in
          let network = or_left (network_fault ws xs) _ c in
          let c1 = or_right (network_fault ws xs) _ c in
          let room = or_left (fault_output ws xs x solver lent) _ c1 in
          let c1' = or_right (fault_output ws xs x solver lent) _ c1 in
          let tolerances = or_left (fault_tolerance ts) _ c1' in
          let c2 = or_right (fault_tolerance ts) _ c1' in
          let z = tolerances_not_below ts (each_right ts tolerances) in
          let point = or_left (fault_point ws xs x solver) _ c2 in
          let c3 = or_right (fault_point ws xs x solver) _ c2 in
          let swing = or_left (fault_swing ws xs x solver) _ c3 in
          let c4 = or_right (fault_swing ws xs x solver) _ c3 in
          let derived = or_left (fault_derived ws xs x solver S) _ c4 in
          let w = none_above _ _ (or_right (fault_derived ws xs x solver S) _ c4) in
          let d = derived_exactly.0 derived in
          record {
            sound = record {
              network = network_proper ws xs network;
              room = leb-true _ _ (unless_true _ 12 1 (omega arith) room);
              tolerances_given = eight_given ts tolerances;
              tolerances_right = each_right ts tolerances;
              columns_given = eqb-true _ _ (unless_true _ 13 (columns ws) (omega arith) (or_left _ _ point));
              point_finite = (non_finite_clear 13 x (omega arith)).0 (or_right _ _ point);
              angles = λ i l. unless_true _ 14 i (omega arith) (first_clear (buses ws) _ swing i l);
              outputs_finite = d.0;
              solver_finite = d.1;
              own_finite = d.2;
            };
            active = (largest_law (get_or ts 0 nan) (z 0 (omega arith)) (buses ws) _).0 (w 0 (omega arith));
            reactive = (largest_law (get_or ts 1 nan) (z 1 (omega arith)) (buses ws) _).0 (w 1 (omega arith));
            bounds = (largest_law (get_or ts 2 nan) (z 2 (omega arith)) (columns ws) _).0 (w 2 (omega arith));
            reference = (largest_law (get_or ts 3 nan) (z 3 (omega arith)) (references ws) _).0 (w 3 (omega arith));
            angle = (largest_where_law (get_or ts 4 nan) (z 4 (omega arith)) (branches ws) _ _).0 (w 4 (omega arith));
            rating = (largest_where_law (get_or ts 5 nan) (z 5 (omega arith)) (branches ws) _ _).0 (w 5 (omega arith));
            curve = (largest_where_law (get_or ts 6 nan) (z 6 (omega arith)) (generators ws) _ _).0 (w 6 (omega arith));
            objective = w 7 (omega arith);
          }

      means_accepted : Accepted ws xs x solver ts lent → Clear (check_fault ws xs x solver ts lent)
      unfolding fault_output fault_point point_fault fault_swing solved residuals active_balance reactive_balance variable_bounds reference_angles angle_limits thermal_limits epigraphs objective_difference
      means_accepted a =
          let z = tolerances_not_below ts a.sound.tolerances_right in
          ap (λ f. f.number) (check_is ws xs x solver ts lent) ∙
          or_clear (network_fault ws xs) _ (ap (λ f. f.number) a.sound.network)
          (or_clear (fault_output ws xs x solver lent) _ (test _ _ (le-leb _ _ a.sound.room))
          (or_clear (fault_tolerance ts) _ (right_clear ts a.sound.tolerances_given a.sound.tolerances_right)
          (or_clear (fault_point ws xs x solver) _ (or_clear (unless (eqb (length x) (columns ws)) (fault 13 (columns ws))) (first_non_finite 13 x) (test _ _ (eq-eqb _ _ a.sound.columns_given)) ((non_finite_clear 13 x (omega arith)).1 a.sound.point_finite))
          (or_clear (fault_swing ws xs x solver) _ (all_clear (buses ws) _ (λ i l. test _ _ (a.sound.angles i l)))
          (or_clear (fault_derived ws xs x solver S) _ (derived_exactly.1 (a.sound.outputs_finite, a.sound.solver_finite, a.sound.own_finite))
          (within_residual (
          every_cons ((largest_law (get_or ts 0 nan) (z 0 (omega arith)) (buses ws) _).1 a.active)
          (every_cons ((largest_law (get_or ts 1 nan) (z 1 (omega arith)) (buses ws) _).1 a.reactive)
          (every_cons ((largest_law (get_or ts 2 nan) (z 2 (omega arith)) (columns ws) _).1 a.bounds)
          (every_cons ((largest_law (get_or ts 3 nan) (z 3 (omega arith)) (references ws) _).1 a.reference)
          (every_cons ((largest_where_law (get_or ts 4 nan) (z 4 (omega arith)) (branches ws) _ _).1 a.angle)
          (every_cons ((largest_where_law (get_or ts 5 nan) (z 5 (omega arith)) (branches ws) _ _).1 a.rating)
          (every_cons ((largest_where_law (get_or ts 6 nan) (z 6 (omega arith)) (generators ws) _ _).1 a.curve)
          (every_cons a.objective every_nil))))))))))))))
        where
          test : (b : Bool) (f : Fault) → b ≡ true → Clear (unless b f)
          test b f h = ap (λ y. y.number) (unless_clear b f h)

      -- nothing is refused exactly where all of it holds
      pub accepted_exactly : (check_fault ws xs x solver ts lent ≡ clear) ↔ Accepted ws xs x solver ts lent
      accepted_exactly = (accepted_means, λ a. check_proper ws xs x solver ts lent (means_accepted a))

      -- the answer's number is the refusal's
      pub answer_number : (checked ws xs x solver ts lent).fault.number ≡ (check_fault ws xs x solver ts lent).number
      unfolding checked check_fault
      answer_number = one_of_two (fault_of ws xs x solver ts lent S).number _ _ refl refl

      -- the answer is 0 exactly where all of it holds
      pub answered_exactly : ((checked ws xs x solver ts lent).fault.number ≡ 0) ↔ Accepted ws xs x solver ts lent
      answered_exactly = (λ e. accepted_means (check_proper ws xs x solver ts lent (sym answer_number ∙ e)), λ a. answer_number ∙ means_accepted a)

-- the parts of a violation, and of what is cut off at 0, for a tolerance t that is not below 0
module _ (t : Float) (zero_not : lt t zero64 ≡ false) where
  pub within_violation : (v lower upper : Float) → NotAbove t (positive_violation v lower upper) ↔ (NotAbove t (lower ⊖ v) × NotAbove t (v ⊖ upper))
  unfolding positive_violation
  within_violation v lower upper =
      let m = maximum_law t (maximum (lower ⊖ v) zero64) (maximum (v ⊖ upper) zero64) in
      let l = maximum_law t (lower ⊖ v) zero64 in
      let u = maximum_law t (v ⊖ upper) zero64 in
      (λ h. ((l.0 (m.0 h).0).0, (u.0 (m.0 h).1).0), λ h. m.1 (l.1 (h.0, zero_not), u.1 (h.1, zero_not)))

  pub within_cut : (a : Float) → NotAbove t (maximum a zero64) ↔ NotAbove t a
  within_cut a = let m = maximum_law t a zero64 in (λ h. (m.0 h).0, λ h. m.1 (h, zero_not))
