-- Document 01's mistake to rule out, "refusing a balance that overflows with 15 instead of 16": the answer then is 16.
use mathlib.Core.Path.{◌≡◌, refl, ap, sym, ◌∙◌}
use mathlib.Core.List.{List}
use mathlib.Core.Bool.{Bool, true, false, not, true≢false, false≢true}
use mathlib.Core.Logic.{◌⊎◌, inl, inr}
use Prim.Native.Nat.{ℕ, zero, suc, ◌+◌, ◌≤◌, ◌<◌}
use native.Mathlib.Omega.{arith}
use lib.ListN.{length, get_or}
use lib.Dec.{eqb, leb}
use lib.Ieee.{Float, nan, inf, fin, lt, is_nan}
use borrow.Author.Tests.{le-leb, leb-true, leb-false, eq-eqb, not-true}
use Rattle.base.proofs.Firsts.{Clear, or_go, or_clear, unless_clear, unless_true, all_clear, first_clear, first_fails}
use Rattle.base.proofs.Loops.{Block}
use Rattle.base.specs.Fault.{fault, unless}
use Rattle.base.specs.Fault.{Fault}
use Rattle.float.specs.Number.{is_finite, absolute}
use Rattle.float.proofs.Really.{Number}
use Rattle.network.specs.Network.{buses, columns}
use Rattle.lists.specs.Finite.{first_non_finite, point_fault}
use Rattle.lists.proofs.NonFinite.{non_finite_clear}
use Rattle.derived.specs.Outputs.{p_injection, q_injection, flows, p_from, q_from, p_to, q_to, outputs}
use Rattle.derived.proofs.Outputs.{outputs_at}
use Rattle.residuals.specs.Residuals.{p_balance, q_balance, active_balance, reactive_balance, residuals}
use Rattle.validate.specs.Tolerances.{fault_above, fault_residual}
use Rattle.validate.specs.Check.{solved, fault_output, fault_point, fault_swing, check_fault}
use Rattle.validate.proofs.Tolerances.{tolerances_finite, tolerances_not_below, right_clear}
use Rattle.validate.proofs.Order.{check_is}
use Rattle.accepted.specs.Accepted.{Sound, NotAbove}
use Rattle.accepted.proofs.Accepts.{derived_exactly}
use Rattle.accepted.proofs.Largest.{largest_law}
use Rattle.accepted.proofs.Kept.{withdrawn_number}

-- a number that is not finite is an infinity, and its absolute value is above any finite tolerance
above_finite : (t v : Float) → is_finite t ≡ true → Number v → is_finite v ≡ false → NotAbove t (absolute v) → ⊥
unfolding is_finite absolute is_nan lt
above_finite t nan h n f w = true≢false n
above_finite nan (inf s) h n f w = false≢true h
above_finite (inf u) (inf s) h n f w = false≢true h
above_finite (fin u k d) (inf s) h n f w = true≢false w
above_finite t (fin s m e) h n f w = true≢false f

module _ (ws : List ℕ) (xs x : List Float) (solver : Float) (ts : List Float) (lent : ℕ) (S : Sound ws xs x solver ts lent) where
  residual_alone : check_fault ws xs x solver ts lent ≡ fault_residual ts (solved ws xs x solver).residuals
  unfolding fault_output fault_point point_fault fault_swing
  residual_alone =
      check_is ws xs x solver ts lent ∙ or_go _ _ (ap (λ f. f.number) S.network)
      ∙ or_go _ _ (test _ _ (le-leb _ _ S.room))
      ∙ or_go _ _ (right_clear ts S.tolerances_given S.tolerances_right)
      ∙ or_go _ _ (or_clear (unless (eqb (length x) (columns ws)) (fault 13 (columns ws))) (first_non_finite 13 x) (test _ _ (eq-eqb _ _ S.columns_given)) ((non_finite_clear 13 x (omega arith)).1 S.point_finite))
      ∙ or_go _ _ (all_clear (buses ws) _ (λ i l. test _ _ (S.angles i l)))
      ∙ or_go _ _ ((derived_exactly ws xs x solver).1 (S.outputs_finite, S.solver_finite, S.own_finite))
    where
      test : (b : Bool) (f : Fault) → b ≡ true → Clear (unless b f)
      test b f h = ap (λ y. y.number) (unless_clear b f h)

  block_finite : {k n : ℕ} {f : ℕ → Float} → Block (outputs ws xs x (flows ws xs x)) k n f → (j : ℕ) → j < n → is_finite (f j) ≡ true
  block_finite {k} B j l = ap is_finite (sym (B.its j nan l)) ∙ S.outputs_finite (k + j) (omega (arith, B.fits))

  -- residual j + 1, counted from 1, above its tolerance: 16, its place at most j + 1
  above_16 : (j : ℕ) → j < 8 → (lt (get_or ts j nan) (get_or (residuals ws xs x (flows ws xs x) solver) j nan) ≡ false → ⊥)
      → (k : ℕ) × (k ≤ j) × (check_fault ws xs x solver ts lent ≡ fault 16 (k + 1))
  unfolding fault_above solved
  above_16 j l above =
      let t : ℕ → Bool = λ i. not (lt (get_or ts i nan) (get_or (residuals ws xs x (flows ws xs x) solver) i nan)) in
      let z : t j ≡ true → ⊥ = λ e. above (not-true _ e) in
      let f = first_fails 8 t 16 (λ i. i + 1) (omega arith) (λ c. z (unless_true _ 16 (j + 1) (omega arith) (first_clear 8 _ c j l))) in
      (f.which, at_most f.which (λ q. z (f.before j q)), residual_alone ∙ f.answer)
    where
      at_most : (k : ℕ) → (j < k → ⊥) → k ≤ j
      at_most k g = go (leb k j) refl
        where
          go : (b : Bool) → leb k j ≡ b → k ≤ j
          go true e = leb-true k j e
          go false e = absurd (g (omega (arith, leb-false k j e)))

  -- a residual of balances is above its tolerance where one of them is not finite
  active_above : (i : ℕ) → i < buses ws → is_finite (p_balance ws xs x (flows ws xs x) i) ≡ false → lt (get_or ts 0 nan) (active_balance ws xs x (flows ws xs x)) ≡ false → ⊥
  unfolding active_balance p_balance
  active_above i l h w =
      let P = outputs_at ws xs x (flows ws xs x) in
      let n = withdrawn_number ws i (p_from (flows ws xs x)) (p_to (flows ws xs x)) (p_injection ws xs x i) (block_finite P.p_injections i l) (block_finite P.p_from_is) (block_finite P.p_to_is) in
      above_finite (get_or ts 0 nan) (p_balance ws xs x (flows ws xs x) i) (tolerances_finite ts S.tolerances_right 0 (omega arith)) n h ((largest_law (get_or ts 0 nan) (tolerances_not_below ts S.tolerances_right 0 (omega arith)) (buses ws) _).0 w i l)

  reactive_above : (i : ℕ) → i < buses ws → is_finite (q_balance ws xs x (flows ws xs x) i) ≡ false → lt (get_or ts 1 nan) (reactive_balance ws xs x (flows ws xs x)) ≡ false → ⊥
  unfolding reactive_balance q_balance
  reactive_above i l h w =
      let P = outputs_at ws xs x (flows ws xs x) in
      let n = withdrawn_number ws i (q_from (flows ws xs x)) (q_to (flows ws xs x)) (q_injection ws xs x i) (block_finite P.q_injections i l) (block_finite P.q_from_is) (block_finite P.q_to_is) in
      above_finite (get_or ts 1 nan) (q_balance ws xs x (flows ws xs x) i) (tolerances_finite ts S.tolerances_right 1 (omega arith)) n h ((largest_law (get_or ts 1 nan) (tolerances_not_below ts S.tolerances_right 1 (omega arith)) (buses ws) _).0 w i l)

  -- at a point that 1 to 15 and 20 do not refuse, whichever the tolerances, an active balance that is not finite gives 16, place 1
  pub active_overflow_16 : (i : ℕ) → i < buses ws → is_finite (p_balance ws xs x (flows ws xs x) i) ≡ false → check_fault ws xs x solver ts lent ≡ fault 16 1
  unfolding residuals
  active_overflow_16 i l h =
      let (k, m, e) = above_16 0 (omega arith) (active_above i l h) in
      e ∙ ap (λ j. fault 16 (j + 1)) (none k m)
    where
      none : (k : ℕ) → k ≤ 0 → k ≡ 0
      none k m = omega arith

  -- and a reactive balance 16, place 1 (where an active balance is off too) or 2
  pub reactive_overflow_16 : (i : ℕ) → i < buses ws → is_finite (q_balance ws xs x (flows ws xs x) i) ≡ false
      → (check_fault ws xs x solver ts lent ≡ fault 16 1) ⊎ (check_fault ws xs x solver ts lent ≡ fault 16 2)
  unfolding residuals
  reactive_overflow_16 i l h = let (k, m, e) = above_16 1 (omega arith) (reactive_above i l h) in one_or_two k m e
    where
      one_or_two : (k : ℕ) → k ≤ 1 → check_fault ws xs x solver ts lent ≡ fault 16 (k + 1) → (check_fault ws xs x solver ts lent ≡ fault 16 1) ⊎ (check_fault ws xs x solver ts lent ≡ fault 16 2)
      one_or_two zero m e = inl e
      one_or_two (suc zero) m e = inr e
      one_or_two (suc (suc k)) m e = absurd (omega arith)
