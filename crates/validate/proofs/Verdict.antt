-- The check's answer and its output list, for each way out of the check.
use mathlib.Core.Path.{◌≡◌, refl, ap, sym, ◌∙◌}
use mathlib.Core.List.{List, [], ◌∷◌, ◌++◌}
use Prim.Native.Nat.{ℕ, ◌+◌, ◌*◌}
use native.Mathlib.Omega.{arith}
use lib.ListN.{length, drop}
use lib.Ieee.{Float}
use borrow.Author.Tests.{eq-eqb, ne_eqb}
use Rattle.std.specs.Prelude.{Result, Ok, Err, IfOk}
use Rattle.base.specs.Fault.{Fault}
use Rattle.base.specs.declared.refusal.Refusal.{Refusal}
use Rattle.base.specs.Fault.{clear, shown, or_else, fault_of, left}
use Rattle.base.specs.Refusal.{DERIVED}
use Rattle.base.proofs.Refusals.{shown_number}
use Rattle.base.proofs.Firsts.{Clear, or_go, or_stop, or_right}
use Rattle.base.proofs.Left.{left_refused}
use Rattle.base.proofs.Scans.{or_assoc}
use Rattle.float.specs.Number.{zero64}
use Rattle.network.specs.Network.{buses, branches}
use Rattle.network.specs.declared.layout.Layout.{Layout}
use Rattle.network.specs.Layout.{Laid}
use Rattle.lists.specs.Finite.{first_non_finite}
use Rattle.acopf.specs.Factor.{network_fault}
use Rattle.derived.specs.Outputs.{flows, outputs, own_objective}
use Rattle.derived.proofs.Outputs.{length_outputs}
use Rattle.residuals.specs.Residuals.{residuals}
use Rattle.validate.specs.Tolerances.{fault_tolerance, fault_residual}
use Rattle.validate.specs.Check.{Answer, Solved, solved, fault_output, fault_point, fault_swing, fault_derived, objective_of, check_fault, checked, outputs_after}
use Rattle.validate.specs.internal.Verdict.{fault_lent, fault_given, Cleared, Answers, refusal}
use Rattle.validate.proofs.Tolerances.{residual_spans, eight_given}
use Rattle.validate.proofs.Order.{derived_spans, check_is}

-- two for each bus and four for each branch
pub count_is : {ws : List ℕ} {xs : List Float} {l : Layout} → Laid ws xs l → 2 * l.buses + 4 * l.branches ≡ 2 * buses ws + 4 * branches ws
count_is L = omega (arith, ap (λ z. z.buses) L.words.is, ap (λ z. z.branches) L.words.is)

-- ---- what is worked out from a point

module _ (ws : List ℕ) (xs x : List Float) (solver : Float) {l : List Float} {own : Float} (e : l ≡ outputs ws xs x (flows ws xs x)) (o : own ≡ own_objective ws xs x) where
  -- 15 of the outputs and the two objectives
  pub derived_is : first_non_finite DERIVED (l ++ (solver ∷ own ∷ [])) ≡ fault_derived ws xs x solver (solved ws xs x solver)
  unfolding fault_derived solved
  derived_is = rw (e, o)

  pub solved_outputs : l ≡ (solved ws xs x solver).outputs
  unfolding solved
  solved_outputs = e

  pub solved_objective : own ≡ (solved ws xs x solver).objective
  unfolding solved
  solved_objective = o

pub outputs_length : (ws : List ℕ) (xs x : List Float) (solver : Float) → length (solved ws xs x solver).outputs ≡ 2 * buses ws + 4 * branches ws
unfolding solved
outputs_length ws xs x solver = length_outputs ws xs x (flows ws xs x)

pub solved_residuals : (ws : List ℕ) (xs x : List Float) (solver : Float) {r : List Float} → r ≡ residuals ws xs x (flows ws xs x) solver → r ≡ (solved ws xs x solver).residuals
unfolding solved
solved_residuals ws xs x solver e = e

-- ---- the refusals in the code's order

module _ (ws : List ℕ) (xs x : List Float) (solver : Float) (ts : List Float) where
  abbrev S : Solved
  S = solved ws xs x solver

  chain : (lent : ℕ) → check_fault ws xs x solver ts lent
      ≡ or_else (network_fault ws xs) (or_else (fault_lent ws xs x solver ts lent)
      (or_else (fault_given ws xs x solver) (or_else (fault_derived ws xs x solver S) (fault_residual ts S.residuals))))
  chain lent =
      check_is ws xs x solver ts lent ∙ ap (or_else (network_fault ws xs))
      (ap (λ f. or_else (fault_output ws xs x solver lent) (or_else (fault_tolerance ts) f))
      (sym (or_assoc (fault_point ws xs x solver) (fault_swing ws xs x solver) (or_else (fault_derived ws xs x solver S) (fault_residual ts S.residuals))))
      ∙ sym (or_assoc (fault_output ws xs x solver lent) (fault_tolerance ts) _))

  -- a refusal f, of any number but 16
  pub refused_is : (lent : ℕ) (f : Fault) → f ≡ check_fault ws xs x solver ts lent → (f.number ≡ 0 → ⊥) → (f.number ≡ 16 → ⊥)
      → refusal f ≡ checked ws xs x solver ts lent
  unfolding checked check_fault
  refused_is lent f e n l = rw (← e, ne_eqb f.number 0 n, ne_eqb f.number 16 l)

  pub list_kept : (before : List Float) (f : Fault) → f ≡ check_fault ws xs x solver ts (length before) → (f.number ≡ 0 → ⊥)
      → before ≡ outputs_after ws xs x solver ts before
  list_kept before f e n = rw (← e, ne_eqb f.number 0 n)

  -- the whole list after an accepted point's outputs are written
  outputs_left : (l before : List Float) → l ≡ S.outputs → Clear (check_fault ws xs x solver ts (length before))
      → l ++ drop (length l) before ≡ outputs_after ws xs x solver ts before
  outputs_left l before e c = rw (e, eq-eqb _ 0 c)

  -- ---- where 1 to 14 decide

  module _ (lent : ℕ) where
    pub by_network : (Clear (network_fault ws xs) → ⊥) → network_fault ws xs ≡ check_fault ws xs x solver ts lent
    by_network n = sym (chain lent ∙ or_stop _ _ n)

    pub by_lent : Clear (network_fault ws xs) → (Clear (fault_lent ws xs x solver ts lent) → ⊥)
        → fault_lent ws xs x solver ts lent ≡ check_fault ws xs x solver ts lent
    by_lent a n = sym (chain lent ∙ or_go _ _ a ∙ or_stop _ _ n)

    pub by_given : Clear (network_fault ws xs) → Clear (fault_lent ws xs x solver ts lent) → (Clear (fault_given ws xs x solver) → ⊥)
        → fault_given ws xs x solver ≡ check_fault ws xs x solver ts lent
    by_given a b n = sym (chain lent ∙ or_go _ _ a ∙ or_go _ _ b ∙ or_stop _ _ n)

  -- ---- where they are clear

  -- then there are eight tolerances
  pub cleared_eight : (lent : ℕ) → Cleared ws xs x solver (fault_lent ws xs x solver ts lent) → length ts ≡ 8
  cleared_eight lent C = eight_given ts (or_right (fault_output ws xs x solver lent) (fault_tolerance ts) C.lent)

  module _ (lent : ℕ) (C : Cleared ws xs x solver (fault_lent ws xs x solver ts lent)) where
    rest : check_fault ws xs x solver ts lent ≡ or_else (fault_derived ws xs x solver S) (fault_residual ts S.residuals)
    rest = chain lent ∙ or_go _ _ C.network ∙ or_go _ _ C.lent ∙ or_go _ _ C.given

    by_derived : (Clear (fault_derived ws xs x solver S) → ⊥) → fault_derived ws xs x solver S ≡ check_fault ws xs x solver ts lent
    by_derived n = sym (rest ∙ or_stop _ _ n)

    by_residual : Clear (fault_derived ws xs x solver S) → fault_residual ts S.residuals ≡ check_fault ws xs x solver ts lent
    by_residual d = sym (rest ∙ or_go _ _ d)

    -- 16: the residuals stay
    residual_answer : (f : Fault) (r : List Float) → Clear (fault_derived ws xs x solver S) → f ≡ fault_residual ts S.residuals
        → (f.number ≡ 0 → ⊥) → r ≡ S.residuals
        → ◌≡◌ {A = Answer} (record { fault = f; objective = zero64; residuals = r }) (checked ws xs x solver ts lent)
    unfolding checked check_fault
    residual_answer f r d e n q =
        let s = residual_spans _ S.residuals in
        let refuses : Clear (fault_residual ts S.residuals) → ⊥ = λ z. n (ap (λ g. g.number) e ∙ z) in
        let m : f.number ≡ 16 = omega (arith, ap (λ g. g.number) e, s.low refuses, s.high refuses) in
        let k : f ≡ check_fault ws xs x solver ts lent = e ∙ by_residual d in
        rw (← k, m, q)

    -- accepted
    accepted_answer : (f : Fault) (r : List Float) (own : Float) → Clear (fault_derived ws xs x solver S) → f ≡ fault_residual ts S.residuals
        → f.number ≡ 0 → r ≡ S.residuals → own ≡ S.objective
        → ◌≡◌ {A = Answer} (record { fault = clear; objective = own; residuals = r }) (checked ws xs x solver ts lent)
    unfolding checked check_fault
    accepted_answer f r own d e n q o =
        let k : f ≡ check_fault ws xs x solver ts lent = e ∙ by_residual d in
        rw (← k, eq-eqb f.number 0 n, q, o)

-- ---- the three ways out

module _ (ws : List ℕ) (xs x : List Float) (solver : Float) (ts before : List Float) (C : Cleared ws xs x solver (fault_lent ws xs x solver ts (length before))) where
  -- 15
  pub says_15 : (r : Refusal) → shown r ≡ fault_derived ws xs x solver (solved ws xs x solver) → Answers ws xs x solver ts before before (refusal (shown r))
  says_15 r e =
      let n : (shown r).number ≡ 0 → ⊥ = shown_number r in
      let same : (shown r).number ≡ (fault_derived ws xs x solver (solved ws xs x solver)).number = ap (λ (f : Fault). f.number) e in
      let refuses : Clear (fault_derived ws xs x solver (solved ws xs x solver)) → ⊥ = λ z. n (same ∙ z) in
      let k = e ∙ by_derived ws xs x solver ts (length before) C refuses in
      let high = (derived_spans ws xs x solver (solved ws xs x solver)).high refuses in
      let other : (shown r).number ≡ 16 → ⊥ = λ z. omega (arith, same, high) in
      (refused_is ws xs x solver ts (length before) (shown r) k n other, list_kept ws xs x solver ts before (shown r) k n)

  module _ (d : clear ≡ fault_derived ws xs x solver (solved ws xs x solver)) (rs : List Float) (q : rs ≡ (solved ws xs x solver).residuals) where
    derived_clear : Clear (fault_derived ws xs x solver (solved ws xs x solver))
    derived_clear = ap (λ (f : Fault). f.number) (sym d)

    -- 16
    says_16 : (r : Refusal) → shown r ≡ fault_residual ts rs → Answers ws xs x solver ts before before (record { fault = shown r; objective = zero64; residuals = rs })
    says_16 r e =
        let k : shown r ≡ fault_residual ts (solved ws xs x solver).residuals = rw q at e in (
          residual_answer ws xs x solver ts (length before) C (shown r) rs derived_clear k (shown_number r) q,
          list_kept ws xs x solver ts before (shown r) (k ∙ by_residual ws xs x solver ts (length before) C derived_clear) (shown_number r),
        )

    -- accepted
    says_0 : (l after : List Float) (own : Float) → clear ≡ fault_residual ts rs → l ≡ (solved ws xs x solver).outputs → own ≡ (solved ws xs x solver).objective
        → after ≡ l ++ drop (length l) before → Answers ws xs x solver ts before after (record { fault = clear; objective = own; residuals = rs })
    says_0 l after own e o w a =
        let k : clear ≡ fault_residual ts (solved ws xs x solver).residuals = rw q at e in
        let whole = k ∙ by_residual ws xs x solver ts (length before) C derived_clear in (
          accepted_answer ws xs x solver ts (length before) C clear rs own derived_clear k refl q w,
          a ∙ outputs_left ws xs x solver ts l before o (ap (λ (f : Fault). f.number) (sym whole)),
        )

    -- 16, or accepted
    pub says_rest : (v : Result Float Refusal) (l after : List Float) (own : Float) → fault_of v ≡ fault_residual ts rs → IfOk v (λ o. o ≡ own)
        → l ≡ (solved ws xs x solver).outputs → own ≡ (solved ws xs x solver).objective → after ≡ left (fault_residual ts rs) l before
        → Answers ws xs x solver ts before after (record { fault = fault_of v; objective = objective_of v; residuals = rs })
    says_rest (Ok o) l after own e i p w a = says_0 l after o e p (i ∙ w) (a ∙ rw (eq-eqb (fault_residual ts rs).number 0 (ap (λ (f : Fault). f.number) (sym e))))
    says_rest (Err r) l after own e i p w a =
        rw (a ∙ left_refused (fault_residual ts rs) l before (λ z. shown_number r (ap (λ (f : Fault). f.number) e ∙ z))) (says_16 r e)
