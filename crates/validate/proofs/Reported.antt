-- The residuals' own function: each way out of it, and that its refusal is the first.
use mathlib.Core.Path.{◌≡◌, refl, ap, sym, ◌∙◌}
use mathlib.Core.List.{List, [], ◌∷◌, ◌++◌}
use Prim.Native.Nat.{ℕ, zero, suc, ◌≤◌, ◌<◌}
use native.Mathlib.Omega.{arith}
use lib.ListN.{length, drop, set}
use lib.Ieee.{Float}
use borrow.Author.Tests.{ne_eqb, leb-true}
use Rattle.base.specs.Fault.{Fault}
use Rattle.base.specs.declared.refusal.Refusal.{Refusal}
use Rattle.base.specs.Fault.{clear, shown, or_else, first_of}
use Rattle.base.proofs.Refusals.{shown_number}
use Rattle.base.specs.Order.{IsFirst}
use Rattle.base.proofs.Firsts.{Clear, Spans, spans_unless, or_go, or_stop, unless_true}
use Rattle.base.proofs.Scans.{or_assoc}
use Rattle.base.proofs.Order.{AllGive, gives_one, give_append, first_append, refusal_is_first}
use Rattle.acopf.specs.Factor.{network_sections, network_fault}
use Rattle.acopf.proofs.Order.{network_give}
use Rattle.residuals.specs.Residuals.{residuals}
use Rattle.validate.specs.Check.{Solved, solved, fault_report, fault_point, fault_swing, fault_derived, reported, report_sections, residuals_fault, report_after}
use Rattle.validate.specs.internal.Verdict.{fault_given, Cleared}
use Rattle.validate.proofs.Order.{common_give}

-- what is written behind a front of n
set_next : (n : ℕ) (l : List Float) (y : Float) → n < length l → set (drop n l) 0 y ≡ y ∷ drop (suc n) l
set_next n [] y h = absurd (omega arith)
set_next zero (x ∷ l) y h = refl
set_next (suc n) (x ∷ l) y h = set_next n l y (omega arith)

-- ---- the refusals

module _ (ws : List ℕ) (xs x : List Float) (solver : Float) where
  pub report_spans : (lent : ℕ) → Spans 12 12 (fault_report ws xs x solver lent)
  unfolding fault_report
  report_spans lent = spans_unless _ 12 _ (omega arith) (omega arith)

  report_give : (lent : ℕ) (s : Solved) → AllGive (report_sections ws xs x solver lent s)
  report_give lent s = (gives_one (report_spans lent), common_give ws xs x solver s)

  -- the first in order, of 1 to 15
  pub residuals_refusal : (lent : ℕ) → (Clear (residuals_fault ws xs x solver lent) → ⊥)
      → IsFirst (residuals_fault ws xs x solver lent) (network_sections ws xs ++ report_sections ws xs x solver lent (solved ws xs x solver))
  unfolding residuals_fault
  residuals_refusal lent c =
      let s = solved ws xs x solver in
      refusal_is_first (network_sections ws xs ++ report_sections ws xs x solver lent s)
      (give_append (network_sections ws xs) (report_sections ws xs x solver lent s) (network_give ws xs) (report_give lent s)) refl c

  -- 1 to 15 in the code's order
  chain : (lent : ℕ) → residuals_fault ws xs x solver lent
      ≡ or_else (network_fault ws xs) (or_else (fault_report ws xs x solver lent)
      (or_else (fault_given ws xs x solver) (fault_derived ws xs x solver (solved ws xs x solver))))
  unfolding residuals_fault network_fault
  chain lent =
      first_append (network_sections ws xs) (report_sections ws xs x solver lent (solved ws xs x solver)) tt
      ∙ ap (λ f. or_else (first_of (network_sections ws xs)) (or_else (fault_report ws xs x solver lent) f))
      (sym (or_assoc (fault_point ws xs x solver) (fault_swing ws xs x solver) (fault_derived ws xs x solver (solved ws xs x solver))))

  report_room : (lent : ℕ) → Clear (fault_report ws xs x solver lent) → 9 ≤ lent
  unfolding fault_report
  report_room lent c = leb-true _ _ (unless_true _ 12 1 (omega arith) c)

  -- ---- where 1 to 14 decide

  module _ (before : List Float) {f : Fault} (refuses : f.number ≡ 0 → ⊥) where
    pub stop : f ≡ residuals_fault ws xs x solver (length before)
        → (f ≡ residuals_fault ws xs x solver (length before)) × (before ≡ report_after ws xs x solver before)
    stop e = (e, rw (← e, ne_eqb f.number 0 refuses))

    number : {g : Fault} → f ≡ g → Clear g → ⊥
    number e z = refuses (ap (λ y. y.number) e ∙ z)

    pub stop_network : f ≡ network_fault ws xs
        → (f ≡ residuals_fault ws xs x solver (length before)) × (before ≡ report_after ws xs x solver before)
    stop_network e = stop (e ∙ sym (chain (length before) ∙ or_stop _ _ (number e)))

    module _ (network : network_fault ws xs ≡ clear) where
      pub stop_report : f ≡ fault_report ws xs x solver (length before)
          → (f ≡ residuals_fault ws xs x solver (length before)) × (before ≡ report_after ws xs x solver before)
      stop_report e = stop (e ∙ sym (chain (length before) ∙ or_go _ _ (ap (λ y. y.number) network) ∙ or_stop _ _ (number e)))

      pub stop_given : Clear (fault_report ws xs x solver (length before)) → f ≡ fault_given ws xs x solver
          → (f ≡ residuals_fault ws xs x solver (length before)) × (before ≡ report_after ws xs x solver before)
      stop_given report e =
          stop (e ∙ sym (chain (length before) ∙ or_go _ _ (ap (λ y. y.number) network) ∙ or_go _ _ report ∙ or_stop _ _ (number e)))

  -- ---- where they are clear

  pub report_cleared : (lent : ℕ) → clear ≡ network_fault ws xs → clear ≡ fault_report ws xs x solver lent → clear ≡ fault_given ws xs x solver
      → (9 ≤ lent) × Cleared ws xs x solver (fault_report ws xs x solver lent)
  report_cleared lent e o g =
      let o' : Clear (fault_report ws xs x solver lent) = ap (λ (f : Fault). f.number) (sym o) in
      (report_room lent o', record { network = ap (λ (f : Fault). f.number) (sym e); lent = o'; given = ap (λ (f : Fault). f.number) (sym g) })

  module _ (before : List Float) (C : Cleared ws xs x solver (fault_report ws xs x solver (length before))) where
    whole : fault_derived ws xs x solver (solved ws xs x solver) ≡ residuals_fault ws xs x solver (length before)
    whole = sym (chain (length before) ∙ or_go _ _ C.network ∙ or_go _ _ C.lent ∙ or_go _ _ C.given)

    -- 15
    pub report_15 : (r : Refusal) → shown r ≡ fault_derived ws xs x solver (solved ws xs x solver)
        → (shown r ≡ residuals_fault ws xs x solver (length before)) × (before ≡ report_after ws xs x solver before)
    report_15 r e = stop before (shown_number r) (e ∙ whole)

    -- the nine numbers
    pub report_0 : (rs : List Float) (own : Float) (after : List Float) → clear ≡ fault_derived ws xs x solver (solved ws xs x solver)
        → rs ≡ (solved ws xs x solver).residuals → own ≡ (solved ws xs x solver).objective
        → 9 ≤ length before → after ≡ set (rs ++ drop (length rs) before) 8 own
        → (clear ≡ residuals_fault ws xs x solver (length before)) × (after ≡ report_after ws xs x solver before)
    unfolding reported solved residuals
    report_0 rs own after d q o h a = (d ∙ whole, a ∙ rw (q, set_next 8 before own h, o, ← whole, ← d))
