-- The check from its entry on: the ways out by 1 to 14, and what holds where they are clear.
use mathlib.Core.Path.{◌≡◌, refl, ap, sym, ◌∙◌}
use mathlib.Core.List.{List, [], ◌∷◌}
use Prim.Native.Nat.{ℕ, ◌+◌, ◌*◌, ◌≤◌}
use native.Mathlib.Omega.{arith}
use lib.ListN.{length}
use lib.Ieee.{Float}
use borrow.Author.Tests.{leb-true, ne_eqb}
use Rattle.base.specs.Fault.{Fault}
use Rattle.base.specs.Fault.{clear, section}
use Rattle.base.specs.Refusal.{SHORT, TOLERANCE}
use Rattle.base.specs.Order.{numbers_of}
use Rattle.base.proofs.Firsts.{Clear, Spans, or_left, unless_true, spans_or, spans_wide}
use Rattle.base.proofs.Order.{other_number, gives_one, first_gives}
use Rattle.network.specs.Network.{buses, branches}
use Rattle.network.specs.declared.layout.Layout.{Layout}
use Rattle.network.specs.Layout.{Laid}
use Rattle.acopf.specs.Factor.{network_sections, network_fault}
use Rattle.acopf.proofs.Order.{network_refusal}
use Rattle.validate.specs.Check.{Answer, outputs_needed, fault_output, check_fault}
use Rattle.validate.specs.Tolerances.{fault_tolerance}
use Rattle.validate.specs.internal.Verdict.{fault_lent, fault_given, Opened, Answers, refusal}
use Rattle.validate.proofs.Tolerances.{tolerance_spans}
use Rattle.validate.proofs.Order.{output_spans, point_spans, swing_spans}
use Rattle.validate.proofs.Verdict.{count_is, refused_is, list_kept, by_network, by_lent, by_given}

-- ---- the length of the outputs, from the network alone

module _ (ws : List ℕ) (xs : List Float) where
  pub needed_refused : {f : Fault} → (f ≡ network_fault ws xs) × (f.number ≡ 0 → ⊥) → 0 ≡ outputs_needed ws xs
  unfolding outputs_needed
  needed_refused {f} r = rw (← r.0, ne_eqb f.number 0 r.1)

  pub needed_is : {l : Layout} → network_fault ws xs ≡ clear → Laid ws xs l → 2 * l.buses + 4 * l.branches ≡ outputs_needed ws xs
  unfolding outputs_needed
  needed_is e L = rw e (count_is L)

  -- the numbers of the network's sections
  not_16 : (Clear (network_fault ws xs) → ⊥) → (network_fault ws xs).number ≡ 16 → ⊥
  not_16 c = other_number (network_fault ws xs).number 16 (numbers_of (network_sections ws xs)) (network_refusal ws xs c).has refl

-- ---- where 1 to 14 are clear

module _ (ws : List ℕ) (xs x : List Float) (solver : Float) where
  output_room : (lent : ℕ) → Clear (fault_output ws xs x solver lent) → 2 * buses ws + 4 * branches ws ≤ lent
  unfolding fault_output
  output_room lent c = leb-true _ _ (unless_true _ 12 1 (omega arith) c)

  pub check_opened : (ts : List Float) (lent : ℕ) → clear ≡ network_fault ws xs → clear ≡ fault_lent ws xs x solver ts lent
      → clear ≡ fault_given ws xs x solver → Opened ws xs x solver ts lent
  check_opened ts lent e o g =
      let o' : Clear (fault_lent ws xs x solver ts lent) = ap (λ (f : Fault). f.number) (sym o) in
      record {
        room = output_room lent (or_left _ (fault_tolerance ts) o');
        cleared = record { network = ap (λ (f : Fault). f.number) (sym e); lent = o'; given = ap (λ (f : Fault). f.number) (sym g) };
      }

  -- ---- where they decide

  lent_not_16 : (ts : List Float) (lent : ℕ) → (Clear (fault_lent ws xs x solver ts lent) → ⊥) → (fault_lent ws xs x solver ts lent).number ≡ 16 → ⊥
  lent_not_16 ts lent c =
      let sections = section (SHORT ∷ []) (fault_output ws xs x solver lent) ∷ section (TOLERANCE ∷ []) (fault_tolerance ts) ∷ [] in
      other_number (fault_lent ws xs x solver ts lent).number 16 (SHORT ∷ TOLERANCE ∷ [])
      (first_gives sections (gives_one (output_spans ws xs x solver lent), (gives_one (tolerance_spans ts), tt)) c) refl

  given_spans : Spans 13 14 (fault_given ws xs x solver)
  given_spans =
      spans_or (spans_wide (omega arith) (omega arith) (point_spans ws xs x solver)) (spans_wide (omega arith) (omega arith) (swing_spans ws xs x solver))

  module _ (ts before : List Float) {f : Fault} {r : Answer} (says : r ≡ refusal f) (refuses : f.number ≡ 0 → ⊥) where
    stop : f ≡ check_fault ws xs x solver ts (length before) → (f.number ≡ 16 → ⊥)
        → Answers ws xs x solver ts before before r
    stop e l = (says ∙ refused_is ws xs x solver ts (length before) f e refuses l, list_kept ws xs x solver ts before f e refuses)

    number : {g : Fault} → f ≡ g → Clear g → ⊥
    number e z = refuses (ap (λ y. y.number) e ∙ z)

    pub stop_network : f ≡ network_fault ws xs → Answers ws xs x solver ts before before r
    stop_network e =
        stop (e ∙ by_network ws xs x solver ts (length before) (number e)) (λ z. not_16 ws xs (number e) (sym (ap (λ y. y.number) e) ∙ z))

    pub stop_lent : network_fault ws xs ≡ clear → f ≡ fault_lent ws xs x solver ts (length before)
        → Answers ws xs x solver ts before before r
    stop_lent network e =
        stop (e ∙ by_lent ws xs x solver ts (length before) (ap (λ y. y.number) network) (number e))
        (λ z. lent_not_16 ts (length before) (number e) (sym (ap (λ y. y.number) e) ∙ z))

    pub stop_given : network_fault ws xs ≡ clear → Clear (fault_lent ws xs x solver ts (length before)) → f ≡ fault_given ws xs x solver
        → Answers ws xs x solver ts before before r
    stop_given network output e =
        stop (e ∙ by_given ws xs x solver ts (length before) (ap (λ y. y.number) network) output (number e))
        (λ z. omega (arith, ap (λ y. y.number) e, given_spans.high (number e)))
