-- The answer's ways: refused by the network, accepted with lists as long as needed, short, accepted.
use mathlib.Core.Path.{refl, ◌≡◌, ap, sym, ◌∙◌}
use mathlib.Core.List.{List, [], ◌∷◌}
use Prim.Native.Nat.{ℕ, ◌+◌}
use native.Mathlib.Omega.{arith}
use lib.Dec.{leb}
use lib.ListN.{get_or}
use lib.Ieee.{Float}
use borrow.Author.Tests.{eq-eqb, ne_eqb, le-leb}
use Rattle.base.specs.Fault.{Fault}
use Rattle.base.specs.Fault.{shown, fault_of, fault, clear, unless, first}
use Rattle.base.proofs.Firsts.{Clear, or_clear, or_go, or_stop, unless_clear, all_clear}
use Rattle.acopf.specs.Factor.{network_fault}
use Rattle.base.specs.declared.refusal.Refusal.{Refusal}
use Rattle.base.proofs.Refusals.{shown_number}
use Rattle.std.specs.Prelude.{Result, Ok, Err}
use Rattle.compile.specs.declared.Compiled.{Compiled}
use Rattle.compile.specs.Compile.{Answer, answer_of, lengths, fault_short, compile_fault, refused, accepted, compiled, sized}
use Rattle.compile.proofs.Order.{compile_is}

-- a refusal's answer is not clear
pub refused_number : (r : Refusal) → (refused (shown r)).fault.number ≡ 0 → ⊥
unfolding refused
refused_number r = shown_number r

-- the fault that an answer shows
pub fault_said : (r : Result Compiled Refusal) → (answer_of r).fault ≡ fault_of r
unfolding refused
fault_said (Ok c) = refl
fault_said (Err r) = refl

module _ (ws : List ℕ) (xs : List Float) where
  compiled_refused : (lent : List ℕ) {f : Fault} → f ≡ compile_fault ws xs lent → (Clear f → ⊥) → refused f ≡ compiled ws xs lent
  unfolding compiled
  compiled_refused lent e n = rw (← e, ne_eqb _ _ n)

  compiled_accepted : (lent : List ℕ) → Clear (compile_fault ws xs lent) → accepted ws xs ≡ compiled ws xs lent
  unfolding compiled
  compiled_accepted lent c = rw (eq-eqb _ _ c)

  -- ---- by the network

  -- whatever the lists' lengths, the network's refusal is the answer
  pub network_refused : (lent : List ℕ) {f : Fault} → f ≡ network_fault ws xs → (Clear f → ⊥) → refused f ≡ compiled ws xs lent
  network_refused lent {f} e n =
      compiled_refused lent (e ∙ sym (compile_is ws xs lent ∙ or_stop (network_fault ws xs) (fault_short ws xs lent) (λ c. n (ap (λ x. x.number) e ∙ c)))) n

  -- the network's refusal
  pub network_exit : (lent : List ℕ) (r : Refusal) → shown r ≡ network_fault ws xs → refused (shown r) ≡ compiled ws xs lent
  network_exit lent r e = network_refused lent e (shown_number r)

  -- lists that are as long as their results suffice
  lengths_suffice : Clear (fault_short ws xs (lengths ws xs))
  unfolding fault_short
  lengths_suffice =
      let need : ℕ → ℕ = λ i. get_or (lengths ws xs) i 0 in
      all_clear 7 _ (λ i l. ap (λ y. y.number) (unless_clear (leb (need i) (need i)) (fault 12 (i + 1)) (le-leb (need i) (need i) (omega arith))))

  pub sized_exit : (r : Refusal) → shown r ≡ network_fault ws xs → refused (shown r) ≡ sized ws xs
  unfolding sized
  sized_exit r e = network_exit (lengths ws xs) r e

  pub sized_accepted : clear ≡ network_fault ws xs → accepted ws xs ≡ sized ws xs
  unfolding sized
  sized_accepted sound =
      compiled_accepted (lengths ws xs)
      (rw (compile_is ws xs (lengths ws xs)) (or_clear (network_fault ws xs) (fault_short ws xs (lengths ws xs)) (ap (λ x. x.number) (sym sound)) lengths_suffice))

  -- ---- by the lists

  abbrev needs : Answer → List ℕ
  needs a = a.words ∷ a.constants ∷ a.columns ∷ a.columns ∷ a.columns ∷ a.rows ∷ a.rows ∷ []

  abbrev short_of : Answer → List ℕ → Fault
  short_of a lent = first 7 (λ i. unless (leb (get_or (needs a) i 0) (get_or lent i 0)) (fault 12 (i + 1)))

  short_is : (lent : List ℕ) {answer : Answer} → answer ≡ accepted ws xs → short_of answer lent ≡ fault_short ws xs lent
  unfolding accepted fault_short lengths
  short_is lent e = ap (λ a. short_of a lent) e

  module _ (sound : clear ≡ network_fault ws xs) (lent : List ℕ) {answer : Answer} {short : Fault} (is : answer ≡ accepted ws xs) (s : short ≡ short_of answer lent) where
    fault_is : short ≡ compile_fault ws xs lent
    fault_is = s ∙ short_is lent is ∙ sym (compile_is ws xs lent ∙ or_go (network_fault ws xs) (fault_short ws xs lent) (ap (λ x. x.number) (sym sound)))

    pub decided_short : (Clear short → ⊥) → refused short ≡ compiled ws xs lent
    decided_short n = compiled_refused lent fault_is n

    pub decided_accepted : Clear short → answer ≡ compiled ws xs lent
    decided_accepted c = is ∙ compiled_accepted lent (ap (λ x. x.number) (sym fault_is) ∙ c)
