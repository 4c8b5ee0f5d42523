-- Laws for loops that look for the first fault, and for chains of faults: one turn, the turn that refuses, and the end.
use mathlib.Core.Path.{◌≡◌, refl, ap, sym, ◌∙◌}
use mathlib.Core.Bool.{Bool, true, false}
use Prim.Native.Nat.{ℕ, zero, suc, ◌+◌, ◌-◌, ◌<◌}
use native.Mathlib.Nat.{add-zero, add-suc}
use native.Mathlib.Numerals.{add-one}
use native.Mathlib.Omega.{arith}
use Rattle.base.specs.Fault.{fault, clear, unless, or_else, first}
use Rattle.base.specs.Loop.{loop}
use Rattle.base.specs.Fault.{Fault}
use Rattle.base.proofs.Firsts.{Clear, Proper, or_go, or_stop, or_clear, unless_clear, first_proper}

module _ (f : ℕ → Fault) where
  pub first_none : Clear (first 0 f)
  unfolding first loop
  first_none = refl

  pub first_more : (i : ℕ) → Clear (first i f) → Clear (f i) → Clear (first (i + 1) f)
  unfolding first loop
  first_more i h k = rw add-one (or_clear (first i f) (f i) h k)

  pub first_step : (i : ℕ) (here : Fault) → Clear (first i f) → here ≡ f i → Clear here → Clear (first (i + 1) f)
  first_step i here h e k = first_more i h (rw e at k)

  -- once found, it stays
  first_stays : (i d : ℕ) → (Clear (first i f) → ⊥) → first (i + d) f ≡ first i f
  unfolding first loop
  first_stays i zero e = rw add-zero
  first_stays i (suc d) e = let r = first_stays i d e in rw add-suc (or_stop (first (i + d) f) (f (i + d)) (λ z. e (rw r at z)) ∙ r)

  -- none before i, one at i
  pub first_here : (n i : ℕ) (here : Fault) → i < n → Clear (first i f) → here ≡ f i → (Clear here → ⊥) → here ≡ first n f
  unfolding first loop
  first_here n i here l none e ne =
      let s : first (suc i) f ≡ here = or_go (first i f) (f i) none ∙ sym e in
      let q : suc i + (n - suc i) ≡ n = omega arith in
      sym (rw q at (first_stays (suc i) (n - suc i) (λ z. ne (rw s at z))) ∙ s)

  pub first_done : (n i : ℕ) → n ≡ i → ((j : ℕ) → Proper (f j)) → Clear (first i f) → clear ≡ first n f
  first_done n i e p h = rw e (sym (first_proper i f p h))

-- the same where each fault hangs on a test
module _ (t : ℕ → Bool) (number : ℕ) (place : ℕ → ℕ) where
  abbrev tested : ℕ → Fault
  tested j = unless (t j) (fault number (place j))

  pub test_more : (i : ℕ) → t i ≡ true → Clear (first i tested) → Clear (first (i + 1) tested)
  test_more i e h = first_more tested i h (ap (λ z. z.number) (unless_clear (t i) (fault number (place i)) e))

  pub test_here : (n i : ℕ) → 0 < number → i < n → t i ≡ false → Clear (first i tested) → fault number (place i) ≡ first n tested
  unfolding unless
  test_here n i p l e h = first_here tested n i (fault number (place i)) l h (rw e) (λ z. omega arith)

-- ---- a chain: a link that finds nothing, and one that does

pub link_go : (whole a b here : Fault) → whole ≡ or_else a b → here ≡ a → Clear here → whole ≡ b
link_go whole a b here w e q = w ∙ or_go a b (ap (λ z. z.number) (sym e) ∙ q)

pub link_stop : (whole a b here : Fault) → whole ≡ or_else a b → here ≡ a → (Clear here → ⊥) → here ≡ whole
link_stop whole a b here w e q = sym (w ∙ or_stop a b (λ z. q (ap (λ y. y.number) e ∙ z)) ∙ sym e)
