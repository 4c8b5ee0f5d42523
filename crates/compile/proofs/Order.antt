-- A refusal of compile is the first: 12 only where 1 to 11 are clear, and then of the first list that is short.
use mathlib.Core.Path.{◌≡◌, refl}
use mathlib.Core.List.{List, [], ◌∷◌}
use Prim.Native.Nat.{ℕ, ◌+◌}
use native.Mathlib.Omega.{arith}
use lib.ListN.{get_or}
use lib.Dec.{leb}
use lib.Ieee.{Float}
use Rattle.base.specs.Fault.{or_else, section}
use Rattle.base.specs.Order.{IsFirst}
use Rattle.base.proofs.Firsts.{Clear, Spans, spans_unless, spans_first, FirstFail, first_fails}
use Rattle.base.proofs.Order.{AllGive, gives_one, give_append, first_append, refusal_is_first}
use Rattle.acopf.specs.Factor.{network_sections, network_fault}
use Rattle.acopf.proofs.Order.{network_give}
use Rattle.compile.specs.Compile.{lengths, fault_short, compile_sections, compile_fault}

module _ (ws : List ℕ) (xs : List Float) where
  short_spans : (lent : List ℕ) → Spans 12 12 (fault_short ws xs lent)
  unfolding fault_short
  short_spans lent = spans_first _ (λ i. spans_unless _ 12 _ (omega arith) (omega arith))

  compile_give : (lent : List ℕ) → AllGive (compile_sections ws xs lent)
  compile_give lent = give_append (network_sections ws xs) (section (12 ∷ []) (fault_short ws xs lent) ∷ []) (network_give ws xs) (gives_one (short_spans lent), tt)

  pub compile_refusal : (lent : List ℕ) → (Clear (compile_fault ws xs lent) → ⊥) → IsFirst (compile_fault ws xs lent) (compile_sections ws xs lent)
  unfolding compile_fault
  compile_refusal lent c = refusal_is_first (compile_sections ws xs lent) (compile_give lent) refl c

  -- the network's first, else 12
  pub compile_is : (lent : List ℕ) → compile_fault ws xs lent ≡ or_else (network_fault ws xs) (fault_short ws xs lent)
  unfolding compile_fault network_fault
  compile_is lent = first_append (network_sections ws xs) (section (12 ∷ []) (fault_short ws xs lent) ∷ []) tt

  -- "output list short; its number from 1": the first that is
  pub short_place : (lent : List ℕ) → (Clear (fault_short ws xs lent) → ⊥) → FirstFail 7 (λ i. leb (get_or (lengths ws xs) i 0) (get_or lent i 0)) 12 (λ i. i + 1) (fault_short ws xs lent)
  unfolding fault_short
  short_place lent c = first_fails 7 (λ i. leb (get_or (lengths ws xs) i 0) (get_or lent i 0)) 12 (λ i. i + 1) (omega arith) c
