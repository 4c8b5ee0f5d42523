-- The lent list after an accepted point.
use mathlib.Core.Path.{◌≡◌, ap, sym}
use mathlib.Core.List.{List}
use Prim.Native.Nat.{ℕ, ◌+◌, ◌*◌}
use lib.ListN.{length, take}
use lib.Ieee.{Float}
use lib.Dec.{leb}
use native.Mathlib.Omega.{arith}
use borrow.Author.Tests.{eq-eqb, le-leb}
use Rattle.base.specs.Fault.{fault, clear}
use Rattle.base.proofs.Firsts.{Clear, unless_clear}
use Rattle.base.proofs.Left.{left_front}
use Rattle.network.specs.Network.{buses, branches}
use Rattle.acopf.specs.Factor.{network_fault}
use Rattle.validate.specs.Check.{outputs_needed, fault_output, solved, check_fault, outputs_after}
use Rattle.derived.specs.Outputs.{flows, outputs}
use Rattle.derived.proofs.Outputs.{length_outputs}

-- the lent list then holds the outputs in front
pub outputs_front : (ws : List ℕ) (xs x : List Float) (solver : Float) (ts before : List Float) → check_fault ws xs x solver ts (length before) ≡ clear
    → take (2 * buses ws + 4 * branches ws) (outputs_after ws xs x solver ts before) ≡ outputs ws xs x (flows ws xs x)
unfolding solved
outputs_front ws xs x solver ts before e =
    left_front (check_fault ws xs x solver ts (length before)) (outputs ws xs x (flows ws xs x)) before (2 * buses ws + 4 * branches ws) (ap (λ f. f.number) e) (sym (length_outputs ws xs x (flows ws xs x)))

-- a list of the length that the network alone gives is never too short
pub needed_suffices : (ws : List ℕ) (xs x : List Float) (solver : Float) → Clear (network_fault ws xs) → fault_output ws xs x solver (outputs_needed ws xs) ≡ clear
unfolding fault_output outputs_needed
needed_suffices ws xs x solver c =
    let n = 2 * buses ws + 4 * branches ws in
    rw (eq-eqb (network_fault ws xs).number 0 c) (unless_clear (leb n n) (fault 12 1) (le-leb n n (omega arith)))
