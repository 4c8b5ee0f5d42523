-- What the check's last steps ask and answer.
use Rattle.std.specs.Prelude.{ℕ, ◌+◌, ◌*◌, ◌≤◌, ◌≡◌, List, length, replicate, Float, Result, Ok, Err}
use Rattle.base.specs.Fault.{Fault}
use Rattle.base.specs.declared.refusal.Refusal.{Refusal}
use Rattle.base.specs.Fault.{shown, or_else}
use Rattle.float.specs.Number.{zero64}
use Rattle.network.specs.Network.{buses, branches}
use Rattle.acopf.specs.Factor.{network_fault}
use Rattle.validate.specs.declared.Checked.{Checked}
use Rattle.validate.specs.Tolerances.{fault_tolerance}
use Rattle.validate.specs.Check.{Answer, answer_of, fault_output, fault_point, fault_swing, checked, outputs_after}

-- 13, then 14
abbrev pub fault_given : List ℕ → List Float → List Float → Float → Fault
fault_given ws xs x solver = or_else (fault_point ws xs x solver) (fault_swing ws xs x solver)

-- 12, then 20, of what is lent with the point: the tolerances and an output list of length n
abbrev pub fault_lent : List ℕ → List Float → List Float → Float → List Float → ℕ → Fault
fault_lent ws xs x solver ts n = or_else (fault_output ws xs x solver n) (fault_tolerance ts)

-- refusals 1 to 14 are clear; `before` is what comes before 13: 12, and in the check 20
pub record Cleared (ws : List ℕ) (xs x : List Float) (solver : Float) (before : Fault) : Type 0 where
  pub network : (network_fault ws xs).number ≡ 0
  pub lent : before.number ≡ 0
  pub given : (fault_given ws xs x solver).number ≡ 0

-- what 1 to 14 and 20 leave of the check: an output list of length n has room
pub record Opened (ws : List ℕ) (xs x : List Float) (solver : Float) (ts : List Float) (n : ℕ) : Type 0 where
  pub room : 2 * buses ws + 4 * branches ws ≤ n
  pub cleared : Cleared ws xs x solver (fault_lent ws xs x solver ts n)

-- "A refusal gives number and place, all else 0"
abbrev pub refusal : Fault → Answer
refusal f = record { fault = f; objective = zero64; residuals = replicate 8 zero64 }

abbrev pub answer_in : Result Checked Refusal → Answer
answer_in (Ok c) = answer_of c
answer_in (Err r) = refusal (shown r)

-- the check's answer r, and the output list that held `before` and now holds `after`
abbrev pub Answers : List ℕ → List Float → List Float → Float → List Float → List Float → List Float → Answer → Type 0
Answers ws xs x solver ts before after r =
    (r ≡ checked ws xs x solver ts (length before)) × (after ≡ outputs_after ws xs x solver ts before)
