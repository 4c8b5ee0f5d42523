-- What the check's scratch holds: each bus's voltage in one list, and in another the outputs in their order.
use Rattle.std.specs.Prelude.{List, ℕ, ◌+◌, ◌*◌, ◌<◌, ◌≤◌, ◌≡◌, length, get_or, Float}
use Rattle.std.specs.Float.{nan}
use Rattle.std.specs.Float.Ieee.{neg}
use Rattle.float.specs.Number.{◌⊕◌, ◌⊖◌, ◌⊗◌}
use Rattle.network.specs.Network.{p_d, q_d, g_s, b_s}
use Rattle.network.specs.declared.layout.Layout.{Layout}
use Rattle.pi_model.specs.declared.complex.Complex.{Complex}
use Rattle.pi_model.specs.declared.flow.Flows.{Flows}
use Rattle.pi_model.specs.Flow.{complex, voltage}
use Rattle.derived.specs.internal.Agree.{At, PerBus}
use Rattle.derived.specs.Outputs.{vm, p_injection, q_injection, flows, p_from, q_from, p_to, q_to}

-- the list holds each bus's voltage
abbrev pub VoltagesAre : List ℕ → List Float → Layout → List Complex → Type 0
VoltagesAre ws x l list = (i : ℕ) → i < l.buses → get_or list i (complex nan nan) ≡ voltage ws x i

-- what bus i takes, before any generator or branch: its demand, and its shunt at the voltage's square
module _ (ws : List ℕ) (xs x : List Float) (i : ℕ) where
  abbrev pub p_demand : Float
  p_demand = neg (p_d ws xs i) ⊖ g_s ws xs i ⊗ (vm ws x i ⊗ vm ws x i)

  abbrev pub q_demand : Float
  q_demand = neg (q_d ws xs i) ⊕ b_s ws xs i ⊗ (vm ws x i ⊗ vm ws x i)

-- the injections of n buses are the list's first 2n numbers
abbrev pub InjectionsAre : List ℕ → List Float → List Float → Layout → List Float → Type 0
InjectionsAre ws xs x l = PerBus l.buses l.buses (p_injection ws xs x) (q_injection ws xs x)

-- f is branch b's of the flows fs
pub record FlowIs (fs : List (List Float)) (b : ℕ) (f : Flows) : Type 0 where
  pub p_from_is : f.p_from ≡ p_from fs b
  pub q_from_is : f.q_from ≡ q_from fs b
  pub p_to_is : f.p_to ≡ p_to fs b
  pub q_to_is : f.q_to ≡ q_to fs b

-- behind them, fs being the flows: those of the first `count` of m branches, all p_from, all q_from, all p_to, all q_to
pub record FlowsAre (fs : List (List Float)) (n m count : ℕ) (l : List Float) : Type 0 where
  pub p_from_is : At count (λ b. 2 * n + b) (p_from fs) l
  pub q_from_is : At count (λ b. 2 * n + m + b) (q_from fs) l
  pub p_to_is : At count (λ b. 2 * n + 2 * m + b) (p_to fs) l
  pub q_to_is : At count (λ b. 2 * n + 3 * m + b) (q_to fs) l

-- the list's front is the outputs of the point x
pub record Filled (ws : List ℕ) (xs x : List Float) (l : Layout) (list : List Float) : Type 0 where
  pub room : 2 * l.buses + 4 * l.branches ≤ length list
  pub injections_are : InjectionsAre ws xs x l list
  pub flows_are : FlowsAre (flows ws xs x) l.buses l.branches l.branches list
