-- Document 01, "The accepted point": the outputs and the objective that validate_primal works out from a point (000).
use Rattle.std.specs.Prelude.{ℕ, cond, List, [], ◌++◌, get_or, eqb, Float}
use Rattle.std.specs.Float.{nan}
use Rattle.std.specs.Float.Ieee.{neg}
use Rattle.base.specs.Loop.{loop, table}
use Rattle.float.specs.Number.{◌⊕◌, ◌⊖◌, ◌⊗◌, zero64, half64}
use Rattle.network.specs.Network.{buses, generators, branches, costs, bus_of, from, to, curved}
use Rattle.network.specs.Network.{va_column, vm_column, pg_column, qg_column, epigraph_column, p_d, q_d, g_s, b_s, cost_q, cost_c, cost0}
use Rattle.piecewise_cost.specs.Curve.{curve_value}
use Rattle.pi_model.specs.Flow.{flow}

-- the point x: a number for each column
module _ (ws : List ℕ) (x : List Float) where
  abbrev pub va : ℕ → Float
  va i = get_or x (va_column ws i) nan

  abbrev pub vm : ℕ → Float
  vm i = get_or x (vm_column ws i) nan

  abbrev pub pg : ℕ → Float
  pg g = get_or x (pg_column ws g) nan

  abbrev pub qg : ℕ → Float
  qg g = get_or x (qg_column ws g) nan

  abbrev pub epigraph : ℕ → Float
  epigraph g = get_or x (epigraph_column ws g) nan

module _ (ws : List ℕ) where
  -- s plus what each of bus i's generators puts out
  unfoldable pub injected : ℕ → (ℕ → Float) → Float → Float
  injected i output start = loop (λ s g. cond (eqb (bus_of ws g) i) (s ⊕ output g) s) start (generators ws)

  -- s less what each of bus i's branches takes, at its from end, then at its to end
  unfoldable pub withdrawn : ℕ → (ℕ → Float) → (ℕ → Float) → Float → Float
  withdrawn i at_from at_to start =
      loop (λ s b.
      let r = cond (eqb (from ws b) i) (s ⊖ at_from b) s in
      cond (eqb (to ws b) i) (r ⊖ at_to b) r) start (branches ws)

module _ (ws : List ℕ) (xs x : List Float) where
  unfoldable pub p_injection : ℕ → Float
  p_injection i = injected ws i (pg ws x) (neg (p_d ws xs i) ⊖ g_s ws xs i ⊗ (vm ws x i ⊗ vm ws x i))

  unfoldable pub q_injection : ℕ → Float
  q_injection i = injected ws i (qg ws x) (neg (q_d ws xs i) ⊕ b_s ws xs i ⊗ (vm ws x i ⊗ vm ws x i))

  -- what generator g costs, and the objective, added from the left
  unfoldable pub cost : ℕ → Float
  cost g =
      let p = pg ws x g in
      cond (curved ws g) (curve_value ws xs g p) (half64 ⊗ cost_q ws xs g ⊗ (p ⊗ p) ⊕ cost_c ws xs g ⊗ p ⊕ cost0 ws xs g)

  unfoldable pub own_objective : Float
  own_objective = cond (costs ws) (loop (λ s g. s ⊕ cost g) zero64 (generators ws)) zero64

  -- the four flows of each branch
  unfoldable pub flows : List (List Float)
  flows = table (branches ws) (flow ws xs x)

-- fs are the flows
module _ (fs : List (List Float)) where
  abbrev pub p_from : ℕ → Float
  p_from b = get_or (get_or fs b []) 0 nan

  abbrev pub q_from : ℕ → Float
  q_from b = get_or (get_or fs b []) 1 nan

  abbrev pub p_to : ℕ → Float
  p_to b = get_or (get_or fs b []) 2 nan

  abbrev pub q_to : ℕ → Float
  q_to b = get_or (get_or fs b []) 3 nan

module _ (ws : List ℕ) (xs x : List Float) (fs : List (List Float)) where
  -- "all p injections, all q injections, then all p_from, all q_from, all p_to, all q_to, one f64 list of 2n + 4m numbers"
  unfoldable pub outputs : List Float
  outputs =
      table (buses ws) (p_injection ws xs x) ++ table (buses ws) (q_injection ws xs x)
      ++ table (branches ws) (p_from fs) ++ table (branches ws) (q_from fs) ++ table (branches ws) (p_to fs) ++ table (branches ws) (q_to fs)
