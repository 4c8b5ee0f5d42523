-- Document 01, "The model file": the shared parts, by 000's branch_flow and vm_squared.
use Rattle.std.specs.Prelude.{ℕ, ◌+◌, ◌*◌, List, [], ◌∷◌, ◌++◌, get_or, Float}
use Rattle.std.specs.Float.{nan}
use Rattle.base.specs.Loop.{table, each}
use Rattle.nl.specs.Expr.{Expr, column, shared}
use Rattle.network.specs.Network.{buses, branches, from, to, va_column, vm_column}
use Rattle.pi_model.specs.Flow.{coefficients}
use Rattle.acopf.specs.Build.{subtract, multiply, square, cosine_of, sine_of, scaled, sum}

module _ (ws : List ℕ) where
  abbrev pub vm_squared : ℕ → Expr
  vm_squared i = shared i

  -- part j, from 0, of branch b's eight
  abbrev pub branch_part : ℕ → ℕ → Expr
  branch_part b j = shared (buses ws + 8 * b + j)

  abbrev pub angle : ℕ → Expr
  angle b = branch_part b 0

  abbrev pub voltage_product : ℕ → Expr
  voltage_product b = branch_part b 1

  abbrev pub wr : ℕ → Expr
  wr b = branch_part b 2

  abbrev pub wi : ℕ → Expr
  wi b = branch_part b 3

  abbrev pub p_from_part : ℕ → Expr
  p_from_part b = branch_part b 4

  abbrev pub q_from_part : ℕ → Expr
  q_from_part b = branch_part b 5

  abbrev pub p_to_part : ℕ → Expr
  p_to_part b = branch_part b 6

  abbrev pub q_to_part : ℕ → Expr
  q_to_part b = branch_part b 7

  -- from angle minus to angle
  abbrev pub angle_difference : ℕ → Expr
  angle_difference b = subtract (column (va_column ws (from ws b))) (column (va_column ws (to ws b)))

module _ (ws : List ℕ) (xs : List Float) where
  -- three coefficients of cs, from j on, times vm squared, wr and wi
  abbrev pub flow_sum : ℕ → List Float → ℕ → Expr → Expr
  flow_sum b cs j vm² =
      sum (scaled (get_or cs j nan) vm² ∷ scaled (get_or cs (j + 1) nan) (wr ws b) ∷ scaled (get_or cs (j + 2) nan) (wi ws b) ∷ [])

  -- branch_flow: "angle, voltage product, wr, wi, p_from, q_from, p_to, q_to"
  unfoldable pub branch_parts : ℕ → List Expr
  branch_parts b =
      let cs = coefficients ws xs b in
      angle_difference ws b
      ∷ multiply (column (vm_column ws (from ws b))) (column (vm_column ws (to ws b)))
      ∷ multiply (voltage_product ws b) (cosine_of (angle ws b))
      ∷ multiply (voltage_product ws b) (sine_of (angle ws b))
      ∷ flow_sum b cs 0 (vm_squared ws (from ws b))
      ∷ flow_sum b cs 3 (vm_squared ws (from ws b))
      ∷ flow_sum b cs 6 (vm_squared ws (to ws b))
      ∷ flow_sum b cs 9 (vm_squared ws (to ws b)) ∷ []

  -- "Shared: vm squared per bus; then eight per branch"
  unfoldable pub shared_parts : List Expr
  shared_parts = table (buses ws) (λ i. square (column (vm_column ws i))) ++ each (branches ws) branch_parts
