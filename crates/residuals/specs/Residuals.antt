-- Document 01, "The accepted point": the eight residuals of a point. fs are the flows.
use Rattle.std.specs.Prelude.{ℕ, Bool, cond, List, [], ◌∷◌, get_or, Float}
use Rattle.std.specs.Float.{nan}
use Rattle.base.specs.Loop.{loop}
use Rattle.float.specs.Number.{◌⊖◌, ◌⊘◌, zero64, one64, absolute, maximum}
use Rattle.fdlibm.specs.Hypot.{hypotenuse}
use Rattle.network.specs.Network.{buses, generators, branches, references, from, to, angled, referred, curved, columns}
use Rattle.network.specs.Network.{angle_min, angle_max, s_max}
use Rattle.bounds.specs.Bounds.{positive_violation}
use Rattle.piecewise_cost.specs.Curve.{curve_value}
use Rattle.acopf.specs.Columns.{column_lower, column_upper}
use Rattle.acopf.specs.Rows.{rated}
use Rattle.derived.specs.Outputs.{va, pg, epigraph, withdrawn, p_injection, q_injection, p_from, q_from, p_to, q_to, own_objective}

-- the largest of 0 and f 0 .. f (count - 1); and of those that pass the test
unfoldable pub largest : ℕ → (ℕ → Float) → Float
unfolding loop
largest count f = loop (λ r i. maximum r (f i)) zero64 count

unfoldable pub largest_where : ℕ → (ℕ → Bool) → (ℕ → Float) → Float
unfolding loop
largest_where count test f = loop (λ r i. cond (test i) (maximum r (f i)) r) zero64 count

module _ (ws : List ℕ) (xs x : List Float) (fs : List (List Float)) where
  unfoldable pub p_balance : ℕ → Float
  p_balance i = withdrawn ws i (p_from fs) (p_to fs) (p_injection ws xs x i)

  unfoldable pub q_balance : ℕ → Float
  q_balance i = withdrawn ws i (q_from fs) (q_to fs) (q_injection ws xs x i)

  -- 1 active balance
  unfoldable pub active_balance : Float
  active_balance = largest (buses ws) (λ i. absolute (p_balance i))

  -- 2 reactive balance
  unfoldable pub reactive_balance : Float
  reactive_balance = largest (buses ws) (λ i. absolute (q_balance i))

  -- 6 thermal limits, of branches with an active limit and s_max above 0
  unfoldable pub thermal_limits : Float
  thermal_limits =
      largest_where (branches ws) (rated ws xs)
      (λ b. maximum (maximum (hypotenuse (p_from fs b) (q_from fs b)) (hypotenuse (p_to fs b) (q_to fs b)) ⊖ s_max ws xs b) zero64)

module _ (ws : List ℕ) (xs x : List Float) where
  -- 3 variable bounds
  unfoldable pub variable_bounds : Float
  variable_bounds =
      let lower = column_lower ws xs in
      let upper = column_upper ws xs in
      largest (columns ws) (λ j. positive_violation (get_or x j nan) (get_or lower j nan) (get_or upper j nan))

  -- 4 reference angles
  unfoldable pub reference_angles : Float
  reference_angles = largest (references ws) (λ r. absolute (va ws x (referred ws r)))

  -- 5 angle limits, of branches with an active angle bound
  unfoldable pub angle_limits : Float
  angle_limits =
      largest_where (branches ws) (angled ws)
      (λ b. positive_violation (va ws x (from ws b) ⊖ va ws x (to ws b)) (angle_min ws xs b) (angle_max ws xs b))

  -- 7 epigraph, of generators with an epigraph column
  unfoldable pub epigraphs : Float
  epigraphs = largest_where (generators ws) (curved ws) (λ g. maximum (curve_value ws xs g (pg ws x g) ⊖ epigraph ws x g) zero64)

  -- 8 objective difference over max(1, absolute objective)
  unfoldable pub objective_difference : Float → Float
  objective_difference solver =
      let own = own_objective ws xs x in
      absolute (solver ⊖ own) ⊘ maximum (absolute own) one64

  unfoldable pub residuals : List (List Float) → Float → List Float
  residuals fs solver =
      active_balance ws xs x fs ∷ reactive_balance ws xs x fs ∷ variable_bounds ∷ reference_angles
      ∷ angle_limits ∷ thermal_limits ws xs x fs ∷ epigraphs ∷ objective_difference solver ∷ []
