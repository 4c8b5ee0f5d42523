-- One turn of each loop of the residuals, in the code's terms: every index is in range, and what the turn adds is the definition's.
use mathlib.Core.Path.{◌≡◌, ap, ◌∙◌}
use mathlib.Core.Bool.{Bool, cond, ◌&&◌}
use mathlib.Core.List.{List, [], ◌∷◌}
use Prim.Native.Nat.{ℕ, ◌+◌, ◌-◌, ◌*◌, ◌≤◌}
use native.Mathlib.Nat.{zero-add}
use native.Mathlib.Omega.{arith}
use lib.Ieee.{Float}
use Rattle.std.specs.Float.Ieee.{lt}
use lib.ListN.{length, take, drop, length-take, length-drop}
use Rattle.std.proofs.lemmas.List.{length-take-le}
use Rattle.float.specs.Number.{◌⊖◌, ◌⊘◌, absolute, maximum, zero64, one64}
use Rattle.fdlibm.specs.Hypot.{hypotenuse}
use Rattle.bounds.specs.Bounds.{positive_violation}
use Rattle.network.specs.Network.{buses, from, to, angled, number, angle_min, angle_max, s_max}
use Rattle.network.specs.declared.layout.Layout.{Layout}
use Rattle.network.specs.declared.records.Branch.{Branch}
use Rattle.network.specs.internal.Records.{BranchRead}
use Rattle.acopf.specs.Rows.{rated}
use Rattle.derived.specs.internal.Agree.{PerBus}
use Rattle.derived.specs.Outputs.{va, own_objective, withdrawn, p_injection, q_injection, p_from, q_from, p_to, q_to}
use Rattle.residuals.specs.Residuals.{largest, largest_where, p_balance, q_balance, active_balance, reactive_balance, variable_bounds, reference_angles, angle_limits, thermal_limits, epigraphs, objective_difference, residuals}
use Rattle.residuals.proofs.Section.{largest_same, front_part, inner_part, where_next}

-- ---- a branch

-- what a branch adds to residual 5
abbrev pub angle_off : List ℕ → List Float → List Float → ℕ → Float
angle_off ws xs x b = positive_violation (va ws x (from ws b) ⊖ va ws x (to ws b)) (angle_min ws xs b) (angle_max ws xs b)

-- and to residual 6, where the flows are fs
abbrev pub flow_off : List ℕ → List Float → List (List Float) → ℕ → Float
flow_off ws xs fs b = maximum (maximum (hypotenuse (p_from fs b) (q_from fs b)) (hypotenuse (p_to fs b) (q_to fs b)) ⊖ s_max ws xs b) zero64

module _ {ws : List ℕ} {xs : List Float} {l : Layout} {b : ℕ} {r : Branch} {most next : Float} (B : BranchRead ws xs l b r) where
  pub angle_turn : (x : List Float) → most ≡ largest_where b (angled ws) (angle_off ws xs x)
      → next ≡ cond r.angled (maximum most (positive_violation (va ws x r.from ⊖ va ws x r.to) r.angle_min r.angle_max)) most
      → next ≡ largest_where (b + 1) (angled ws) (angle_off ws xs x)
  angle_turn x e h = where_next (angled ws) (angle_off ws xs x) b most next e (h ∙ rw B.is)

  pub thermal_turn : {on : Bool} → on ≡ (r.limited && lt zero64 r.s_max) → (fs : List (List Float)) → most ≡ largest_where b (rated ws xs) (flow_off ws xs fs)
      → next ≡ cond on (maximum most (maximum (maximum (hypotenuse (p_from fs b) (q_from fs b)) (hypotenuse (p_to fs b) (q_to fs b)) ⊖ r.s_max) zero64)) most
      → next ≡ largest_where (b + 1) (rated ws xs) (flow_off ws xs fs)
  thermal_turn o fs e h = where_next (rated ws xs) (flow_off ws xs fs) b most next e (h ∙ rw (o, B.is))

-- ---- what the residuals' functions say is the definitions'

module _ (ws : List ℕ) (xs x : List Float) (fs : List (List Float)) (n : ℕ) (list : List Float) {r : Float} (counted : n ≡ buses ws) (room : 2 * n ≤ length list)
    (B : PerBus n n (λ i. withdrawn ws i (p_from fs) (p_to fs) (p_injection ws xs x i)) (λ i. withdrawn ws i (q_from fs) (q_to fs) (q_injection ws xs x i)) list) where
  pub active_is : r ≡ largest (length (take n list)) (λ i. absolute (number (take n list) i)) → r ≡ active_balance ws xs x fs
  unfolding active_balance p_balance
  active_is e =
      let size : length (take n list) ≡ n = length-take-le n list (omega arith) in
      rw (← counted) (e ∙ rw size (largest_same n _ _ (λ i h. ap absolute (front_part list n i h ∙ rw zero-add (B.one i h)))))

  pub reactive_is : r ≡ largest (length (take (2 * n - n) (drop n list))) (λ i. absolute (number (take (2 * n - n) (drop n list)) i)) → r ≡ reactive_balance ws xs x fs
  unfolding reactive_balance q_balance
  reactive_is e =
      let size : length (take (2 * n - n) (drop n list)) ≡ n = simp (length-take, length-drop) (omega arith) in
      rw (← counted) (e ∙ rw size (largest_same n _ _ (λ i h. ap absolute (inner_part list n n (2 * n - n) (omega arith) i h ∙ B.two i h))))

pub difference_is : (ws : List ℕ) (xs x : List Float) (solver own r : Float) → own ≡ own_objective ws xs x → r ≡ absolute (solver ⊖ own) ⊘ maximum (absolute own) one64 → r ≡ objective_difference ws xs x solver
unfolding objective_difference
difference_is ws xs x solver own r e h = rw e at h

pub residuals_are : (ws : List ℕ) (xs x : List Float) (fs : List (List Float)) (solver a b c d e f g h : Float) → a ≡ active_balance ws xs x fs → b ≡ reactive_balance ws xs x fs → c ≡ variable_bounds ws xs x
    → d ≡ reference_angles ws xs x → e ≡ angle_limits ws xs x → f ≡ thermal_limits ws xs x fs → g ≡ epigraphs ws xs x → h ≡ objective_difference ws xs x solver
    → a ∷ b ∷ c ∷ d ∷ e ∷ f ∷ g ∷ h ∷ [] ≡ residuals ws xs x fs solver
unfolding residuals
residuals_are ws xs x fs solver a b c d e f g h p q r s t u v w = rw (p, q, r, s, t, u, v, w)
