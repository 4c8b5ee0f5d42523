-- The rows and the objective of a network's model have no sine or cosine.
use mathlib.Core.Path.{refl}
use mathlib.Core.Bool.{Bool, true, false, cond}
use mathlib.Core.List.{List, [], ◌∷◌, ◌++◌}
use Prim.Native.Nat.{ℕ, ◌+◌, ◌*◌}
use lib.Dec.{eqb}
use lib.Ieee.{Float, neg}
use Rattle.base.specs.Loop.{each, keep}
use Rattle.base.proofs.Loops.{Every, every_cons, every_append, every_table, every_each, every_keep, every_cond}
use Rattle.float.specs.Number.{◌⊗◌, one64, half64}
use Rattle.nl.specs.Expr.{column, shared}
use Rattle.network.specs.Network.{buses, generators, branches, references, costs, bus_of, from, to, angled, segments, curved, pg_column, epigraph_column, cost_q, cost_c}
use Rattle.acopf.specs.Build.{literal, add, subtract, square, scaled, sum}
use Rattle.acopf.specs.Rows.{Row, balance_row, p_balance_row, q_balance_row, rated, thermal_rows, segment_row, segment_rows, rows}
use Rattle.acopf.specs.Model.{cost_term, objective}
use Rattle.valued.proofs.InRange.{InRange, in_literal, in_column, in_shared, in_one, in_two, in_scaled, in_sum}

abbrev pub RowInRange : List Float → List Float → ℕ → Row → Type 0
RowInRange point values i r = InRange point values r.expression

module _ (ws : List ℕ) (xs point values : List Float) where
  balance_in : (i : ℕ) (demand shunt : Float) (gc af at : ℕ → ℕ) → InRange point values (balance_row ws xs i demand shunt gc (λ b. shared (af b)) (λ b. shared (at b))).expression
  unfolding balance_row
  balance_in i demand shunt gc af at = in_sum all
    where
      all : Every (λ i. InRange point values) 0 (
          literal demand ∷ scaled shunt (shared i) ∷ each (generators ws) (λ g. keep (eqb (bus_of ws g) i) (column (gc g)))
          ++ each (branches ws) (λ b. keep (eqb (from ws b) i) (scaled (neg one64) (shared (af b))) ++ keep (eqb (to ws b) i) (scaled (neg one64) (shared (at b)))))
      all =
          every_cons (in_literal demand) (every_cons (in_scaled shunt (in_shared i))
          (every_append (every_each (generators ws) _ (λ g l. every_keep (eqb (bus_of ws g) i) _ (λ e. in_column (gc g))))
          (every_each (branches ws) _ (λ b l.
          every_append (every_keep (eqb (from ws b) i) _ (λ e. in_scaled (neg one64) (in_shared (af b))))
          (every_keep (eqb (to ws b) i) _ (λ e. in_scaled (neg one64) (in_shared (at b))))))))

  thermal_in : (x : Float) (p q : ℕ) → InRange point values (subtract (literal x) (add (square (shared p)) (square (shared q))))
  thermal_in x p q = in_two refl (in_literal x) (in_two refl (in_one refl (in_shared p)) (in_one refl (in_shared q)))

  segment_in : (g s : ℕ) → InRange point values (segment_row ws xs g s).expression
  unfolding segment_row
  segment_in g s = in_two refl (in_column _) (in_two refl (in_scaled _ (in_column _)) (in_literal _))

  pub rows_in : Every (RowInRange point values) 0 (rows ws xs)
  unfolding rows p_balance_row q_balance_row thermal_rows segment_rows
  rows_in =
      every_append (every_append (every_append (every_append (every_append
      (every_table (buses ws) _ (λ i l. balance_in i _ _ _ (λ b. buses ws + 8 * b + 4) (λ b. buses ws + 8 * b + 6)))
      (every_table (buses ws) _ (λ i l. balance_in i _ _ _ (λ b. buses ws + 8 * b + 5) (λ b. buses ws + 8 * b + 7))))
      (every_table (references ws) _ (λ r l. in_column _)))
      (every_each (branches ws) _ (λ b l. every_keep (angled ws b) _ (λ e. in_two refl (in_column _) (in_column _)))))
      (every_each (branches ws) _ (λ b l.
      every_append (every_keep (rated ws xs b) _ (λ e. thermal_in _ _ _)) (every_keep (rated ws xs b) _ (λ e. thermal_in _ _ _)))))
      (every_each (generators ws) _ (λ g l. every_cond (curved ws g) _ (λ c. every_table (segments ws g) _ (λ s m. segment_in g s))))

  cost_in : (g : ℕ) → InRange point values (cost_term ws xs g)
  unfolding cost_term
  cost_in g = go (curved ws g)
    where
      go : (b : Bool) → InRange point values (cond b (column (epigraph_column ws g)) (sum (
          scaled (half64 ⊗ cost_q ws xs g) (square (column (pg_column ws g))) ∷ scaled (cost_c ws xs g) (column (pg_column ws g)) ∷ [])))
      go true = in_column _
      go false = in_two refl (in_scaled _ (in_one refl (in_column _))) (in_scaled _ (in_column _))

  pub objective_in : InRange point values (objective ws xs)
  unfolding objective
  objective_in = in_sum {i = 0} (every_cond (costs ws) _ (λ c. every_table (generators ws) (cost_term ws xs) (λ g l. cost_in g)))
