-- A property of every constant of the model, by its bits: for all rows but the segments' and for the objective it follows from the property
-- of the numbers that become constants.
use mathlib.Core.Path.{◌≡◌}
use mathlib.Core.List.{List, [], ◌∷◌, ◌++◌}
use mathlib.Core.Bool.{Bool, true, false, cond}
use Prim.Native.Nat.{ℕ, ◌+◌, ◌*◌, ◌<◌}
use lib.ListN.{length}
use lib.Dec.{eqb}
use lib.Ieee.{Float, binary64, to_bits, neg}
use Rattle.base.specs.Loop.{table, each, keep}
use Rattle.base.proofs.Loops.{AllFrom, Every, all_append, every_cons, every_append, every_table, every_each, every_keep}
use Rattle.float.specs.Number.{◌⊗◌, zero64, half64, one64}
use Rattle.nl.specs.Expr.{Expr, Terms, none, more, column, shared, over, constants, constants_of}
use Rattle.network.specs.Network.{buses, generators, branches, references, costs, bus_of, from, to, angled, curved, pg_column, epigraph_column}
use Rattle.network.specs.Network.{p_d, q_d, g_s, b_s, s_max, cost_q, cost_c}
use Rattle.acopf.specs.Build.{literal, scaled, add, subtract, square, sum, terms}
use Rattle.acopf.specs.Model.{cost_term, objective}
use Rattle.acopf.specs.Rows.{Row, balance_row, p_balance_row, q_balance_row, rated, thermal_rows}
use Rattle.acopf.proofs.Sizes.{first_rows}

-- every constant of the expression, of the terms has it: records, so that the expression need not be written
pub record Each (P : ℕ → ℕ → Type 0) (e : Expr) : Type 0 where
  pub its : (k : ℕ) → AllFrom P k (constants e)

pub record EachTerms (P : ℕ → ℕ → Type 0) (ts : Terms) : Type 0 where
  pub its : (k : ℕ) → AllFrom P k (constants_of ts)

-- the number's bits have it
pub record Has (P : ℕ → ℕ → Type 0) (x : Float) : Type 0 where
  pub its : (k : ℕ) → P k (to_bits binary64 x)

abbrev pub EachRow : (ℕ → ℕ → Type 0) → ℕ → Row → Type 0
EachRow P i r = Each P r.expression

module _ {P : ℕ → ℕ → Type 0} where
  pub each_literal : {x : Float} → Has P x → Each P (literal x)
  unfolding constants
  each_literal h = record { its = λ k. (h.its k, tt) }

  pub each_column : (j : ℕ) → Each P (column j)
  unfolding constants
  each_column j = record { its = λ k. tt }

  pub each_shared : (s : ℕ) → Each P (shared s)
  unfolding constants
  each_shared s = record { its = λ k. tt }

  pub each_over : {kind : ℕ} {ts : Terms} → EachTerms P ts → Each P (over kind ts)
  unfolding constants
  each_over t = record { its = t.its }

  pub each_none : EachTerms P none
  unfolding constants
  each_none = record { its = λ k. tt }

  pub each_more : {e : Expr} {ts : Terms} → Each P e → EachTerms P ts → EachTerms P (more e ts)
  unfolding constants
  each_more {e} {ts} h t =
      record { its = λ k. all_append P k (constants e) (constants_of ts) (h.its k) (t.its (k + length (constants e))) }

  pub each_one : {kind : ℕ} {a : Expr} → Each P a → Each P (over kind (more a none))
  each_one a = each_over (each_more a each_none)

  pub each_two : {kind : ℕ} {a b : Expr} → Each P a → Each P b → Each P (over kind (more a (more b none)))
  each_two a b = each_over (each_more a (each_more b each_none))

  pub each_scaled : {x : Float} {e : Expr} → Has P x → Each P e → Each P (scaled x e)
  each_scaled h e = each_two (each_literal h) e

  pub each_terms : (i : ℕ) (es : List Expr) → AllFrom (λ i. Each P) i es → EachTerms P (terms es)
  each_terms i [] a = each_none
  each_terms i (e ∷ es) a = each_more a.0 (each_terms (i + 1) es a.1)

  each_sums : Has P zero64 → (i : ℕ) (es : List Expr) → AllFrom (λ i. Each P) i es → Each P (sum es)
  each_sums z i [] a = each_literal z
  each_sums z i (e ∷ []) a = a.0
  each_sums z i (e ∷ f ∷ es) a = each_over (each_terms i (e ∷ f ∷ es) a)

  pub each_sum : Has P zero64 → {i : ℕ} {es : List Expr} → Every (λ i. Each P) i es → Each P (sum es)
  each_sum z {i} {es} e = each_sums z i es e.all

-- ---- rows and the objective

-- the numbers that become constants of the rows but the segments', and of the objective, have it
pub record HaveNumbers (P : ℕ → ℕ → Type 0) (ws : List ℕ) (xs : List Float) : Type 0 where
  pub zero : Has P zero64
  pub minus_one : Has P (neg one64)
  pub p_demand_is : (i : ℕ) → i < buses ws → Has P (neg (p_d ws xs i))
  pub p_shunt : (i : ℕ) → i < buses ws → Has P (neg (g_s ws xs i))
  pub q_demand_is : (i : ℕ) → i < buses ws → Has P (neg (q_d ws xs i))
  pub q_shunt : (i : ℕ) → i < buses ws → Has P (b_s ws xs i)
  pub rating : (b : ℕ) → b < branches ws → rated ws xs b ≡ true → Has P (s_max ws xs b ⊗ s_max ws xs b)
  pub half_q : (g : ℕ) → g < generators ws → Has P (half64 ⊗ cost_q ws xs g)
  pub linear : (g : ℕ) → g < generators ws → Has P (cost_c ws xs g)

module _ {P : ℕ → ℕ → Type 0} (ws : List ℕ) (xs : List Float) (H : HaveNumbers P ws xs) where
  balance_each : (i : ℕ) (demand shunt : Float) (gc af at : ℕ → ℕ) → Has P demand → Has P shunt
      → Each P (balance_row ws xs i demand shunt gc (λ b. shared (af b)) (λ b. shared (at b))).expression
  unfolding balance_row
  balance_each i demand shunt gc af at h k = each_sum H.zero all
    where
      all : Every (λ i. Each P) 0 (
          literal demand ∷ scaled shunt (shared i) ∷ each (generators ws) (λ g. keep (eqb (bus_of ws g) i) (column (gc g)))
          ++ each (branches ws) (λ b. keep (eqb (from ws b) i) (scaled (neg one64) (shared (af b)))
          ++ keep (eqb (to ws b) i) (scaled (neg one64) (shared (at b)))))
      all =
          every_cons (each_literal h) (every_cons (each_scaled k (each_shared i))
          (every_append (every_each (generators ws) _ (λ g l. every_keep (eqb (bus_of ws g) i) _ (λ e. each_column (gc g))))
          (every_each (branches ws) _ (λ b l.
          every_append (every_keep (eqb (from ws b) i) _ (λ e. each_scaled H.minus_one (each_shared (af b))))
          (every_keep (eqb (to ws b) i) _ (λ e. each_scaled H.minus_one (each_shared (at b))))))))

  thermal_each : (b : ℕ) (p q : ℕ) → b < branches ws → rated ws xs b ≡ true
      → Each P (subtract (literal (s_max ws xs b ⊗ s_max ws xs b)) (add (square (shared p)) (square (shared q))))
  thermal_each b p q l on =
      each_two (each_literal (H.rating b l on)) (each_two (each_one (each_shared p)) (each_one (each_shared q)))

  pub rows_each : Every (EachRow P) 0 (first_rows ws xs)
  unfolding p_balance_row q_balance_row thermal_rows
  rows_each =
      every_append (every_append (every_append (every_append
      (every_table (buses ws) _ (λ i l.
      balance_each i _ _ _ (λ b. buses ws + 8 * b + 4) (λ b. buses ws + 8 * b + 6) (H.p_demand_is i l) (H.p_shunt i l)))
      (every_table (buses ws) _ (λ i l.
      balance_each i _ _ _ (λ b. buses ws + 8 * b + 5) (λ b. buses ws + 8 * b + 7) (H.q_demand_is i l) (H.q_shunt i l))))
      (every_table (references ws) _ (λ r l. each_column _)))
      (every_each (branches ws) _ (λ b l. every_keep (angled ws b) _ (λ e. each_two (each_column _) (each_column _)))))
      (every_each (branches ws) _ (λ b l.
      every_append (every_keep (rated ws xs b) _ (thermal_each b _ _ l)) (every_keep (rated ws xs b) _ (thermal_each b _ _ l))))

  cost_each : (g : ℕ) → g < generators ws → Each P (cost_term ws xs g)
  unfolding cost_term
  cost_each g l = go (curved ws g)
    where
      go : (b : Bool) → Each P (cond b (column (epigraph_column ws g)) (sum (
          scaled (half64 ⊗ cost_q ws xs g) (square (column (pg_column ws g))) ∷ scaled (cost_c ws xs g) (column (pg_column ws g)) ∷ [])))
      go true = each_column _
      go false = each_two (each_scaled (H.half_q g l) (each_one (each_column _))) (each_scaled (H.linear g l) (each_column _))

  pub objective_each : Each P (objective ws xs)
  unfolding objective
  objective_each = go (costs ws)
    where
      go : (b : Bool) → Each P (sum (cond b (table (generators ws) (cost_term ws xs)) []))
      go true =
          let e : Every (λ i. Each P) 0 (table (generators ws) (cost_term ws xs)) = every_table (generators ws) (cost_term ws xs) cost_each in
          each_sum H.zero e
      go false = each_literal H.zero
