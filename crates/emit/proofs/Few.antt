-- How many tokens there are at most: the file of a laid network is short, so that every running number fits in 28 bits.
use Prim.Native.Nat.{ℕ, zero, suc, ◌+◌, ◌*◌, ◌≤◌}
use native.Mathlib.Omega.{arith}
use mathlib.Core.Path.{ap}
use mathlib.Core.Bool.{Bool, true, false, cond}
use mathlib.Core.List.{List, [], ◌∷◌, ◌++◌}
use lib.ListN.{length, length-append}
use lib.Dec.{eqb}
use lib.Ieee.{Float, binary64, to_bits, neg}
use Rattle.base.specs.Loop.{loop, each, keep}
use Rattle.base.specs.Word.{word}
use Rattle.float.specs.Number.{zero64, one64, half64, ◌⊗◌}
use Rattle.nl.specs.Expr.{Expr, column, shared}
use Rattle.network.specs.declared.layout.Layout.{Layout}
use Rattle.network.specs.Layout.{Laid}
use Rattle.network.specs.Network.{buses, generators, branches, bus_of, from, to, p_d, q_d, g_s, b_s, pg_column, qg_column, epigraph_column, angled, rated, s_max, curved, segments, curve_at, cost_q, cost_c}
use Rattle.acopf.specs.Build.{subtract, square, scaled, terms}
use Rattle.acopf.specs.Model.{cost_term}
use Rattle.acopf.specs.Parts.{branch_parts}
use Rattle.acopf.specs.Rows.{balance_row, p_balance_row, q_balance_row}
use Rattle.writer.specs.internal.Tokens.{Token, fixed, numbered, tokens_of, list_tokens, part_tokens}
use Rattle.writer.proofs.Tokens.{list_append, list_each, list_terms}
use Rattle.parts.specs.internal.Parts.{shared_tokens}
use Rattle.balance.specs.declared.balance.Power.{Power}
use Rattle.balance.specs.declared.balance.Power.TheVariants.{Active, Reactive}
use Rattle.balance.specs.internal.Balance.{balance_of, balances_of}
use Rattle.emit.specs.internal.Rows.{reference_tokens, angle_tokens, thermal_pair, thermal_tokens, segment_tokens, curve_tokens}
use Rattle.emit.specs.internal.Objective.{cost_of, cost_tokens, sum_head, cost_count, objective_tokens}
use Rattle.emit.specs.internal.Whole.{bus_rows, branch_rows, objective_and_end, row_tokens}

-- turns that give at most c each
each_most : {A : Type 0} (n c : ℕ) (f : ℕ → List A) → ((i : ℕ) → length (f i) ≤ c) → length (each n f) ≤ c * n
unfolding each loop
each_most zero c f h = omega arith
each_most (suc n) c f h = omega (arith, length-append (each n f) (f n), each_most n c f h, h n)

-- ---- one row, one term

generator_term : (t : Bool) (j : ℕ) → length (list_tokens (keep t (column j))) ≤ 1
generator_term true j = omega arith
generator_term false j = omega arith

end_terms : (s t : Bool) (x y : Float) (p q : ℕ) → length (list_tokens (keep s (scaled x (shared p)) ++ keep t (scaled y (shared q)))) ≤ 6
end_terms true true x y p q = omega arith
end_terms true false x y p q = omega arith
end_terms false true x y p q = omega arith
end_terms false false x y p q = omega arith

angle_row_is : (t : Bool) (j k : ℕ) → length (part_tokens 11 (keep t (subtract (column j) (column k)))) ≤ 4
angle_row_is true j k = omega arith
angle_row_is false j k = omega arith

thermal_rows_is : (t : Bool) (first : ℕ) (x : Float) → length (part_tokens 11 (thermal_pair t first x)) ≤ 16
thermal_rows_is true first x = omega arith
thermal_rows_is false first x = omega arith

cost_term_is : (t : Bool) (e p : ℕ) (half linear : Float) → length (list_tokens (cond t (column e) (cost_of p half linear) ∷ [])) ≤ 8
cost_term_is true e p half linear = omega arith
cost_term_is false e p half linear = omega arith

sum_head_is : (s t : Bool) (a b : Token) → length (cond s (a ∷ []) (cond t [] (b ∷ []))) ≤ 1
sum_head_is true t a b = omega arith
sum_head_is false true a b = omega arith
sum_head_is false false a b = omega arith

cost_count_is : (priced : Bool) (k : ℕ) → cost_count priced k ≤ k
cost_count_is true k = omega arith
cost_count_is false k = omega arith

module _ (ws : List ℕ) (xs : List Float) where
  balance_row_is : (i : ℕ) (demand shunt : Float) (own p q : ℕ → ℕ)
      → length (part_tokens 11 ((balance_row ws xs i demand shunt own (λ b. shared (p b)) (λ b. shared (q b))).expression ∷ []))
      ≤ 6 + generators ws + 6 * branches ws
  unfolding balance_row
  balance_row_is i demand shunt own p q =
      let of_generators : ℕ → List Expr = λ g. keep (eqb (bus_of ws g) i) (column (own g)) in
      let of_ends : ℕ → List Expr =
      λ b. keep (eqb (from ws b) i) (scaled (neg one64) (shared (p b))) ++ keep (eqb (to ws b) i) (scaled (neg one64) (shared (q b))) in
      let u = each (generators ws) of_generators in
      let v = each (branches ws) of_ends in
      omega (
        arith,
        length-append (tokens_of (terms (u ++ v))) [],
        ap length (list_terms (u ++ v)),
        ap length (list_append u v),
        length-append (list_tokens u) (list_tokens v),
        ap length (list_each (generators ws) of_generators),
        ap length (list_each (branches ws) of_ends),
        each_most (generators ws) 1 (λ g. list_tokens (of_generators g)) (λ g. generator_term (eqb (bus_of ws g) i) (own g)),
        each_most (branches ws) 6 (λ b. list_tokens (of_ends b))
            (λ b. end_terms (eqb (from ws b) i) (eqb (to ws b) i) (neg one64) (neg one64) (p b) (q b)),
      )

  balance_most : (power : Power) (i : ℕ) → length (balance_of ws xs power i) ≤ 6 + generators ws + 6 * branches ws
  unfolding balance_of p_balance_row q_balance_row
  balance_most Reactive i =
      balance_row_is i (neg (q_d ws xs i)) (b_s ws xs i) (qg_column ws) (λ b. buses ws + 8 * b + 5) (λ b. buses ws + 8 * b + 7)
  balance_most Active i =
      balance_row_is i (neg (p_d ws xs i)) (neg (g_s ws xs i)) (pg_column ws) (λ b. buses ws + 8 * b + 4) (λ b. buses ws + 8 * b + 6)

  -- by the five bits of its points a curve has at most 31 segments
  curve_most : (g : ℕ) → length (curve_tokens ws xs g) ≤ 248
  unfolding curve_tokens
  curve_most g =
      omega (
        arith,
        each_most (cond (curved ws g) (segments ws g) 0) 8 (segment_tokens xs (curve_at ws g) (epigraph_column ws g) (pg_column ws g)) (λ s. omega arith),
        few (curved ws g),
      )
    where
      few : (t : Bool) → cond t (segments ws g) 0 ≤ 31
      few true = omega arith
      few false = omega arith

  cost_most : (g : ℕ) → length (cost_tokens ws xs g) ≤ 8
  unfolding cost_term
  cost_most g = cost_term_is (curved ws g) (epigraph_column ws g) (pg_column ws g) (half64 ⊗ cost_q ws xs g) (cost_c ws xs g)

  part_most : (b : ℕ) → length (part_tokens 10 (branch_parts ws xs b)) ≤ 62
  unfolding branch_parts
  part_most b = omega arith

-- ---- the whole

shared_most : (ws : List ℕ) (xs : List Float) (n m : ℕ) → length (shared_tokens ws xs n m) ≤ 3 * n + 62 * m
unfolding shared_tokens
shared_most ws xs n m =
    let u : ℕ → List Token = λ i. part_tokens 10 (square (column (n + i)) ∷ []) in
    let v : ℕ → List Token = λ b. part_tokens 10 (branch_parts ws xs b) in
    omega (arith, length-append (each n u) (each m v), each_most n 3 u (λ i. omega arith), each_most m 62 v (part_most ws xs))

objective_most : (ws : List ℕ) (xs : List Float) (count : ℕ) → length (objective_tokens ws xs count) ≤ 8 * count + 2
unfolding objective_tokens
objective_most ws xs count =
    omega (
      arith,
      length-append (fixed (word 12 0) ∷ sum_head count) (each count (cost_tokens ws xs)),
      sum_head_is (eqb count 0) (eqb count 1) (numbered (to_bits binary64 zero64)) (fixed (word 9 count)),
      each_most count 8 (cost_tokens ws xs) (cost_most ws xs),
    )

module _ {ws : List ℕ} {xs : List Float} {l : Layout} (L : Laid ws xs l) where
  -- six words before a balance's items, one for each generator and three for each branch end
  balance_few : (power : Power) (i : ℕ) → length (balance_of ws xs power i) ≤ 3334
  balance_few power i =
      omega (
        arith,
        balance_most ws xs power i,
        ap (λ (x : Layout). x.generators) L.words.is,
        ap (λ (x : Layout). x.branches) L.words.is,
        L.words.few_generators,
        L.words.few_branches,
      )

  bus_most : length (bus_rows ws xs l) ≤ 6668 * l.buses + 2 * l.references
  unfolding bus_rows balances_of
  bus_most =
      let p = each l.buses (balance_of ws xs Active) in
      let q = each l.buses (balance_of ws xs Reactive) in
      let r = each l.references (reference_tokens ws) in
      omega (
        arith,
        length-append (p ++ q) r,
        length-append p q,
        each_most l.buses 3334 (balance_of ws xs Active) (balance_few Active),
        each_most l.buses 3334 (balance_of ws xs Reactive) (balance_few Reactive),
        each_most l.references 2 (reference_tokens ws) (λ i. omega arith),
      )

  branch_most : length (branch_rows ws xs l) ≤ 20 * l.branches + 248 * l.generators
  unfolding branch_rows
  branch_most =
      let a = each l.branches (angle_tokens ws) in
      let t = each l.branches (thermal_tokens ws xs l.buses) in
      let s = each l.generators (curve_tokens ws xs) in
      omega (
        arith,
        length-append a (t ++ s),
        length-append t s,
        each_most l.branches 4 (angle_tokens ws) (λ b. angle_row_is (angled ws b) (from ws b) (to ws b)),
        each_most l.branches 16 (thermal_tokens ws xs l.buses) (λ b. thermal_rows_is (rated ws xs b) (l.buses + 8 * b) (s_max ws xs b ⊗ s_max ws xs b)),
        each_most l.generators 248 (curve_tokens ws xs) (curve_most ws xs),
      )

  pub all_most : length (shared_tokens ws xs l.buses l.branches) + length (row_tokens ws xs l) ≤ 268435456
  unfolding row_tokens objective_and_end
  all_most =
      let o = objective_tokens ws xs (cost_count l.costs l.generators) in
      let e : List Token = fixed (word 13 0) ∷ [] in
      omega (
        arith,
        shared_most ws xs l.buses l.branches,
        length-append (bus_rows ws xs l) (branch_rows ws xs l ++ (o ++ e)),
        length-append (branch_rows ws xs l) (o ++ e),
        length-append o e,
        bus_most,
        branch_most,
        objective_most ws xs (cost_count l.costs l.generators),
        cost_count_is l.costs l.generators,
        L.words.few_buses,
        L.words.few_generators,
        L.words.few_branches,
        L.words.few_references,
      )
