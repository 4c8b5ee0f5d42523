-- The model of a network that is not refused keeps the rules on loads, names and depth: the network's limits bound its columns, parts, rows and constants.
use mathlib.Core.Path.{◌≡◌, refl}
use mathlib.Core.List.{List, [], ◌∷◌, ◌++◌, map}
use mathlib.Core.Bool.{Bool, true, false, cond}
use Prim.Native.Nat.{ℕ, ◌+◌, ◌*◌, ◌≤◌, ◌<◌}
use native.Mathlib.Omega.{arith}
use lib.ListN.{length, length-append, length-map}
use lib.Dec.{eqb}
use lib.Ieee.{Float, neg}
use Rattle.base.specs.Loop.{table, each, keep}
use Rattle.base.proofs.Loops.{length_table, keep_le, each_le, length_each, tally_le, tally_counts, AllFrom, Every, every_nil, every_cons, every_append, every_table, every_each, every_keep, every_cond, all_map}
use Rattle.float.specs.Number.{◌⊗◌, half64, one64}
use Rattle.nl.specs.Expr.{load_limit, Expr, column, shared, count, constants_of}
use Rattle.nl.specs.File.{Model, at_rows, at_objective, model_words, model_constants, StandsFor}
use Rattle.network.specs.Network.{buses, generators, branches, references, costs, bus_of, from, to, angled, curve_at, segments, curved, epigraphs_before, columns, vm_column, pg_column, qg_column, epigraph_column, cost_q, cost_c}
use Rattle.network.specs.Layout.{layout_of, LaidWords}
use Rattle.piecewise_cost.specs.Curve.{slope}
use Rattle.acopf.specs.Build.{literal, scaled, square, sum}
use Rattle.acopf.specs.Parts.{vm_squared, branch_part, branch_parts, shared_parts, p_from_part, p_to_part, q_from_part, q_to_part}
use Rattle.acopf.specs.Rows.{Row, balance_row, p_balance_row, q_balance_row, reference_row, angle_row, rated, thermal_row, thermal_rows, segment_row, segment_rows, rows}
use Rattle.acopf.specs.Model.{cost_term, objective, model}
use Rattle.acopf.proofs.Counts.{length_shared, model_shared}
use Rattle.reading.proofs.Sized.{Sized, sized_constant, sized_column, sized_shared, sized_none, sized_more, sized_over, sized_within, sized_two, sized_one, sized_scaled, sized_sum, summed, few_constants, ruled, parts_ruled}

module _ (ws : List ℕ) (xs : List Float) (G : LaidWords ws (layout_of ws)) where
  -- ---- the columns that the model names are there

  epigraphs_few : epigraphs_before ws (generators ws) ≤ generators ws
  unfolding epigraphs_before
  epigraphs_few = tally_le (generators ws) (curved ws)

  columns_few : columns ws ≤ 1280
  unfolding columns
  columns_few = omega (arith, epigraphs_few, G.few_buses, G.few_generators)

  va_in : (i : ℕ) → i < buses ws → i < columns ws
  unfolding columns
  va_in i h = omega arith

  vm_in : (i : ℕ) → i < buses ws → vm_column ws i < columns ws
  unfolding columns
  vm_in i h = omega arith

  pg_in : (g : ℕ) → g < generators ws → pg_column ws g < columns ws
  unfolding columns
  pg_in g h = omega arith

  qg_in : (g : ℕ) → g < generators ws → qg_column ws g < columns ws
  unfolding columns
  qg_in g h = omega arith

  epigraph_in : (g : ℕ) → g < generators ws → curved ws g ≡ true → epigraph_column ws g < columns ws
  unfolding columns epigraphs_before
  epigraph_in g h c = omega (arith, tally_counts g (generators ws) (curved ws) c h)

  -- ---- shared parts: part i names lower ones, and has at most 3 constants

  abbrev SharedSized : ℕ → Expr → Type 0
  SharedSized i = Sized (columns ws) i 8 3

  branch_sized : (b i : ℕ) → b < branches ws → i ≡ buses ws + 8 * b → Every SharedSized i (branch_parts ws xs b)
  unfolding branch_parts
  branch_sized b i h e =
      let f = G.branch_from_is b h in
      let t = G.branch_to_is b h in
      every_cons (sized_within 8 3 (sized_two 4 (omega arith) (omega arith) (sized_column (va_in _ f)) (sized_column (va_in _ t))) (omega arith) (omega arith))
      (every_cons (sized_within 8 3 (sized_two 5 (omega arith) (omega arith) (sized_column (vm_in _ f)) (sized_column (vm_in _ t))) (omega arith) (omega arith))
      (every_cons (sized_within 8 3 (sized_two 5 (omega arith) (omega arith) (sized_shared (omega arith)) (sized_one 7 (omega arith) (omega arith) (sized_shared (omega arith)))) (omega arith) (omega arith))
      (every_cons (sized_within 8 3 (sized_two 5 (omega arith) (omega arith) (sized_shared (omega arith)) (sized_one 8 (omega arith) (omega arith) (sized_shared (omega arith)))) (omega arith) (omega arith))
      (every_cons (flow _ _ _ (from ws b) (omega arith) (omega arith))
      (every_cons (flow _ _ _ (from ws b) (omega arith) (omega arith))
      (every_cons (flow _ _ _ (to ws b) (omega arith) (omega arith))
      (every_cons (flow _ _ _ (to ws b) (omega arith) (omega arith)) every_nil)))))))
    where
      flow : {p : ℕ} (x y z : Float) (v : ℕ) → v < p → buses ws + 8 * b + 3 < p
          → Sized (columns ws) p 8 3 (sum (scaled x (shared v) ∷ scaled y (shared (buses ws + 8 * b + 2)) ∷ scaled z (shared (buses ws + 8 * b + 3)) ∷ []))
      flow x y z v h k =
          sized_within 8 3 (sized_over (summed 3 (omega arith) (omega arith)) (sized_more (sized_scaled x (sized_shared h)) (sized_more (sized_scaled y (sized_shared (omega arith))) (sized_more (sized_scaled z (sized_shared k)) sized_none)))) (omega arith) (omega arith)

  shared_sized : Every SharedSized 0 (shared_parts ws xs)
  unfolding shared_parts branch_parts
  shared_sized =
      every_append (every_table (buses ws) _ (λ i h. sized_within 8 3 (sized_one 6 (omega arith) (omega arith) (sized_column (vm_in i h))) (omega arith) (omega arith)))
      (every_each (branches ws) (branch_parts ws xs) (λ b h. branch_sized b _ h
      (omega (arith, length_table (buses ws) (λ i. square (column (vm_column ws i))), length_each 8 b (branch_parts ws xs) (λ j. refl)))))

  -- ---- rows and objective: any shared part. A balance has at most 1,282 terms (demand, shunt, 256 generators, 512 branches at both ends), each with at most one constant

  module _ (parts : ℕ) (enough : parts ≡ buses ws + 8 * branches ws) where
    abbrev ExpressionSized : ℕ → Expr → Type 0
    ExpressionSized i = Sized (columns ws) parts 8 1283

    abbrev RowSized : ℕ → Row → Type 0
    RowSized i r = ExpressionSized i r.expression

    part_sized : (b j : ℕ) → b < branches ws → j < 8 → Sized (columns ws) parts 1 0 (branch_part ws b j)
    part_sized b j h k = sized_shared (omega arith)

    balance_sized : (i : ℕ) (demand shunt : Float) (gc : ℕ → ℕ) (j k : ℕ) → i < buses ws → ((g : ℕ) → g < generators ws → gc g < columns ws) → j < 8 → k < 8
        → Sized (columns ws) parts 8 1283 (balance_row ws xs i demand shunt gc (λ b. branch_part ws b j) (λ b. branch_part ws b k)).expression
    unfolding balance_row
    balance_sized i demand shunt gc j k h c jl kl =
        sized_within 8 1283 (sized_sum {d = 2} 1 0 es (omega (arith, few)) (omega arith) all.all) (omega arith) (omega (arith, few))
      where
        gs : List Expr
        gs = each (generators ws) (λ g. keep (eqb (bus_of ws g) i) (column (gc g)))

        bs : List Expr
        bs = each (branches ws) (λ b. keep (eqb (from ws b) i) (scaled (neg one64) (branch_part ws b j)) ++ keep (eqb (to ws b) i) (scaled (neg one64) (branch_part ws b k)))

        es : List Expr
        es = literal demand ∷ scaled shunt (vm_squared ws i) ∷ gs ++ bs

        few : length es ≤ 1282
        few =
            let a = each_le 1 (generators ws) (λ g. keep (eqb (bus_of ws g) i) (column (gc g))) (λ g l. keep_le (eqb (bus_of ws g) i) (column (gc g))) in
            let b = each_le 2 (branches ws) (λ b. keep (eqb (from ws b) i) (scaled (neg one64) (branch_part ws b j)) ++ keep (eqb (to ws b) i) (scaled (neg one64) (branch_part ws b k)))
            (λ b l. omega (
              arith,
              length-append (keep (eqb (from ws b) i) (scaled (neg one64) (branch_part ws b j))) (keep (eqb (to ws b) i) (scaled (neg one64) (branch_part ws b k))),
              keep_le (eqb (from ws b) i) (scaled (neg one64) (branch_part ws b j)),
              keep_le (eqb (to ws b) i) (scaled (neg one64) (branch_part ws b k)),
            )) in
            omega (arith, length-append gs bs, G.few_generators, G.few_branches)

        all : Every (λ i. Sized (columns ws) parts 2 1) 0 es
        all =
            every_cons (sized_within 2 1 (sized_constant _) (omega arith) (omega arith))
            (every_cons (sized_within 2 1 (sized_scaled shunt (sized_shared (omega arith))) (omega arith) (omega arith))
            (every_append (every_each (generators ws) _ (λ g l. every_keep (eqb (bus_of ws g) i) _ (λ e. sized_within 2 1 (sized_column (c g l)) (omega arith) (omega arith))))
            (every_each (branches ws) _ (λ b l.
            every_append (every_keep (eqb (from ws b) i) _ (λ e. sized_within 2 1 (sized_scaled (neg one64) (part_sized b j l jl)) (omega arith) (omega arith)))
            (every_keep (eqb (to ws b) i) _ (λ e. sized_within 2 1 (sized_scaled (neg one64) (part_sized b k l kl)) (omega arith) (omega arith)))))))

    thermal_sized : (b j k : ℕ) → b < branches ws → j < 8 → k < 8 → Sized (columns ws) parts 8 1283 (thermal_row ws xs b (branch_part ws b j) (branch_part ws b k)).expression
    thermal_sized b j k h jl kl =
        sized_within 8 1283 (sized_two 4 (omega arith) (omega arith) (sized_constant _)
        (sized_two 3 (omega arith) (omega arith) (sized_one 6 (omega arith) (omega arith) (part_sized b j h jl)) (sized_one 6 (omega arith) (omega arith) (part_sized b k h kl)))) (omega arith) (omega arith)

    segment_sized : (g s : ℕ) → g < generators ws → curved ws g ≡ true → Sized (columns ws) parts 8 1283 (segment_row ws xs g s).expression
    unfolding segment_row
    segment_sized g s h c =
        sized_within 8 1283 (sized_two 4 (omega arith) (omega arith) (sized_column (epigraph_in g h c))
        (sized_two 3 (omega arith) (omega arith) (sized_scaled (slope xs (curve_at ws g) s) (sized_column (pg_in g h))) (sized_constant _))) (omega arith) (omega arith)

    rows_sized : Every RowSized 0 (rows ws xs)
    unfolding rows p_balance_row q_balance_row thermal_rows segment_rows
    rows_sized =
        every_append (every_append (every_append (every_append (every_append
        (every_table (buses ws) _ (λ i h. balance_sized i _ _ _ 4 6 h pg_in (omega arith) (omega arith)))
        (every_table (buses ws) _ (λ i h. balance_sized i _ _ _ 5 7 h qg_in (omega arith) (omega arith))))
        (every_table (references ws) _ (λ r h. sized_within 8 1283 (sized_column (va_in _ (G.reference_bus_is r h))) (omega arith) (omega arith))))
        (every_each (branches ws) _ (λ b h. every_keep (angled ws b) _ (λ e.
        sized_within 8 1283 (sized_two 4 (omega arith) (omega arith) (sized_column (va_in _ (G.branch_from_is b h))) (sized_column (va_in _ (G.branch_to_is b h)))) (omega arith) (omega arith)))))
        (every_each (branches ws) _ (λ b h. every_append (every_keep (rated ws xs b) _ (λ e. thermal_sized b 4 5 h (omega arith) (omega arith)))
        (every_keep (rated ws xs b) _ (λ e. thermal_sized b 6 7 h (omega arith) (omega arith))))))
        (every_each (generators ws) _ (λ g h. every_cond (curved ws g) _ (λ c. every_table (segments ws g) _ (λ s l. segment_sized g s h c))))

    expressions_sized : AllFrom ExpressionSized 0 (map (λ r. r.expression) (rows ws xs))
    expressions_sized = all_map RowSized ExpressionSized (λ r. r.expression) (λ i r f. f) 0 (rows ws xs) rows_sized.all

    cost_sized : (g : ℕ) → g < generators ws → Sized (columns ws) parts 4 2 (cost_term ws xs g)
    unfolding cost_term
    cost_sized g h = go (curved ws g) refl
      where
        go : (b : Bool) → curved ws g ≡ b
            → Sized (columns ws) parts 4 2 (cond b (column (epigraph_column ws g)) (sum (scaled (half64 ⊗ cost_q ws xs g) (square (column (pg_column ws g))) ∷ scaled (cost_c ws xs g) (column (pg_column ws g)) ∷ [])))
        go true e = sized_within 4 2 (sized_column (epigraph_in g h e)) (omega arith) (omega arith)
        go false e =
            sized_within 4 2 (sized_over (summed 2 (omega arith) (omega arith)) (sized_more (sized_scaled (half64 ⊗ cost_q ws xs g) (sized_one 6 (omega arith) (omega arith) (sized_column (pg_in g h))))
            (sized_more (sized_scaled (cost_c ws xs g) (sized_column (pg_in g h))) sized_none))) (omega arith) (omega arith)

    objective_sized : Sized (columns ws) parts 8 1283 (objective ws xs)
    unfolding objective
    objective_sized = go (costs ws)
      where
        go : (b : Bool) → Sized (columns ws) parts 8 1283 (sum (cond b (table (generators ws) (cost_term ws xs)) []))
        go true =
            let l = length_table (generators ws) (cost_term ws xs) in
            let e : Every (λ i. Sized (columns ws) parts 4 2) 0 (table (generators ws) (cost_term ws xs)) = every_table (generators ws) (cost_term ws xs) cost_sized in
            sized_within 8 1283 (sized_sum 2 0 (table (generators ws) (cost_term ws xs)) (omega (arith, G.few_generators)) (omega arith) e.all) (omega arith) (omega (arith, G.few_generators))
        go false = sized_within 8 1283 (sized_constant _) (omega arith) (omega arith)

  -- ---- how many rows: 3 · 256 balances and references, 512 angle differences, 2 · 512 thermal limits, 8 · 256 segments

  rows_few : length (rows ws xs) ≤ 4352
  unfolding rows thermal_rows segment_rows
  rows_few =
      let angle-le = each_le 1 (branches ws) (λ b. keep (angled ws b) (angle_row ws xs b)) (λ b l. keep_le (angled ws b) (angle_row ws xs b)) in
      let thermal-le = each_le 2 (branches ws) (thermal_rows ws xs) (λ b l. omega (
        arith,
        length-append (keep (rated ws xs b) (thermal_row ws xs b (p_from_part ws b) (q_from_part ws b))) (keep (rated ws xs b) (thermal_row ws xs b (p_to_part ws b) (q_to_part ws b))),
        keep_le (rated ws xs b) (thermal_row ws xs b (p_from_part ws b) (q_from_part ws b)),
        keep_le (rated ws xs b) (thermal_row ws xs b (p_to_part ws b) (q_to_part ws b)),
      )) in
      let segment-le = each_le 8 (generators ws) (segment_rows ws xs) (λ g l. segments_le (curved ws g) g l) in
      let p = table (buses ws) (p_balance_row ws xs) in
      let q = table (buses ws) (q_balance_row ws xs) in
      let r = table (references ws) (reference_row ws xs) in
      let a = each (branches ws) (λ b. keep (angled ws b) (angle_row ws xs b)) in
      let t = each (branches ws) (thermal_rows ws xs) in
      let s = each (generators ws) (segment_rows ws xs) in
      omega (
        arith,
        length-append (p ++ q ++ r ++ a ++ t) s,
        length-append (p ++ q ++ r ++ a) t,
        length-append (p ++ q ++ r) a,
        length-append (p ++ q) r,
        length-append p q,
        length_table (buses ws) (p_balance_row ws xs),
        length_table (buses ws) (q_balance_row ws xs),
        length_table (references ws) (reference_row ws xs),
        G.few_buses,
        G.few_generators,
        G.few_branches,
        G.few_references,
      )
    where
      segments_le : (b : Bool) (g : ℕ) → g < generators ws → length (cond b (table (segments ws g) (segment_row ws xs g)) []) ≤ 8
      segments_le true g l = omega (arith, length_table (segments ws g) (segment_row ws xs g), G.few_points g l)
      segments_le false g l = omega arith

  -- ---- the whole

  abbrev M : Model
  M = model ws xs

  shared_constants : at_rows M ≤ 13056
  unfolding model
  shared_constants =
      omega (arith, few_constants SharedSized 3 (λ i e f. f.few) 0 (shared_parts ws xs) shared_sized.all, length_shared ws xs, G.few_buses, G.few_branches)

  row_constants_is : length (constants_of M.rows) ≤ 1283 * 4352
  unfolding model
  row_constants_is =
      let es = map (λ r. r.expression) (rows ws xs) in
      omega (arith, few_constants (ExpressionSized (count M.shared) (model_shared ws xs)) 1283 (λ i e f. f.few) 0 es (expressions_sized (count M.shared) (model_shared ws xs)), length-map (rows ws xs) (λ r. r.expression), rows_few)

  pub stands : StandsFor (model_words M) (model_constants M) (columns ws) M
  unfolding model
  stands =
      let parts = count M.shared in
      let some = model_shared ws xs in
      let es = map (λ r. r.expression) (rows ws xs) in
      let c : columns ws ≤ load_limit = omega (arith, columns_few) in
      let p : parts ≤ load_limit = omega (arith, some, G.few_buses, G.few_branches) in
      let e : length es ≡ length (rows ws xs) = length-map (rows ws xs) (λ r. r.expression) in
      record {
        shared_ruled = parts_ruled (columns ws) (λ i. i) 8 3 c (λ i h. h) 0 0 (shared_parts ws xs) shared_sized.all (omega (arith, length_shared ws xs, G.few_buses, G.few_branches)) (omega (arith, length_shared ws xs, G.few_buses, G.few_branches));
        rows_ruled = parts_ruled (columns ws) (λ i. parts) 8 1283 c (λ i h. p) 0 (at_rows M) es (expressions_sized parts some) (omega (arith, e, rows_few)) (omega (arith, e, rows_few, shared_constants));
        objective_ruled = ruled (at_objective M) c p (objective_sized parts some) (omega (arith, shared_constants, row_constants_is));
        its_words = refl;
        its_constants = refl;
      }
