-- How many rows, constants and words a model has, in the network's counts.
use mathlib.Core.Path.{◌≡◌, refl, ap, ap₂, ◌∙◌}
use mathlib.Core.List.{List, [], ◌∷◌, ◌++◌, map}
use mathlib.Core.Bool.{Bool, true, false, cond, not, ◌&&◌}
use Prim.Native.Nat.{ℕ, zero, suc, ◌+◌, ◌-◌, ◌*◌, ◌<◌}
use native.Mathlib.Omega.{arith}
use lib.ListN.{length, length-append, length-map}
use lib.Dec.{eqb, ltb}
use lib.Ieee.{Float, neg}
use borrow.Author.Tests.{ne_eqb, lt-ltb}
use Rattle.base.proofs.Firsts.{Clear}
use Rattle.base.proofs.Loops.{bit, length_table}
use Rattle.base.proofs.Totals.{total, total_same, total_const, total_sum, total_times, total_tally, total_cond, by_places, weight, weight_append, weight_table, weight_each, weight_keep, weight_kept, weight_map, length_weight}
use Rattle.base.specs.Loop.{loop, table, each, keep, tally}
use Rattle.base.specs.Word.{word}
use Rattle.float.specs.Number.{◌⊗◌, one64, half64}
use Rattle.nl.specs.Expr.{Expr, Terms, none, more, column, shared, constant, over, constants, constants_of, next, words, words_of}
use Rattle.nl.specs.File.{part_words, model_words, model_constants, at_rows, at_objective}
use Rattle.network.proofs.Places.{from_bus, to_bus, bus_of_generator}
use Rattle.network.specs.Fault.{fault_words}
use Rattle.network.specs.Network.{buses, generators, branches, references, costs, bus_of, from, to, angled, curved, segments, epigraphs_before, pg_column, qg_column, vm_column, epigraph_column, p_d, q_d, g_s, b_s, cost_q, cost_c}
use Rattle.acopf.proofs.Counts.{count_constants, length_shared}
use Rattle.acopf.specs.Build.{scaled, square, sum, terms}
use Rattle.acopf.specs.Factor.{constants64}
use Rattle.acopf.specs.Model.{cost_term, objective, model, file_words}
use Rattle.acopf.specs.Parts.{branch_part, branch_parts, shared_parts, p_from_part, q_from_part, p_to_part, q_to_part}
use Rattle.acopf.specs.Tallies.{segments_before}
use Rattle.acopf.specs.Rows.{Row, balance_row, p_balance_row, q_balance_row, reference_row, angle_row, rated, thermal_row, thermal_rows, segment_row, segment_rows, rows}

-- ---- an expression's size: c a constant, o a column or a shared part, v an operator

module _ (c o v : ℕ) where
  unfoldable mutual
    measure : Expr → ℕ
    measure (constant b) = c
    measure (column j) = o
    measure (shared s) = o
    measure (over kind ts) = v + measure_of ts

    measure_of : Terms → ℕ
    measure_of none = 0
    measure_of (more e ts) = measure e + measure_of ts

  measure_terms : (l : List Expr) → measure_of (terms l) ≡ weight measure l
  unfolding weight measure
  measure_terms [] = refl
  measure_terms (e ∷ l) = ap (λ x. measure e + x) (measure_terms l)

-- its constants, and its words
mutual
  unfolding constants measure

  constants_size : (e : Expr) → length (constants e) ≡ measure 1 0 0 e
  constants_size (constant b) = refl
  constants_size (column j) = refl
  constants_size (shared s) = refl
  constants_size (over kind ts) = omega (arith, constants_of_size ts)

  constants_of_size : (ts : Terms) → length (constants_of ts) ≡ measure_of 1 0 0 ts
  constants_of_size none = refl
  constants_of_size (more e ts) = omega (arith, length-append (constants e) (constants_of ts), constants_size e, constants_of_size ts)

mutual
  unfolding words measure

  words_size : (k : ℕ) (e : Expr) → length (words k e) ≡ measure 1 1 1 e
  words_size k (constant b) = refl
  words_size k (column j) = refl
  words_size k (shared s) = refl
  words_size k (over kind ts) = omega (arith, words_of_size k ts)

  words_of_size : (k : ℕ) (ts : Terms) → length (words_of k ts) ≡ measure_of 1 1 1 ts
  words_of_size k none = refl
  words_of_size k (more e ts) = omega (arith, length-append (words k e) (words_of (next k e) ts), words_size k e, words_of_size (next k e) ts)

parts_size : (kind i k : ℕ) (l : List Expr) → length (part_words kind i k (terms l)) ≡ length l + weight (measure 1 1 1) l
unfolding part_words weight
parts_size kind i k [] = refl
parts_size kind i k (e ∷ l) =
    omega (arith, length-append (words k e) (part_words kind (i + 1) (next k e) (terms l)), words_size k e, parts_size kind (i + 1) (next k e) l)

-- ---- the counts' names

module _ (ws : List ℕ) where
  abbrev pub spreads : ℕ
  spreads = tally (branches ws) (angled ws)

  -- the objective's: two a generator without a curve; where it has no term, the one of value 0
  unfoldable pub objective_constants : ℕ
  objective_constants = cond (costs ws && not (eqb (generators ws) 0)) (2 * (generators ws - epigraphs_before ws (generators ws))) 1

  -- an epigraph column is one word, a quadratic cost eight; a sum has a word of its own from two terms on
  unfoldable pub objective_words : ℕ
  objective_words =
      cond (costs ws && not (eqb (generators ws) 0))
      (bit (ltb 1 (generators ws)) + (epigraphs_before ws (generators ws) + 8 * (generators ws - epigraphs_before ws (generators ws)))) 1

module _ (ws : List ℕ) (xs : List Float) where
  abbrev pub ratings : ℕ
  ratings = tally (branches ws) (rated ws xs)

  -- all rows but the segments'
  abbrev pub first_rows : List Row
  first_rows =
      table (buses ws) (p_balance_row ws xs) ++ table (buses ws) (q_balance_row ws xs) ++ table (references ws) (reference_row ws xs)
      ++ each (branches ws) (λ b. keep (angled ws b) (angle_row ws xs b)) ++ each (branches ws) (thermal_rows ws xs)

  -- ---- weights of rows

  segments_weight : (w : Row → ℕ) (c : ℕ) → ((g j : ℕ) → w (segment_row ws xs g j) ≡ c) → weight w (each (generators ws) (segment_rows ws xs)) ≡ c * segments_before ws (generators ws)
  unfolding segment_rows segments_before total loop weight
  segments_weight w c h =
      weight_each w (generators ws) (segment_rows ws xs)
      ∙ total_same (generators ws) _ (λ g. c * cond (curved ws g) (segments ws g) 0) (λ g l. one g (curved ws g))
      ∙ total_times c (generators ws) _
    where
      one : (g : ℕ) (b : Bool) → weight w (cond b (table (segments ws g) (segment_row ws xs g)) []) ≡ c * cond b (segments ws g) 0
      one g true = weight_table w (segments ws g) (segment_row ws xs g) ∙ total_same (segments ws g) _ (λ j. c) (λ j l. h g j) ∙ total_const c (segments ws g)
      one g false = omega arith

  thermals_weight : (w : Row → ℕ) (c : ℕ) → ((b p q : ℕ) → w (thermal_row ws xs b (shared p) (shared q)) ≡ c) → weight w (each (branches ws) (thermal_rows ws xs)) ≡ 2 * (c * ratings)
  unfolding thermal_rows
  thermals_weight w c h =
      weight_each w (branches ws) (thermal_rows ws xs)
      ∙ total_same (branches ws) _ (λ b. 2 * (c * bit (rated ws xs b))) (λ b l. weight_append w (keep (rated ws xs b) (thermal_row ws xs b (p_from_part ws b) (q_from_part ws b))) (keep (rated ws xs b) (thermal_row ws xs b (p_to_part ws b) (q_to_part ws b)))
      ∙ omega (arith, one b (buses ws + 8 * b + 4) (buses ws + 8 * b + 5), one b (buses ws + 8 * b + 6) (buses ws + 8 * b + 7)))
      ∙ total_times 2 (branches ws) (λ b. c * bit (rated ws xs b))
      ∙ ap (λ x. 2 * x) (total_times c (branches ws) (λ b. bit (rated ws xs b)) ∙ ap (λ x. c * x) (total_tally (branches ws) (rated ws xs)))
    where
      one : (b p q : ℕ) → weight w (keep (rated ws xs b) (thermal_row ws xs b (shared p) (shared q))) ≡ c * bit (rated ws xs b)
      one b p q = weight_keep w (rated ws xs b) (thermal_row ws xs b (shared p) (shared q)) ∙ ap (λ x. x * bit (rated ws xs b)) (h b p q)

  six : (w : Row → ℕ) → weight w (rows ws xs)
      ≡ total (buses ws) (λ i. w (p_balance_row ws xs i)) + total (buses ws) (λ i. w (q_balance_row ws xs i)) + total (references ws) (λ j. w (reference_row ws xs j))
      + weight w (each (branches ws) (λ b. keep (angled ws b) (angle_row ws xs b))) + weight w (each (branches ws) (thermal_rows ws xs)) + weight w (each (generators ws) (segment_rows ws xs))
  unfolding rows
  six w =
      let p = table (buses ws) (p_balance_row ws xs) in
      let q = table (buses ws) (q_balance_row ws xs) in
      let f = table (references ws) (reference_row ws xs) in
      let a = each (branches ws) (λ b. keep (angled ws b) (angle_row ws xs b)) in
      let t = each (branches ws) (thermal_rows ws xs) in
      let g = each (generators ws) (segment_rows ws xs) in
      omega (
        arith,
        weight_append w (p ++ q ++ f ++ a ++ t) g,
        weight_append w (p ++ q ++ f ++ a) t,
        weight_append w (p ++ q ++ f) a,
        weight_append w (p ++ q) f,
        weight_append w p q,
        weight_table w (buses ws) (p_balance_row ws xs),
        weight_table w (buses ws) (q_balance_row ws xs),
        weight_table w (references ws) (reference_row ws xs),
      )

  -- balances, references, active angles, two a rated branch, segments
  pub count_rows : length (rows ws xs) ≡ 2 * buses ws + references ws + spreads ws + 2 * ratings + segments_before ws (generators ws)
  count_rows =
      length_weight (rows ws xs) ∙ six (λ w. 1)
      ∙ omega (
        arith,
        total_const 1 (buses ws),
        total_const 1 (references ws),
        weight_kept (λ w. 1) 1 (branches ws) (angled ws) (angle_row ws xs) (λ b. refl),
        thermals_weight (λ w. 1) 1 (λ b p q. refl),
        segments_weight (λ w. 1) 1 (λ g j. refl),
      )

-- ---- the rows' sizes

module _ (ws : List ℕ) (xs : List Float) (c o v : ℕ) where
  abbrev s : ℕ
  s = v + (c + (o + 0))

  abbrev sized : Expr → ℕ
  sized = measure c o v

  abbrev row_size : Row → ℕ
  row_size w = sized w.expression

  segment_size : (g j : ℕ) → row_size (segment_row ws xs g j) ≡ (v + o + v + s + c)
  unfolding segment_row measure
  segment_size g j = omega arith

  segments_size : weight row_size (each (generators ws) (segment_rows ws xs)) ≡ (v + o + v + s + c) * segments_before ws (generators ws)
  segments_size = segments_weight ws xs row_size (v + o + v + s + c) segment_size

  thermal_size : (b p q : ℕ) → row_size (thermal_row ws xs b (shared p) (shared q)) ≡ (v + c + v + (v + o) + (v + o))
  unfolding measure
  thermal_size b p q = omega arith

  thermals_size : weight row_size (each (branches ws) (thermal_rows ws xs)) ≡ 2 * ((v + c + v + (v + o) + (v + o)) * ratings ws xs)
  thermals_size = thermals_weight ws xs row_size (v + c + v + (v + o) + (v + o)) thermal_size

  angles_size : weight row_size (each (branches ws) (λ b. keep (angled ws b) (angle_row ws xs b))) ≡ (v + (o + (o + 0))) * spreads ws
  unfolding measure
  angles_size = weight_kept row_size (v + (o + (o + 0))) (branches ws) (angled ws) (angle_row ws xs) (λ b. refl)

  balance_size : (i : ℕ) (demand shunt : Float) (gc : ℕ → ℕ) (j k : ℕ)
      → row_size (balance_row ws xs i demand shunt gc (λ b. branch_part ws b j) (λ b. branch_part ws b k))
      ≡ (v + c + s) + (o * tally (generators ws) (λ g. eqb (bus_of ws g) i) + (s * tally (branches ws) (λ b. eqb (from ws b) i) + s * tally (branches ws) (λ b. eqb (to ws b) i)))
  unfolding balance_row measure weight
  balance_size i demand shunt gc j k = omega (arith, measure_terms c o v (gs ++ bs), weight_append sized gs bs, gs_size, bs_size)
    where
      gs : List Expr
      gs = each (generators ws) (λ g. keep (eqb (bus_of ws g) i) (column (gc g)))

      bs : List Expr
      bs = each (branches ws) (λ b. keep (eqb (from ws b) i) (scaled (neg one64) (branch_part ws b j)) ++ keep (eqb (to ws b) i) (scaled (neg one64) (branch_part ws b k)))

      gs_size : weight sized gs ≡ o * tally (generators ws) (λ g. eqb (bus_of ws g) i)
      gs_size = weight_kept sized o (generators ws) (λ g. eqb (bus_of ws g) i) (λ g. column (gc g)) (λ g. refl)

      bs_size : weight sized bs ≡ s * tally (branches ws) (λ b. eqb (from ws b) i) + s * tally (branches ws) (λ b. eqb (to ws b) i)
      bs_size =
          weight_each sized (branches ws) _
          ∙ total_same (branches ws) _ (λ b. s * bit (eqb (from ws b) i) + s * bit (eqb (to ws b) i))
          (λ b l. weight_append sized (keep (eqb (from ws b) i) (scaled (neg one64) (branch_part ws b j))) (keep (eqb (to ws b) i) (scaled (neg one64) (branch_part ws b k)))
          ∙ ap₂ (λ x y. x + y) (weight_keep sized (eqb (from ws b) i) (scaled (neg one64) (branch_part ws b j))) (weight_keep sized (eqb (to ws b) i) (scaled (neg one64) (branch_part ws b k))))
          ∙ total_sum (branches ws) (λ b. s * bit (eqb (from ws b) i)) (λ b. s * bit (eqb (to ws b) i))
          ∙ ap₂ (λ x y. x + y) (end (from ws)) (end (to ws))
        where
          end : (at : ℕ → ℕ) → total (branches ws) (λ b. s * bit (eqb (at b) i)) ≡ s * tally (branches ws) (λ b. eqb (at b) i)
          end at = total_times s (branches ws) (λ b. bit (eqb (at b) i)) ∙ ap (λ x. s * x) (total_tally (branches ws) (λ b. eqb (at b) i))

  module _ (W : Clear (fault_words ws)) where
    -- each generator is at one bus, and each end of a branch
    balances_size : (demand shunt : ℕ → Float) (gc : ℕ → ℕ) (j k : ℕ)
        → total (buses ws) (λ i. row_size (balance_row ws xs i (demand i) (shunt i) gc (λ b. branch_part ws b j) (λ b. branch_part ws b k)))
        ≡ (v + c + s) * buses ws + (o * generators ws + (s * branches ws + s * branches ws))
    balances_size demand shunt gc j k =
        total_same (buses ws) _ (λ i. (v + c + s) + (o * G i + (s * F i + s * T i))) (λ i l. balance_size i (demand i) (shunt i) gc j k)
        ∙ total_sum (buses ws) (λ i. (v + c + s)) (λ i. o * G i + (s * F i + s * T i))
        ∙ ap₂ (λ x y. x + y) (total_const (v + c + s) (buses ws))
        (total_sum (buses ws) (λ i. o * G i) (λ i. s * F i + s * T i)
        ∙ ap₂ (λ x y. x + y) (placed o (generators ws) (bus_of ws) (bus_of_generator ws W))
        (total_sum (buses ws) (λ i. s * F i) (λ i. s * T i) ∙ ap₂ (λ x y. x + y) (placed s (branches ws) (from ws) (from_bus ws W)) (placed s (branches ws) (to ws) (to_bus ws W))))
      where
        G : ℕ → ℕ
        G i = tally (generators ws) (λ g. eqb (bus_of ws g) i)

        F : ℕ → ℕ
        F i = tally (branches ws) (λ b. eqb (from ws b) i)

        T : ℕ → ℕ
        T i = tally (branches ws) (λ b. eqb (to ws b) i)

        placed : (a m : ℕ) (at : ℕ → ℕ) → ((b : ℕ) → b < m → at b < buses ws) → total (buses ws) (λ i. a * tally m (λ b. eqb (at b) i)) ≡ a * m
        placed a m at h = total_times a (buses ws) (λ i. tally m (λ b. eqb (at b) i)) ∙ ap (λ x. a * x) (by_places (buses ws) m at h)

    rows_size : weight row_size (rows ws xs)
        ≡ 2 * ((v + c + s) * buses ws + (o * generators ws + (s * branches ws + s * branches ws))) + o * references ws
        + (v + (o + (o + 0))) * spreads ws + 2 * ((v + c + v + (v + o) + (v + o)) * ratings ws xs) + (v + o + v + s + c) * segments_before ws (generators ws)
    unfolding p_balance_row q_balance_row measure
    rows_size =
        six ws xs row_size
        ∙ omega (
          arith,
          balances_size (λ i. neg (p_d ws xs i)) (λ i. neg (g_s ws xs i)) (pg_column ws) 4 6,
          balances_size (λ i. neg (q_d ws xs i)) (b_s ws xs) (qg_column ws) 5 7,
          total_const o (references ws),
          angles_size,
          thermals_size,
          segments_size,
        )

  -- ---- shared parts and the objective

  shared_size : weight sized (shared_parts ws xs)
      ≡ (v + (o + 0)) * buses ws + (2 * (v + (o + (o + 0))) + 2 * (v + (o + (v + (o + 0) + 0))) + 4 * (v + (s + (s + (s + 0))))) * branches ws
  unfolding shared_parts branch_parts measure weight
  shared_size =
      weight_append sized (table (buses ws) (λ i. square (column (vm_column ws i)))) (each (branches ws) (branch_parts ws xs))
      ∙ ap₂ (λ x y. x + y) (weight_table sized (buses ws) (λ i. square (column (vm_column ws i))) ∙ total_const (v + (o + 0)) (buses ws))
      (weight_each sized (branches ws) (branch_parts ws xs) ∙ total_same (branches ws) _ (λ b. eight) (λ b l. omega arith) ∙ total_const eight (branches ws))
    where
      eight : ℕ
      eight = 2 * (v + (o + (o + 0))) + 2 * (v + (o + (v + (o + 0) + 0))) + 4 * (v + (s + (s + (s + 0))))

  cost_size : (g : ℕ) → sized (cost_term ws xs g) ≡ cond (curved ws g) o (v + (v + (c + (v + (o + 0) + 0)) + (s + 0)))
  unfolding cost_term measure
  cost_size g = go (curved ws g)
    where
      go : (b : Bool) → sized (cond b (column (epigraph_column ws g)) (sum (scaled (half64 ⊗ cost_q ws xs g) (square (column (pg_column ws g))) ∷ scaled (cost_c ws xs g) (column (pg_column ws g)) ∷ [])))
          ≡ cond b o (v + (v + (c + (v + (o + 0) + 0)) + (s + 0)))
      go true = refl
      go false = refl

  sum_size : (l : List Expr) → 0 < length l → sized (sum l) ≡ v * bit (ltb 1 (length l)) + weight sized l
  unfolding measure weight
  sum_size [] h = absurd (omega arith)
  sum_size (e ∷ []) h = omega arith
  sum_size (e ∷ f ∷ l) h = rw (lt-ltb 1 (length (e ∷ f ∷ l)) (omega arith)) (omega (arith, measure_terms c o v l))

  objective_size : sized (objective ws xs)
      ≡ cond (costs ws && not (eqb (generators ws) 0))
      (v * bit (ltb 1 (generators ws)) + (o * epigraphs_before ws (generators ws) + (v + (v + (c + (v + (o + 0) + 0)) + (s + 0))) * (generators ws - epigraphs_before ws (generators ws)))) c
  unfolding objective epigraphs_before measure loop table
  objective_size = go (costs ws) (generators ws)
    where
      quadratic : ℕ
      quadratic = v + (v + (c + (v + (o + 0) + 0)) + (s + 0))

      go : (b : Bool) (k : ℕ) → sized (sum (cond b (table k (cost_term ws xs)) []))
          ≡ cond (b && not (eqb k 0)) (v * bit (ltb 1 k) + (o * tally k (curved ws) + quadratic * (k - tally k (curved ws)))) c
      go false k = refl
      go true zero = refl
      go true (suc k) =
          let l = length_table (suc k) (cost_term ws xs) in
          rw (ne_eqb (suc k) 0 (λ z. omega arith)) (sum_size (table (suc k) (cost_term ws xs)) (omega arith)
          ∙ ap₂ (λ x y. v * bit (ltb 1 x) + y) l (weight_table sized (suc k) (cost_term ws xs) ∙ total_same (suc k) _ (λ g. cond (curved ws g) o quadratic) (λ g m. cost_size g) ∙ total_cond o quadratic (suc k) (curved ws)))

-- ---- constants and words

module _ (ws : List ℕ) (xs : List Float) where
  abbrev expressions : List Row → List Expr
  expressions = map (λ w. w.expression)

  pub shared_constants : length (constants_of (terms (shared_parts ws xs))) ≡ 12 * branches ws
  shared_constants = constants_of_size (terms (shared_parts ws xs)) ∙ measure_terms 1 0 0 (shared_parts ws xs) ∙ shared_size ws xs 1 0 0 ∙ omega arith

  pub objective_constants_is : length (constants (objective ws xs)) ≡ objective_constants ws
  unfolding objective_constants
  objective_constants_is = constants_size (objective ws xs) ∙ objective_size ws xs 1 0 0 ∙ ap (λ x. cond (costs ws && not (eqb (generators ws) 0)) x 1) (omega arith)

  row_constants_is : (l : List Row) → length (constants_of (terms (expressions l))) ≡ weight (row_size ws xs 1 0 0) l
  row_constants_is l = constants_of_size (terms (expressions l)) ∙ measure_terms 1 0 0 (expressions l) ∙ weight_map (measure 1 0 0) (λ w. w.expression) l

module _ (ws : List ℕ) (xs : List Float) (W : Clear (fault_words ws)) where
  pub first_constants : length (constants_of (terms (expressions ws xs (first_rows ws xs)))) ≡ 4 * buses ws + 4 * branches ws + 2 * ratings ws xs
  unfolding rows
  first_constants =
      row_constants_is ws xs (first_rows ws xs)
      ∙ omega (arith, weight_append (row_size ws xs 1 0 0) (first_rows ws xs) (each (generators ws) (segment_rows ws xs)), rows_size ws xs 1 0 0 W, segments_size ws xs 1 0 0)

  pub count_of_constants : length (constants64 ws xs) ≡ 4 * buses ws + 16 * branches ws + 2 * ratings ws xs + 2 * segments_before ws (generators ws) + objective_constants ws
  unfolding model model_constants
  count_of_constants =
      let es = expressions ws xs (rows ws xs) in
      count_constants ws xs ∙ length-append (constants_of (terms (shared_parts ws xs))) (constants_of (terms es) ++ constants (objective ws xs))
      ∙ omega (
        arith,
        length-append (constants_of (terms es)) (constants (objective ws xs)),
        shared_constants ws xs,
        row_constants_is ws xs (rows ws xs),
        rows_size ws xs 1 0 0 W,
        objective_constants_is ws xs,
      )

  pub count_of_words : length (file_words ws xs)
      ≡ 15 * buses ws + 2 * generators ws + 74 * branches ws + 2 * references ws + 4 * spreads ws + 16 * ratings ws xs + 8 * segments_before ws (generators ws) + 2 + objective_words ws
  unfolding file_words model model_words objective_words
  count_of_words =
      length-append (part_words 10 0 0 (terms (shared_parts ws xs))) (part_words 11 0 k (terms es) ++ (word 12 0 ∷ words j (objective ws xs) ++ (word 13 0 ∷ [])))
      ∙ omega (
        arith,
        length-append (part_words 11 0 k (terms es)) (word 12 0 ∷ words j (objective ws xs) ++ (word 13 0 ∷ [])),
        length-append (words j (objective ws xs)) (word 13 0 ∷ []),
        of_shared,
        of_rows,
        of_objective,
      )
    where
      es : List Expr
      es = map (λ w. w.expression) (rows ws xs)

      k : ℕ
      k = at_rows (model ws xs)

      j : ℕ
      j = at_objective (model ws xs)

      of_shared : length (part_words 10 0 0 (terms (shared_parts ws xs))) ≡ 3 * buses ws + 62 * branches ws
      of_shared = parts_size 10 0 0 (shared_parts ws xs) ∙ omega (arith, length_shared ws xs, shared_size ws xs 1 1 1)

      of_rows : length (part_words 11 0 k (terms es)) ≡ 12 * buses ws + 2 * generators ws + 12 * branches ws + 2 * references ws + 4 * spreads ws + 16 * ratings ws xs + 8 * segments_before ws (generators ws)
      of_rows =
          parts_size 11 0 k es
          ∙ omega (arith, length-map (rows ws xs) (λ w. w.expression), count_rows ws xs, weight_map (measure 1 1 1) (λ w. w.expression) (rows ws xs), rows_size ws xs 1 1 1 W)

      of_objective : length (words j (objective ws xs)) ≡ objective_words ws
      of_objective = words_size j (objective ws xs) ∙ objective_size ws xs 1 1 1 ∙ ap (λ x. cond (costs ws && not (eqb (generators ws) 0)) x 1) (omega arith)
