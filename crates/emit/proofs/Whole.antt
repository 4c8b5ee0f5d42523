-- The whole file as tokens: shared parts, rows, objective and end.
use Prim.Native.Nat.{ℕ, suc, ◌+◌, ◌≤◌}
use native.Mathlib.Omega.{arith}
use mathlib.Core.Path.{◌≡◌, refl, sym, ap, ◌∙◌}
use mathlib.Core.Bool.{Bool, true, false, cond}
use mathlib.Core.List.{List, [], ◌∷◌, ◌++◌, map, append_assoc, append-nil}
use lib.ListN.{length, length-append, length-map}
use lib.Dec.{eqb}
use lib.Ieee.{Float, binary64, of_bits}
use borrow.Author.Tests.{ne_eqb}
use Rattle.base.specs.Loop.{table, each, keep}
use Rattle.base.specs.Word.{word}
use Rattle.base.proofs.Loops.{length_table}
use Rattle.nl.specs.Expr.{Expr, constants, constants_of}
use Rattle.nl.specs.File.{model_words, model_constants}
use Rattle.network.specs.Network.{buses, generators, branches, references, costs, curved, segments, angled}
use Rattle.network.specs.declared.layout.Layout.{Layout}
use Rattle.network.specs.Layout.{Laid, layout_of}
use Rattle.acopf.specs.Build.{terms, sum}
use Rattle.acopf.specs.Factor.{constants64}
use Rattle.acopf.specs.Model.{cost_term, objective, model, file_words}
use Rattle.acopf.specs.Parts.{branch_parts, shared_parts, p_from_part, q_from_part, p_to_part, q_to_part}
use Rattle.acopf.specs.Rows.{Row, rows, p_balance_row, q_balance_row, reference_row, angle_row, rated, thermal_row, thermal_rows, segment_row, segment_rows}
use Rattle.acopf.proofs.Counts.{count_terms}
use Rattle.writer.specs.declared.writer.ModelWriter.{ModelWriter}
use Rattle.base.specs.internal.Section.{Wrote}
use Rattle.writer.specs.internal.Tokens.{Token, fixed, numbered, begins, words_from, numbers_of, begun, tokens, list_tokens, part_tokens, Written, Room}
use Rattle.parts.specs.internal.Parts.{shared_tokens}
use Rattle.balance.specs.declared.balance.Power.TheVariants.{Active, Reactive}
use Rattle.balance.specs.internal.Balance.{balance_of, balances_of}
use Rattle.emit.specs.internal.Rows.{angle_tokens, thermal_tokens, curve_tokens}
use Rattle.emit.specs.internal.Objective.{sum_head, cost_count, objective_tokens}
use Rattle.emit.specs.internal.Whole.{bus_rows, branch_rows, objective_and_end, row_tokens}
use Rattle.emit.proofs.Few.{all_most}
use Rattle.base.proofs.Sections.{then}
use Rattle.base.proofs.Sections.{wrote_length}
use Rattle.writer.proofs.Tokens.{map_append, numbers_append, words_append, length_words, parts_append, parts_each, parts_table, each_through, each_same, each_zero, table_each, list_terms, list_each, part_words_are, part_numbers_are, words_are, numbers_are}

shared_are : (ws : List ℕ) (xs : List Float) → part_tokens 10 (shared_parts ws xs) ≡ shared_tokens ws xs (buses ws) (branches ws)
unfolding shared_parts shared_tokens
shared_are ws xs = parts_append 10 (table (buses ws) _) (each (branches ws) (branch_parts ws xs)) ∙ rw (parts_table, parts_each)

-- ---- rows

abbrev row_parts : List Row → List Token
row_parts rs = part_tokens 11 (map (λ r. r.expression) rs)

rows_append : (u v : List Row) → row_parts (u ++ v) ≡ row_parts u ++ row_parts v
rows_append u v = rw (map_append (λ (r : Row). r.expression) u v) (parts_append 11 (map (λ r. r.expression) u) (map (λ r. r.expression) v))

rows_each : (n : ℕ) (f : ℕ → List Row) → row_parts (each n f) ≡ each n (λ i. row_parts (f i))
rows_each = each_through row_parts refl rows_append

rows_table : (n : ℕ) (f : ℕ → Row) → row_parts (table n f) ≡ each n (λ i. row_parts (f i ∷ []))
rows_table n f = ap row_parts (table_each n f) ∙ rows_each n (λ i. f i ∷ [])

keep_row : (t : Bool) (r : Row) → row_parts (keep t r) ≡ part_tokens 11 (keep t r.expression)
keep_row true r = refl
keep_row false r = refl

keep_rows : (t : Bool) (r s : Row) → row_parts (keep t r ++ keep t s) ≡ part_tokens 11 (keep t r.expression ++ keep t s.expression)
keep_rows true r s = refl
keep_rows false r s = refl

thermal_are : (ws : List ℕ) (xs : List Float) (b : ℕ) → row_parts (thermal_rows ws xs b) ≡ thermal_tokens ws xs (buses ws) b
unfolding thermal_rows
thermal_are ws xs b = keep_rows (rated ws xs b) (thermal_row ws xs b (p_from_part ws b) (q_from_part ws b)) (thermal_row ws xs b (p_to_part ws b) (q_to_part ws b))

some_rows : (t : Bool) (n : ℕ) (f : ℕ → Row) → row_parts (cond t (table n f) []) ≡ each (cond t n 0) (λ i. row_parts (f i ∷ []))
some_rows true n f = rows_table n f
some_rows false n f = sym (each_zero (λ i. row_parts (f i ∷ [])))

curves_are : (ws : List ℕ) (xs : List Float) (g : ℕ) → row_parts (segment_rows ws xs g) ≡ curve_tokens ws xs g
unfolding segment_rows segment_row curve_tokens
curves_are ws xs g = some_rows (curved ws g) (segments ws g) (segment_row ws xs g)

p_rows_are : (ws : List ℕ) (xs : List Float) → each (buses ws) (λ i. row_parts (p_balance_row ws xs i ∷ [])) ≡ each (buses ws) (balance_of ws xs Active)
unfolding balance_of
p_rows_are ws xs = refl

q_rows_are : (ws : List ℕ) (xs : List Float) → each (buses ws) (λ i. row_parts (q_balance_row ws xs i ∷ [])) ≡ each (buses ws) (balance_of ws xs Reactive)
unfolding balance_of
q_rows_are ws xs = refl

-- ---- objective

sum_tokens : (es : List Expr) → tokens (sum es) ≡ sum_head (length es) ++ list_tokens es
sum_tokens [] = refl
sum_tokens (e ∷ []) = sym (append-nil (tokens e))
sum_tokens (e ∷ f ∷ es) =
    let none : eqb (suc (suc (length es))) 0 ≡ false = ne_eqb (suc (suc (length es))) 0 (λ h. omega arith) in
    let one : eqb (suc (suc (length es))) 1 ≡ false = ne_eqb (suc (suc (length es))) 1 (λ h. omega arith) in
    rw (count_terms es, list_terms es, none, one)

list_table : (n : ℕ) (f : ℕ → Expr) → list_tokens (table n f) ≡ each n (λ i. list_tokens (f i ∷ []))
list_table n f = ap list_tokens (table_each n f) ∙ list_each n (λ i. f i ∷ [])

sum_if : (p : Bool) (k : ℕ) (f : ℕ → Expr) → tokens (sum (cond p (table k f) [])) ≡ sum_head (cost_count p k) ++ each (cost_count p k) (λ g. list_tokens (f g ∷ []))
sum_if true k f = sum_tokens (table k f) ∙ rw (length_table k f, list_table k f)
sum_if false k f = rw (each_zero (λ g. list_tokens (f g ∷ [])))

objective_is : (ws : List ℕ) (xs : List Float) → fixed (word 12 0) ∷ tokens (objective ws xs) ++ (fixed (word 13 0) ∷ []) ≡ objective_and_end ws xs (layout_of ws)
unfolding objective objective_tokens objective_and_end
objective_is ws xs = rw (sum_if (costs ws) (generators ws) (cost_term ws xs))

-- ---- a model's words and constants

module _ (es fs : List Expr) (o : Expr) where
  abbrev after : List Token
  after = part_tokens 11 fs ++ (fixed (word 12 0) ∷ tokens o ++ (fixed (word 13 0) ∷ []))

  used : (kind : ℕ) (l : List Expr) → length (constants_of (terms l)) ≡ length (numbers_of (part_tokens kind l))
  used kind l = sym (length-map (constants_of (terms l)) (of_bits binary64)) ∙ ap length (part_numbers_are kind l)

  words_of_model : model_words (record { shared = terms es; rows = terms fs; objective = o }) ≡ words_from 0 0 (part_tokens 10 es) ++ words_from (length (numbers_of (part_tokens 10 es))) 0 after
  unfolding model_words
  words_of_model =
      let k = length (numbers_of (part_tokens 10 es)) in
      let i = 0 + begun (part_tokens 11 fs) in
      rw (
        used 10 es,
        used 11 fs,
        part_words_are 10 0 0 es,
        part_words_are 11 0 k fs,
        words_are (k + length (numbers_of (part_tokens 11 fs))) i o,
        words_append k 0 (part_tokens 11 fs) (fixed (word 12 0) ∷ tokens o ++ (fixed (word 13 0) ∷ [])),
        words_append (k + length (numbers_of (part_tokens 11 fs))) i (tokens o) (fixed (word 13 0) ∷ []),
      )

  numbers_of_model : map (of_bits binary64) (model_constants (record { shared = terms es; rows = terms fs; objective = o })) ≡ numbers_of (part_tokens 10 es) ++ numbers_of after
  unfolding model_constants
  numbers_of_model =
      rw (
        map_append (of_bits binary64) (constants_of (terms es)) (constants_of (terms fs) ++ constants o),
        map_append (of_bits binary64) (constants_of (terms fs)) (constants o),
        part_numbers_are 10 es,
        part_numbers_are 11 fs,
        numbers_are o,
        numbers_append (part_tokens 11 fs) (fixed (word 12 0) ∷ tokens o ++ (fixed (word 13 0) ∷ [])),
        numbers_append (tokens o) (fixed (word 13 0) ∷ []),
        append-nil (numbers_of (tokens o)),
      )

-- ---- all rows

rows_are : (ws : List ℕ) (xs : List Float) → row_parts (rows ws xs) ++ (fixed (word 12 0) ∷ tokens (objective ws xs) ++ (fixed (word 13 0) ∷ [])) ≡ row_tokens ws xs (layout_of ws)
unfolding rows row_tokens bus_rows balances_of branch_rows
rows_are ws xs =
    let f = table (buses ws) (p_balance_row ws xs) in
    let g = table (buses ws) (q_balance_row ws xs) in
    let h = table (references ws) (reference_row ws xs) in
    let i = each (branches ws) (λ b. keep (angled ws b) (angle_row ws xs b)) in
    let j = each (branches ws) (thermal_rows ws xs) in
    let l = each (generators ws) (segment_rows ws xs) in
    let angles : row_parts i ≡ each (branches ws) (angle_tokens ws) = rows_each (branches ws) _ ∙ each_same (branches ws) _ _ (λ b. keep_row (angled ws b) (angle_row ws xs b)) in
    let thermals : row_parts j ≡ each (branches ws) (thermal_tokens ws xs (buses ws)) = rows_each (branches ws) _ ∙ each_same (branches ws) _ _ (thermal_are ws xs) in
    let curves : row_parts l ≡ each (generators ws) (curve_tokens ws xs) = rows_each (generators ws) _ ∙ each_same (generators ws) _ _ (curves_are ws xs) in
    rw (
      rows_append ((((f ++ g) ++ h) ++ i) ++ j) l,
      rows_append (((f ++ g) ++ h) ++ i) j,
      rows_append ((f ++ g) ++ h) i,
      rows_append (f ++ g) h,
      rows_append f g,
      angles,
      thermals,
      curves,
      objective_is ws xs,
      rows_table (buses ws) (p_balance_row ws xs),
      rows_table (buses ws) (q_balance_row ws xs),
      rows_table (references ws) (reference_row ws xs),
      p_rows_are ws xs,
      q_rows_are ws xs,
    )
    (simp append_assoc)

words_whole : (ws : List ℕ) (xs : List Float) → file_words ws xs ≡ words_from 0 0 (shared_tokens ws xs (buses ws) (branches ws)) ++ words_from (length (numbers_of (shared_tokens ws xs (buses ws) (branches ws)))) 0 (row_tokens ws xs (layout_of ws))
unfolding file_words model
words_whole ws xs = words_of_model (shared_parts ws xs) (map (λ r. r.expression) (rows ws xs)) (objective ws xs) ∙ rw (shared_are ws xs, rows_are ws xs)

numbers_whole : (ws : List ℕ) (xs : List Float) → constants64 ws xs ≡ numbers_of (shared_tokens ws xs (buses ws) (branches ws)) ++ numbers_of (row_tokens ws xs (layout_of ws))
unfolding constants64 model
numbers_whole ws xs = numbers_of_model (shared_parts ws xs) (map (λ r. r.expression) (rows ws xs)) (objective ws xs) ∙ rw (shared_are ws xs, rows_are ws xs)

-- ---- a writer at the lists' beginning, and then again with the parts' numbers from 0

numbers_le : (ts : List Token) → length (numbers_of ts) ≤ length ts
numbers_le [] = omega arith
numbers_le (fixed w ∷ ts) = omega (arith, numbers_le ts)
numbers_le (numbered w ∷ ts) = omega (arith, numbers_le ts)
numbers_le (begins w ∷ ts) = omega (arith, numbers_le ts)

begun_le : (ts : List Token) → begun ts ≤ length ts
begun_le [] = omega arith
begun_le (fixed w ∷ ts) = omega (arith, begun_le ts)
begun_le (numbered w ∷ ts) = omega (arith, begun_le ts)
begun_le (begins w ∷ ts) = omega (arith, begun_le ts)

pub record Begins (p : ModelWriter) : Type 0 where
  pub word : p.word ≡ 0
  pub constant : p.constant ≡ 0
  pub part : p.part ≡ 0

abbrev pub again : ModelWriter → ModelWriter
again q = record { words = q.words; constants = q.constants; word = q.word; constant = q.constant; part = 0 }

words_length : (u v : List Token) {ws : List ℕ} → ws ≡ words_from 0 0 u ++ words_from (length (numbers_of u)) 0 v → length ws ≡ length u + length v
words_length u v e =
    omega (arith, ap length e, length-append (words_from 0 0 u) (words_from (length (numbers_of u)) 0 v), length_words 0 0 u, length_words (length (numbers_of u)) 0 v)

module _ {p : ModelWriter} (B : Begins p) (u v : List Token) {ws : List ℕ} {cs : List Float} (ew : ws ≡ words_from 0 0 u ++ words_from (length (numbers_of u)) 0 v) (ec : cs ≡ numbers_of u ++ numbers_of v) where
  lw : length ws ≡ length u + length v
  lw = words_length u v ew

  lc : length cs ≡ length (numbers_of u) + length (numbers_of v)
  lc = omega (arith, ap length ec, length-append (numbers_of u) (numbers_of v))

  pub room_shared : length ws ≤ length p.words.now → length cs ≤ length p.constants.now → length ws ≤ 268435456 → Room p u
  room_shared a b d = record {
    words = omega (arith, lw, a);
    numbers = omega (arith, lc, b);
    constants = omega (arith, lw, numbers_le u, d);
    parts = omega (arith, lw, begun_le u, d);
  }

  pub room_rows : {q : ModelWriter} → length ws ≤ length p.words.now → length cs ≤ length p.constants.now → length ws ≤ 268435456 → Written p u q → Room (again q) v
  room_rows a b d k = record {
    words = omega (arith, lw, a, wrote_length k.words, k.words.follows, length_words p.constant p.part u);
    numbers = omega (arith, lc, b, wrote_length k.numbers, k.numbers.follows);
    constants = omega (arith, lw, numbers_le u, numbers_le v, d, k.numbers.follows);
    parts = omega (arith, lw, begun_le v, d);
  }

  pub both_words : {q r : ModelWriter} → Written p u q → Written (again q) v r → Wrote p.words.now 0 ws r.words.now r.word
  both_words {q} {r} a b =
      let e : q.constant ≡ length (numbers_of u) = omega (arith, a.numbers.follows) in
      rw ew (rw (B.word, B.constant, B.part, e) at (then a.words b.words))

  pub both_numbers : {q r : ModelWriter} → Written p u q → Written (again q) v r → Wrote p.constants.now 0 cs r.constants.now r.constant
  both_numbers a b = rw ec (rw B.constant at (then a.numbers b.numbers))

module _ {ws : List ℕ} {xs : List Float} {l : Layout} (L : Laid ws xs l) where
  abbrev us : List Token
  us = shared_tokens ws xs l.buses l.branches

  pub words_at : file_words ws xs ≡ words_from 0 0 us ++ words_from (length (numbers_of us)) 0 (row_tokens ws xs l)
  words_at = rw L.words.is (words_whole ws xs)

  pub numbers_at : constants64 ws xs ≡ numbers_of us ++ numbers_of (row_tokens ws xs l)
  numbers_at = rw L.words.is (numbers_whole ws xs)

  -- every running number fits in 28 bits
  pub few_words : length (file_words ws xs) ≤ 268435456
  few_words = omega (arith, words_length us (row_tokens ws xs l) words_at, all_most L)
