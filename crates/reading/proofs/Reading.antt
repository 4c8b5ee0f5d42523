-- Condition 3 of document 00, for the file that compile writes: "For every accepted network, reading the file written yields exactly the shared parts, rows
-- and objective of condition 2." What `ReadsAs` says is in specs/ReadsAs.antt, what is written in specs/Written.antt. The condition's sentences on whatever words,
-- constants and columns are in nl, proofs/Condition3.antt.
use mathlib.Core.Path.{◌≡◌, refl, sym, ◌∙◌}
use mathlib.Core.Logic.{◌↔◌}
use mathlib.Core.List.{List}
use Prim.Native.Nat.{ℕ, ◌^◌, ◌<◌}
use native.Mathlib.Omega.{arith}
use lib.ListN.{length, get_or}
use lib.Ieee.{Float}
use Rattle.base.specs.Fault.{clear, packed}
use Rattle.base.proofs.Loops.{all_at}
use Rattle.float.specs.Doubles.{Doubles}
use Rattle.nl.specs.Expr.{count}
use Rattle.nl.specs.File.{model_words, model_constants, StandsFor}
use Rattle.network.specs.Network.{columns}
use Rattle.tables.proofs.Laid.{words_laid}
use Rattle.acopf.specs.Rows.{rows}
use Rattle.acopf.specs.Model.{model, file_words}
use Rattle.acopf.specs.Factor.{constants64, network_fault}
use Rattle.acopf.proofs.Counts.{count_constants, lower_columns, lower_rows}
use Rattle.acopf.proofs.Right.{tables_clear}
use Rattle.compile.specs.Compile.{Answer, compiled, sized}
use Rattle.compile.specs.Lists.{Lists, lent, Held}
use Rattle.compile.proofs.Counts.{counted, compiled_exactly, fronts, told}
use Rattle.reading.specs.ReadsAs.{ReadsAs}
use Rattle.reading.specs.Written.{front_words, front_bits, FileReads}
use Rattle.reading.proofs.Stands.{stands}
use Rattle.reading.proofs.Read.{reads_as}
use Rattle.reading.proofs.Bits.{Pattern, patterns, bits_back}
use Rattle.reading.proofs.Widths.{file_fits}

module _ (ws : List ℕ) (xs : List Float) where
  -- 1. Of a network that none of refusals 1 to 11 meets, the words and constants of its model's file stand for the model. That every load fits in 28 bits and that
  -- expressions nest at most 8 deep follows from the network's limits.
  pub written_stands : network_fault ws xs ≡ clear → StandsFor (file_words ws xs) (model_constants (model ws xs)) (columns ws) (model ws xs)
  unfolding file_words
  written_stands accepted = stands ws xs (words_laid ws xs (tables_clear ws xs accepted))

  -- They are read as that model and as no other, and the finder, told the numbers of constants and columns, answers its rows.
  pub written_reads : network_fault ws xs ≡ clear → ReadsAs (file_words ws xs) (model_constants (model ws xs)) (length (constants64 ws xs)) (columns ws) (length (rows ws xs)) ws xs
  written_reads accepted = rw (count_constants ws xs) (reads_as ws xs (file_words ws xs) (model_constants (model ws xs)) (columns ws) (written_stands accepted))

  -- 2. The same through compile's answer, where it refuses nothing, whatever lengths were lent and whatever the lists of words and constants held before.
  pub compiled_reads : Doubles xs → (lent : List ℕ) → (compiled ws xs lent).fault.number ≡ 0 → (held_words : List ℕ) (held_constants : List Float)
      → ReadsAs (front_words ws xs lent held_words) (front_bits ws xs lent held_constants) (compiled ws xs lent).constants (compiled ws xs lent).columns (compiled ws xs lent).rows ws xs
  compiled_reads doubles lent e held_words held_constants =
      let accepted = ((compiled_exactly ws xs lent).0 e).0 in
      let n = counted ws xs lent e in
      let f = fronts ws xs lent e in
      let c : (compiled ws xs lent).columns ≡ columns ws = n.column_lower_is ∙ lower_columns ws xs in
      let r : (compiled ws xs lent).rows ≡ length (rows ws xs) = n.row_lower_is ∙ lower_rows ws xs in
      rw (f.words held_words, f.constants held_constants, bits_back ws xs accepted doubles, n.constants, c, r) (written_reads accepted)

  -- 3. The same of a call of compile, from its contract: the first three hypotheses are the clauses of its `ensures`, in their order, with the lists at entry and at
  -- exit and r what its result answers, and the fourth is that it refuses nothing.
  pub compile_read : (before after : Lists) (r : Answer) → r ≡ compiled ws xs (lent before) → Held ws xs before after → Doubles xs → r.fault.number ≡ 0 → FileReads r after ws xs
  compile_read before after r is held doubles e =
      rw (is, held.words, held.constants) (compiled_reads doubles (lent before) (rw is at e) before.words before.constants)

  -- The same across the C boundary: the clauses of fervoulk_compile's `ensures`, and that it answers 0. The counts are those of the getters, numbers of `sized`.
  pub compile_model_read : (before after : Lists) (r : ℕ) → r ≡ packed (compiled ws xs (lent before)).fault → Held ws xs before after
      → Doubles xs → r ≡ 0 → FileReads (sized ws xs) after ws xs
  compile_model_read before after r is held doubles e =
      let c = compiled ws xs (lent before) in
      let z : packed c.fault ≡ 0 = sym is ∙ e in
      let n : c.fault.number ≡ 0 = omega (arith, z) in
      rw (← told ws xs (lent before) n) (compile_read before after c refl held doubles n)

  -- 4. The five counts of its answer are the model's.
  pub model_counts : (lent : List ℕ) → (compiled ws xs lent).fault.number ≡ 0
      → ((compiled ws xs lent).words ≡ length (model_words (model ws xs))) × ((compiled ws xs lent).constants ≡ length (model_constants (model ws xs))) × ((compiled ws xs lent).columns ≡ columns ws)
      × ((compiled ws xs lent).rows ≡ count (model ws xs).rows) × ((compiled ws xs lent).shared ≡ count (model ws xs).shared)
  unfolding file_words
  model_counts lent e =
      let n = counted ws xs lent e in
      (n.words, n.model_constants_is, n.column_lower_is ∙ lower_columns ws xs, n.model_rows, n.model_shared)

  -- 5. Every word fits in 32 bits, and every constant's pattern in 64.
  pub words_fit : network_fault ws xs ≡ clear → (i : ℕ) → i < length (file_words ws xs) → get_or (file_words ws xs) i 0 < 2 ^ 32
  words_fit accepted = file_fits (file_words ws xs) (model_constants (model ws xs)) (columns ws) (model ws xs) (written_stands accepted)

  pub constants_fit : Doubles xs → (i : ℕ) → i < length (model_constants (model ws xs)) → get_or (model_constants (model ws xs)) i 0 < 2 ^ 64
  constants_fit doubles i h = all_at Pattern 0 (model_constants (model ws xs)) (patterns ws xs doubles) i 0 h

-- 6. "Any two files .. have equal words and bitwise equal constants exactly when they stand for the same shared parts, rows and objective", where compile wrote both.
-- (`same` of `ReadsAs` has it for a file that compile wrote and any other that passes reading.)
module _ (ws ws' : List ℕ) (xs xs' : List Float) (doubles : Doubles xs) (doubles' : Doubles xs') where
  pub same_networks : (lent lent' : List ℕ) → (compiled ws xs lent).fault.number ≡ 0 → (compiled ws' xs' lent').fault.number ≡ 0
      → (held_words held_words' : List ℕ) (held_constants held_constants' : List Float)
      → ((front_words ws xs lent held_words ≡ front_words ws' xs' lent' held_words') × (front_bits ws xs lent held_constants ≡ front_bits ws' xs' lent' held_constants')) ↔ (model ws xs ≡ model ws' xs')
  same_networks lent lent' e e' held_words held_words' held_constants held_constants' =
      (compiled_reads ws xs doubles lent e held_words held_constants).same _ _ _ (model ws' xs') (compiled_reads ws' xs' doubles' lent' e' held_words' held_constants').stands
