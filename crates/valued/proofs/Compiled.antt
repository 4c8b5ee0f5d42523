-- Row values of the file of an accepted network, whatever lengths were lent to compile and whatever its lists of words and constants held before: what reading it yields,
-- which refusals it can meet, and the values of its rows at a point. What a file is, is in specs/File.antt.
use mathlib.Core.Path.{◌≡◌, refl, ap, sym, ◌∙◌}
use mathlib.Core.Bool.{Bool, true, false}
use mathlib.Core.Logic.{◌⊎◌, inl, inr}
use mathlib.Core.List.{List, [], map}
use Prim.Native.Nat.{ℕ, ◌+◌, ◌*◌, ◌≤◌, ◌<◌}
use native.Mathlib.Omega.{arith}
use lib.Dec.{ltb}
use lib.ListN.{length, length-map, get_or, take, get_or-eq_default}
use lib.Ieee.{Float, nan}
use borrow.Author.Tests.{ltb-true, ltb-false}
use Rattle.std.proofs.lemmas.List.{get_or_default}
use Rattle.base.specs.Fault.{or_else}
use Rattle.base.specs.Refusal.{SIZE, SHORT, POINT, SWING, MODEL, VALUE}
use Rattle.base.proofs.Left.{left_front}
use Rattle.float.specs.Doubles.{Doubles}
use Rattle.float.specs.Number.{zero64}
use Rattle.nl.specs.Expr.{count}
use Rattle.bounds.specs.Bounds.{angle_right}
use Rattle.network.specs.Layout.{layout_of, LaidWords}
use Rattle.network.specs.Network.{number, buses, references, referred, columns, va_column}
use Rattle.tables.proofs.Laid.{words_laid}
use Rattle.acopf.specs.Parts.{shared_parts}
use Rattle.acopf.specs.Rows.{Row, rows}
use Rattle.acopf.specs.Model.{objective, model}
use Rattle.acopf.proofs.Counts.{length_shared, model_shared, lower_columns, lower_rows}
use Rattle.acopf.proofs.Right.{tables_clear}
use Rattle.compile.specs.Compile.{compiled}
use Rattle.compile.proofs.Counts.{counted, compiled_exactly}
use Rattle.reading.specs.Written.{front_words, front_bits}
use Rattle.reading.proofs.Reading.{compiled_reads}
use Rattle.model_reading.specs.Reading.{shared_limit, yields}
use Rattle.model_reading.proofs.Reading.{yields_exactly}
use Rattle.expression.specs.Value.{value}
use Rattle.lists.specs.Finite.{point_fault}
use Rattle.row_values.specs.Answer.{values_fault, room_fault, refusal, all_shared, all_rows, objective_value}
use Rattle.valued.specs.File.{part_values, file_reading, file_refusal, file_shared_after, file_rows_after}
use Rattle.valued.specs.Spared.{AnglesRight, Spared}
use Rattle.valued.proofs.Difference.{nan_not_right}
use Rattle.valued.proofs.SharedParts.{length_values}
use Rattle.valued.proofs.Numbers.{or_has, room_has, point_has, values_has, refusal_is}
use Rattle.valued.proofs.ModelValues.{row_values_is, row_value, reference_value, model_spared}

module _ (ws : List ℕ) (xs : List Float) (lent : List ℕ) (e : (compiled ws xs lent).fault.number ≡ 0) where
  network_laid : LaidWords ws (layout_of ws)
  network_laid = words_laid ws xs (tables_clear ws xs ((compiled_exactly ws xs lent).0 e).0)

  columns_are : (compiled ws xs lent).columns ≡ columns ws
  columns_are = (counted ws xs lent e).column_lower_is ∙ lower_columns ws xs

  -- 4,352 is 256 + 8 × 512
  pub shared_within : count (model ws xs).shared ≤ shared_limit
  shared_within = omega (arith, model_shared ws xs, network_laid.few_buses, network_laid.few_branches)

  -- 14 spares every shared part, by the values of those before it, every row and the objective, where each bus's angle is accepted
  pub compiled_spared : (point : List Float) → AnglesRight ws point → Spared point (model ws xs)
  compiled_spared point right = model_spared ws xs point network_laid right

  module _ (doubles : Doubles xs) (held_words : List ℕ) (held_constants : List Float) where
    -- 1. its file is read as the model of condition 2
    pub compiled_yields : file_reading ws xs lent held_words held_constants ≡ yields (model ws xs)
    compiled_yields =
        (yields_exactly (front_words ws xs lent held_words) (front_bits ws xs lent held_constants) (compiled ws xs lent).columns (model ws xs)).1
        (compiled_reads ws xs doubles lent e held_words held_constants).stands

    -- 2. it meets only 12, 13, 14 and 19, in that order but for 14 and 19
    module _ (point : List Float) (lent_shared lent_rows : ℕ) where
      pub refused_by_is : file_refusal ws xs lent held_words held_constants point lent_shared lent_rows
          ≡ or_else (room_fault lent_shared lent_rows (model ws xs)) (or_else (point_fault point (columns ws)) (values_fault point (model ws xs)))
      refused_by_is =
          ap (refusal (compiled ws xs lent).columns point lent_shared lent_rows) compiled_yields
          ∙ refusal_is (compiled ws xs lent).columns point lent_shared lent_rows (model ws xs) shared_within
          ∙ ap (λ c. or_else (room_fault lent_shared lent_rows (model ws xs)) (or_else (point_fault point c) (values_fault point (model ws xs)))) columns_are

      -- a property of 0, 12, 13, 19 and, unless it spares the model, 14 is one of its number
      number_has : (P : ℕ → Type 0) → P 0 → P SHORT → P POINT → P VALUE → Spared point (model ws xs) ⊎ P SWING
          → P (file_refusal ws xs lent held_words held_constants point lent_shared lent_rows).number
      number_has P zero short wrong infinite swing =
          rw refused_by_is (or_has P zero (room_fault lent_shared lent_rows (model ws xs)) (or_else (point_fault point (columns ws)) (values_fault point (model ws xs)))
          (room_has P zero lent_shared lent_rows (model ws xs) short)
          (or_has P zero (point_fault point (columns ws)) (values_fault point (model ws xs)) (point_has P zero point (columns ws) wrong) (values_has P zero point infinite (model ws xs) swing)))

      -- "no accepted network's file gets 17 or 2 here"
      pub compiled_never_17 : ¬ ((file_refusal ws xs lent held_words held_constants point lent_shared lent_rows).number ≡ MODEL)
      compiled_never_17 = number_has (λ n. ¬ (n ≡ MODEL)) (λ q. omega arith) (λ q. omega arith) (λ q. omega arith) (λ q. omega arith) (inr (λ q. omega arith))

      pub compiled_never_2 : ¬ ((file_refusal ws xs lent held_words held_constants point lent_shared lent_rows).number ≡ SIZE)
      compiled_never_2 = number_has (λ n. ¬ (n ≡ SIZE)) (λ q. omega arith) (λ q. omega arith) (λ q. omega arith) (λ q. omega arith) (inr (λ q. omega arith))

      -- "so that no difference of two accepted angles is refused"
      pub compiled_never_14 : AnglesRight ws point → ¬ ((file_refusal ws xs lent held_words held_constants point lent_shared lent_rows).number ≡ SWING)
      compiled_never_14 right = number_has (λ n. ¬ (n ≡ SWING)) (λ q. omega arith) (λ q. omega arith) (λ q. omega arith) (λ q. omega arith) (inl (compiled_spared point right))

    -- 3. its values at a point, by the shared parts, rows and objective of condition 2
    module _ (point : List Float) where
      pub shared_values_are : all_shared point (file_reading ws xs lent held_words held_constants) ≡ part_values ws xs point
      unfolding model
      shared_values_are = ap (all_shared point) compiled_yields

      pub row_values_are : all_rows point (file_reading ws xs lent held_words held_constants) ≡ map (λ r. value point (part_values ws xs point) r.expression) (rows ws xs)
      unfolding model
      row_values_are = ap (all_rows point) compiled_yields ∙ row_values_is ws xs point (part_values ws xs point)

      pub objective_value_is : objective_value point (file_reading ws xs lent held_words held_constants) ≡ value point (part_values ws xs point) (objective ws xs)
      unfolding model
      objective_value_is = ap (objective_value point) compiled_yields

      -- row r, from 0 (whatever d, which stands for a row past the last)
      pub row_value_is : (r : ℕ) (d : Row) → r < length (rows ws xs)
          → get_or (all_rows point (file_reading ws xs lent held_words held_constants)) r zero64 ≡ value point (part_values ws xs point) (get_or (rows ws xs) r d).expression
      unfolding model
      row_value_is r d h = ap (λ m. get_or (all_rows point m) r zero64) compiled_yields ∙ row_value ws xs point (part_values ws xs point) r d h

      -- "for a reference's row the value is that va": the references' rows follow the two balances of each bus
      pub reference_value_is : (j : ℕ) → j < references ws
          → get_or (all_rows point (file_reading ws xs lent held_words held_constants)) (2 * buses ws + j) zero64 ≡ get_or point (va_column ws (referred ws j)) zero64
      unfolding model
      reference_value_is j h = ap (λ m. get_or (all_rows point m) (2 * buses ws + j) zero64) compiled_yields ∙ reference_value ws xs point (part_values ws xs point) j h

      -- they are what row_values writes where it refuses nothing: so many as compile's counts say
      module _ (before_shared before_rows : List Float) (z : (file_refusal ws xs lent held_words held_constants point (length before_shared) (length before_rows)).number ≡ 0) where
        pub shared_written : take (compiled ws xs lent).shared (file_shared_after ws xs lent held_words held_constants point before_shared before_rows) ≡ part_values ws xs point
        shared_written =
            left_front (file_refusal ws xs lent held_words held_constants point (length before_shared) (length before_rows)) (all_shared point (file_reading ws xs lent held_words held_constants)) before_shared
            (compiled ws xs lent).shared z (rw shared_values_are ((counted ws xs lent e).shared ∙ omega (arith, length_values point [] (shared_parts ws xs), length_shared ws xs)))
            ∙ shared_values_are

        pub rows_written : take (compiled ws xs lent).rows (file_rows_after ws xs lent held_words held_constants point before_shared before_rows)
            ≡ map (λ r. value point (part_values ws xs point) r.expression) (rows ws xs)
        rows_written =
            left_front (file_refusal ws xs lent held_words held_constants point (length before_shared) (length before_rows)) (all_rows point (file_reading ws xs lent held_words held_constants)) before_rows
            (compiled ws xs lent).rows z (rw row_values_are ((counted ws xs lent e).row_lower_is ∙ lower_rows ws xs ∙ sym (length-map (rows ws xs) _)))
            ∙ row_values_are

-- a point's angles as the check reads them, where a column that is not there is a NaN
pub check_angles : (ws : List ℕ) (point : List Float) → ((i : ℕ) → i < buses ws → angle_right (number point (va_column ws i)) ≡ true) → AnglesRight ws point
check_angles ws point h i l = go (ltb i (length point)) refl
  where
    go : (b : Bool) → ltb i (length point) ≡ b → angle_right (get_or point i zero64) ≡ true
    go true q = ap angle_right (get_or_default point i zero64 nan (ltb-true i (length point) q)) ∙ h i l
    go false q = absurd (nan_not_right (ap angle_right (sym (get_or-eq_default point nan (ltb-false i (length point) q))) ∙ h i l))
