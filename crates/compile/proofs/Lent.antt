-- What the lent lists hold after compile: as they were where the answer refuses, else what their writers wrote; and the room that writers ask for.
use mathlib.Core.Path.{◌≡◌, ap, sym, ◌∙◌}
use mathlib.Core.List.{List, ◌++◌}
use Prim.Native.Nat.{ℕ, ◌≤◌}
use lib.ListN.{length, drop}
use lib.Ieee.{Float}
use borrow.Author.Tests.{eq-eqb}
use Rattle.base.specs.Fault.{left}
use Rattle.base.proofs.Firsts.{Clear}
use Rattle.base.proofs.Left.{left_refused}
use Rattle.network.specs.Network.{columns}
use Rattle.tables.specs.Fault.{fault_tables}
use Rattle.acopf.specs.Columns.{column_lower, column_upper, column_start}
use Rattle.acopf.specs.Rows.{rows, row_lower, row_upper}
use Rattle.acopf.specs.Model.{file_words}
use Rattle.acopf.specs.Factor.{constants64}
use Rattle.acopf.proofs.Counts.{lower_columns, upper_columns, start_columns, lower_rows, upper_rows}
use Rattle.acopf.proofs.Right.{tables_clear}
use Rattle.compile.specs.Compile.{Answer, compile_fault, compiled}
use Rattle.compile.specs.Lists.{Lists, lent, Held}
use Rattle.compile.specs.Counted.{Suffice}
use Rattle.compile.proofs.Counts.{fault_is, compiled_exactly}

-- the list with a writer's result in front
abbrev Front : {A : Type 0} → List A → List A → List A → Type 0
Front result before after = after ≡ result ++ drop (length result) before

module _ (ws : List ℕ) (xs : List Float) (before : Lists) {answer : Answer} (is : answer ≡ compiled ws xs (lent before)) where
  numbers_agree : answer.fault.number ≡ (compile_fault ws xs (lent before)).number
  numbers_agree = ap (λ a. a.fault.number) is ∙ ap (λ f. f.number) (fault_is ws xs (lent before))

  module _ (refuses : answer.fault.number ≡ 0 → ⊥) where
    as_it_was : {A : Type 0} (result held : List A) → held ≡ left (compile_fault ws xs (lent before)) result held
    as_it_was result held = sym (left_refused (compile_fault ws xs (lent before)) result held (λ c. refuses (numbers_agree ∙ c)))

    pub held_as_was : Held ws xs before before
    held_as_was =
        record {
          words = as_it_was (file_words ws xs) before.words;
          constants = as_it_was (constants64 ws xs) before.constants;
          column_lower_is = as_it_was (column_lower ws xs) before.column_lower_is;
          column_upper_is = as_it_was (column_upper ws xs) before.column_upper_is;
          start = as_it_was (column_start ws xs) before.start;
          row_lower_is = as_it_was (row_lower ws xs) before.row_lower_is;
          row_upper_is = as_it_was (row_upper ws xs) before.row_upper_is;
        }

  module _ (accepts : answer.fault.number ≡ 0) where
    as_written : {A : Type 0} (result held : List A) {after : List A} → Front result held after → after ≡ left (compile_fault ws xs (lent before)) result held
    as_written result held e = e ∙ rw (eq-eqb _ _ (sym numbers_agree ∙ accepts))

    pub held_as_written : {after : Lists} → Front (file_words ws xs) before.words after.words → Front (constants64 ws xs) before.constants after.constants
        → Front (column_lower ws xs) before.column_lower_is after.column_lower_is → Front (column_upper ws xs) before.column_upper_is after.column_upper_is
        → Front (column_start ws xs) before.start after.start → Front (row_lower ws xs) before.row_lower_is after.row_lower_is
        → Front (row_upper ws xs) before.row_upper_is after.row_upper_is → Held ws xs before after
    held_as_written w c l u s rl ru =
        record {
          words = as_written (file_words ws xs) before.words w;
          constants = as_written (constants64 ws xs) before.constants c;
          column_lower_is = as_written (column_lower ws xs) before.column_lower_is l;
          column_upper_is = as_written (column_upper ws xs) before.column_upper_is u;
          start = as_written (column_start ws xs) before.start s;
          row_lower_is = as_written (row_lower ws xs) before.row_lower_is rl;
          row_upper_is = as_written (row_upper ws xs) before.row_upper_is ru;
        }

    -- what the writers ask for
    exactly : (compiled ws xs (lent before)).fault.number ≡ 0
    exactly = ap (λ a. a.fault.number) (sym is) ∙ accepts

    pub tables_right : Clear (fault_tables ws xs)
    tables_right = tables_clear ws xs ((compiled_exactly ws xs (lent before)).0 exactly).0

    suffices : Suffice ws xs (lent before)
    suffices = ((compiled_exactly ws xs (lent before)).0 exactly).1

    pub file_room : (length (file_words ws xs) ≤ length before.words) × (length (constants64 ws xs) ≤ length before.constants)
    file_room = (suffices.words, suffices.constants)

    pub column_room : (columns ws ≤ length before.column_lower_is) × (columns ws ≤ length before.column_upper_is) × (columns ws ≤ length before.start)
    column_room = (
      rw (lower_columns ws xs) at suffices.column_lower_is,
      rw (upper_columns ws xs) at suffices.column_upper_is,
      rw (start_columns ws xs) at suffices.column_start_is,
    )

    pub row_room : (length (rows ws xs) ≤ length before.row_lower_is) × (length (rows ws xs) ≤ length before.row_upper_is)
    row_room = (rw (lower_rows ws xs) at suffices.row_lower_is, rw (upper_rows ws xs) at suffices.row_upper_is)
