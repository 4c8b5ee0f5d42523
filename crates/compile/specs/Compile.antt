-- Document 01, "The model file" and refusal 12: what compile answers, and what the seven lent lists then hold.
use Rattle.std.specs.Prelude.{ℕ, ◌+◌, cond, List, [], ◌∷◌, ◌++◌, length, get_or, eqb, leb, Float, Result, Ok, Err}
use Rattle.base.specs.Fault.{Fault}
use Rattle.base.specs.Fault.{fault, clear, shown, unless, first, Section, section, first_of, left}
use Rattle.base.specs.Refusal.{SHORT}
use Rattle.float.specs.Number.{zero64}
use Rattle.network.specs.Network.{columns}
use Rattle.acopf.specs.Columns.{column_lower, column_upper, column_start}
use Rattle.acopf.specs.Parts.{shared_parts}
use Rattle.acopf.specs.Rows.{rows, row_lower, row_upper}
use Rattle.acopf.specs.Model.{objective_constant, file_words}
use Rattle.acopf.specs.Factor.{constants64, network_sections}
use Rattle.compile.specs.declared.Compiled.{Compiled}
use Rattle.base.specs.declared.refusal.Refusal.{Refusal}

-- what the answer says: a refusal's number and place, five counts and the objective constant
pub record Answer : Type 0 where
  pub fault : Fault
  pub words : ℕ
  pub constants : ℕ
  pub columns : ℕ
  pub rows : ℕ
  pub shared : ℕ
  pub objective : Float

-- "A refusal gives number and place, all else 0"
unfoldable pub refused : Fault → Answer
refused f = record { fault = f; words = 0; constants = 0; columns = 0; rows = 0; shared = 0; objective = zero64 }

-- what is said where nothing is refused, and the answer as it is said
abbrev pub counted : Compiled → Answer
counted c =
    record {
      fault = clear;
      words = c.words;
      constants = c.constants;
      columns = c.columns;
      rows = c.rows;
      shared = c.shared;
      objective = c.objective;
    }

abbrev pub answer_of : Result Compiled Refusal → Answer
answer_of (Ok c) = counted c
answer_of (Err r) = refused (shown r)

module _ (ws : List ℕ) (xs : List Float) where
  -- the results' lengths: "Seven lists, in refusal 12's order: words, constants, column lower, upper, start, row lower, upper"
  unfoldable pub lengths : List ℕ
  lengths =
      length (file_words ws xs) ∷ length (constants64 ws xs) ∷ columns ws ∷ columns ws ∷ columns ws
      ∷ length (rows ws xs) ∷ length (rows ws xs) ∷ []

  -- 12 short: "output list short; its number from 1". `lent` has the seven lengths
  unfoldable pub fault_short : List ℕ → Fault
  fault_short lent =
      let needs = lengths in
      first 7 (λ i. unless (leb (get_or needs i 0) (get_or lent i 0)) (fault SHORT (i + 1)))

  -- "Compile uses 1-12"
  abbrev pub compile_sections : List ℕ → List Section
  compile_sections lent = network_sections ws xs ++ (section (SHORT ∷ []) (fault_short lent) ∷ [])

  unfoldable pub compile_fault : List ℕ → Fault
  compile_fault lent = first_of (compile_sections lent)

  -- "five counts (words, constants, columns, rows, shared parts) and the objective constant"
  unfoldable pub accepted : Answer
  accepted =
      record {
        fault = clear;
        words = length (file_words ws xs);
        constants = length (constants64 ws xs);
        columns = columns ws;
        rows = length (rows ws xs);
        shared = length (shared_parts ws xs);
        objective = objective_constant ws xs;
      }

  -- the answer with this refusal, or with none
  abbrev pub answered : Fault → Answer
  answered f = cond (eqb f.number 0) accepted (refused f)

  -- the answer, where the seven lists have the lengths `lent`
  unfoldable pub compiled : List ℕ → Answer
  compiled lent =
      let f = compile_fault lent in
      answered f

  -- the answer where each list is exactly as long as its result: a host sizes its lists by it
  unfoldable pub sized : Answer
  sized = compiled lengths

  -- what the seven lists hold after the call, from what they held before: the result in front and the rest as it was, or all as it was
  module _ (lent : List ℕ) where
    abbrev pub words_after : List ℕ → List ℕ
    words_after before = left (compile_fault lent) (file_words ws xs) before

    abbrev pub constants_after : List Float → List Float
    constants_after before = left (compile_fault lent) (constants64 ws xs) before

    abbrev pub column_lower_after : List Float → List Float
    column_lower_after before = left (compile_fault lent) (column_lower ws xs) before

    abbrev pub column_upper_after : List Float → List Float
    column_upper_after before = left (compile_fault lent) (column_upper ws xs) before

    abbrev pub start_after : List Float → List Float
    start_after before = left (compile_fault lent) (column_start ws xs) before

    abbrev pub row_lower_after : List Float → List Float
    row_lower_after before = left (compile_fault lent) (row_lower ws xs) before

    abbrev pub row_upper_after : List Float → List Float
    row_upper_after before = left (compile_fault lent) (row_upper ws xs) before
