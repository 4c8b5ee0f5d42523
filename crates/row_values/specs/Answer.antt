-- Document 02 (a): the answer, and what the two lent lists hold after the call.
use Rattle.std.specs.Prelude.{ℕ, ◌+◌, Bool, cond, List, [], ◌∷◌, ◌++◌, leb, eqb, length, Result, Ok, Err, Float}
use Rattle.base.specs.declared.refusal.Refusal.{Refusal}
use Rattle.base.specs.Fault.{Fault, fault, clear, unless, or_else, Section, section, first_of, left, shown}
use Rattle.base.specs.Refusal.{SIZE, SHORT, POINT, SWING, MODEL, VALUE}
use Rattle.float.specs.Number.{is_finite, zero64}
use Rattle.nl.specs.Expr.{Expr, Terms, none, more, count}
use Rattle.nl.specs.File.{Model}
use Rattle.lists.specs.Finite.{point_fault}
use Rattle.model_reading.specs.Reading.{shared_limit, Reading, yields, wrong, reading}
use Rattle.model_reading.specs.Place.{size, place_of, rows_at, objective_at}
use Rattle.expression.specs.Value.{value, values_of, in_range, patterns}
use Rattle.row_values.specs.declared.RowValues.{RowValues}

-- "14 first within one part, with its beginning word as the place", where this is the part's value and its arguments are in range or not
abbrev pub refused_value : Bool → Float → ℕ → Fault
refused_value ranged value at = cond ranged (unless (is_finite value) (fault VALUE at)) (fault SWING at)

unfoldable pub value_fault : List Float → List Float → ℕ → Expr → Fault
value_fault point values at e = refused_value (in_range point values e) (value point values e) at

module _ (point : List Float) where
  -- shared parts in order, each by the values of those before it: "a shared part is worked out once"
  abbrev pub shared_values : List Float → Terms → List Float
  shared_values values none = values
  shared_values values (more e ts) = shared_values (values ++ (value point values e ∷ [])) ts

  abbrev pub shared_fault : ℕ → List Float → Terms → Fault
  shared_fault at values none = clear
  shared_fault at values (more e ts) =
      or_else (value_fault point values at e) (shared_fault (at + 1 + size e) (values ++ (value point values e ∷ [])) ts)

  abbrev pub rows_fault : ℕ → List Float → Terms → Fault
  rows_fault at values none = clear
  rows_fault at values (more e ts) = or_else (value_fault point values at e) (rows_fault (at + 1 + size e) values ts)

  -- "14 and 19 come in file order"
  unfoldable pub values_fault : Model → Fault
  values_fault M =
      let values = shared_values [] M.shared in
      or_else (shared_fault 0 [] M.shared)
      (or_else (rows_fault (rows_at M) values M.rows) (value_fault point values (objective_at M) M.objective))

-- "more than 4,352 shared parts are refused as size (place: the first beginning word too many)"
abbrev pub size_fault : Model → Fault
size_fault M = unless (leb (count M.shared) shared_limit) (fault SIZE (place_of shared_limit 0 M.shared))

-- "Shared values and row values go to two lent lists, counted in that order for 12", by the numbers of shared parts and rows
abbrev pub room_of : ℕ → ℕ → ℕ → ℕ → Fault
room_of shared rows lent_shared lent_rows =
    or_else (unless (leb shared lent_shared) (fault SHORT 1)) (unless (leb rows lent_rows) (fault SHORT 2))

abbrev pub room_fault : ℕ → ℕ → Model → Fault
room_fault lent_shared lent_rows M = room_of (count M.shared) (count M.rows) lent_shared lent_rows

module _ (columns : ℕ) (point : List Float) (lent_shared lent_rows : ℕ) where
  -- "A file is read under 17, then .. size .., then 12 and 13 apply, then 14 .." and 19
  abbrev pub refusal_sections : Reading → List Section
  refusal_sections (wrong p) = section (MODEL ∷ []) (fault MODEL p) ∷ []
  refusal_sections (yields M) =
      section (SIZE ∷ []) (size_fault M) ∷ section (SHORT ∷ []) (room_fault lent_shared lent_rows M)
      ∷ section (POINT ∷ []) (point_fault point columns) ∷ section (SWING ∷ VALUE ∷ []) (values_fault point M) ∷ []

  unfoldable pub refusal : Reading → Fault
  refusal r = first_of (refusal_sections r)

abbrev pub all_shared : List Float → Reading → List Float
all_shared point (wrong p) = []
all_shared point (yields M) = shared_values point [] M.shared

abbrev pub all_rows : List Float → Reading → List Float
all_rows point (wrong p) = []
all_rows point (yields M) = values_of point (shared_values point [] M.shared) M.rows

-- "the objective's value, without the objective constant, goes to the answer"
abbrev pub objective_value : List Float → Reading → Float
objective_value point (wrong p) = zero64
objective_value point (yields M) = value point (shared_values point [] M.shared) M.objective

-- an answer: number and place, the objective's value, and how many shared parts and rows have theirs in the lists
pub record Answer : Type 0 where
  pub fault : Fault
  pub objective : Float
  pub shared : ℕ
  pub rows : ℕ

-- "A refusal gives number and place, all else 0"
abbrev pub answered : Fault → Float → ℕ → ℕ → Answer
answered f objective shared rows = record {
  fault = f;
  objective = cond (eqb f.number 0) objective zero64;
  shared = cond (eqb f.number 0) shared 0;
  rows = cond (eqb f.number 0) rows 0;
}

-- as what is returned says it
abbrev pub answer_of : Result RowValues Refusal → Answer
answer_of (Ok v) = record { fault = clear; objective = v.objective; shared = v.shared; rows = v.rows }
answer_of (Err r) = record { fault = shown r; objective = zero64; shared = 0; rows = 0 }

abbrev pub answer : Fault → List Float → Reading → Answer
answer f point r = answered f (objective_value point r) (length (all_shared point r)) (length (all_rows point r))

-- of words, constants, a number of columns and a point
module _ (ws : List ℕ) (xs : List Float) (columns : ℕ) (point : List Float) where
  -- the first refusal, where the lists for shared values and row values have these lengths
  abbrev pub refused_by : ℕ → ℕ → Fault
  refused_by lent_shared lent_rows = refusal columns point lent_shared lent_rows (reading ws (patterns xs) columns)

  abbrev pub row_values : ℕ → ℕ → Answer
  row_values lent_shared lent_rows = answer (refused_by lent_shared lent_rows) point (reading ws (patterns xs) columns)

  -- what the two lists hold after the call, from what they held before
  abbrev pub shared_after : List Float → List Float → List Float
  shared_after before_shared before_rows =
      left (refused_by (length before_shared) (length before_rows)) (all_shared point (reading ws (patterns xs) columns)) before_shared

  abbrev pub rows_after : List Float → List Float → List Float
  rows_after before_shared before_rows =
      left (refused_by (length before_shared) (length before_rows)) (all_rows point (reading ws (patterns xs) columns)) before_rows
