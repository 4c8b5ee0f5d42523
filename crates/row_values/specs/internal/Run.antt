-- A file read and worked out in one go, part by part, by the places of their beginning words.
use Rattle.std.specs.Prelude.{ℕ, zero, suc, ◌≤◌, ◌<◌, ◌≡◌, List, [], ◌∷◌, ◌++◌, length, take, drop, Float}
use Rattle.std.specs.Prelude.{Option, None, Result, Ok, Err, IsErr}
use Rattle.base.specs.declared.refusal.Refusal.{Refusal}
use Rattle.base.specs.Fault.{Fault, clear, or_else, shown, fault_of}
use Rattle.nl.specs.declared.reader.Cursor.{Cursor}
use Rattle.nl.specs.declared.reader.Parts.{Parts}
use Rattle.nl.specs.declared.reader.Span.{Span}
use Rattle.nl.specs.declared.reader.WrongWord.{WrongWord}
use Rattle.nl.specs.Expr.{Terms}
use Rattle.nl.specs.Reader.{Read, stop, read_parts, read_end}
use Rattle.expression.specs.declared.Scanned.{Scanned}
use Rattle.model_reading.specs.declared.Counts.{Counts}
use Rattle.model_reading.specs.Parse.{parse_many, part}
use Rattle.model_reading.specs.Reading.{shared_limit, file_layout, reading}
use Rattle.model_reading.specs.Counts.{row_counts}
use Rattle.expression.specs.Value.{value, values_of, patterns}
use Rattle.row_values.specs.declared.scan.Run.{Run}
use Rattle.row_values.specs.declared.scan.ScanError.{ScanError}
use Rattle.row_values.specs.declared.scan.ScanError.TheVariants as error
use Rattle.row_values.specs.declared.scan.File.{File}
use Rattle.row_values.specs.Answer.{refused_value, value_fault, shared_values, all_shared, all_rows, objective_value, refused_by}

-- "14 first within one part", of what was worked out
abbrev pub scanned_fault : Scanned → ℕ → Fault
scanned_fault e at = refused_value e.in_range e.value at

module _ (ws : List ℕ) (xs point : List Float) where
  -- n parts from `at` on
  abbrev pub terms_at : ℕ → ℕ → Terms
  terms_at n at = (parse_many (part ws (patterns xs)) n at).terms

  -- the value and the fault of the part whose beginning word is at `at`
  abbrev pub part_value : List Float → ℕ → Float
  part_value values at = value point values (part ws (patterns xs) at).expr

  abbrev pub part_fault : List Float → ℕ → Fault
  part_fault values at = value_fault point values at (part ws (patterns xs) at).expr

  -- the first fault of n shared parts from `at` on, where those before have these values
  unfoldable pub shared_pass : ℕ → ℕ → List Float → Fault
  shared_pass zero at values = clear
  shared_pass (suc n) at values =
      or_else (part_fault values at) (shared_pass n (part ws (patterns xs) at).end (values ++ (part_value values at ∷ [])))

  -- of n rows
  unfoldable pub rows_pass : List Float → ℕ → ℕ → Fault
  rows_pass values zero at = clear
  rows_pass values (suc n) at = or_else (part_fault values at) (rows_pass values n (part ws (patterns xs) at).end)

  abbrev pub read_shared : Read Parts
  read_shared = read_parts ws (length xs) (length point) (λ i. i) 10 shared_limit (length ws) 0 0 0 None

  -- so many shared parts pass reading, none is too many, the array has their values, and this is their first fault
  pub record SharedRun (array : List Float) (r : Run) : Type 0 where
    pub reads : read_shared ≡ stop r.count r.end.at r.end.next None
    pub fits : r.count ≤ shared_limit
    pub are : take r.count array ≡ shared_values point [] (terms_at r.count 0)
    pub faults : fault_of r.verdict ≡ shared_pass r.count 0 []

  -- more shared parts than may be worked out, if no word is wrong
  abbrev pub TooMany : Read Parts → Type 0
  TooMany (Ok p) = shared_limit < p.count
  TooMany (Err w) = Unit {0}

  abbrev pub SharedScanned : List Float → Result Run ScanError → Type 0
  SharedScanned array (Ok r) = SharedRun array r
  SharedScanned array (Err (error.Wrong w)) = read_shared ≡ Err w
  SharedScanned array (Err error.Full) = TooMany read_shared

  module _ (values : List Float) where
    abbrev pub read_rows : ℕ → ℕ → Read Parts
    read_rows from first = read_parts ws (length xs) (length point) (λ i. length values) 11 shared_limit (length ws) 0 from first None

    -- so many rows pass reading, the list has their values where it is long enough, and this is their first fault
    pub record RowsRun (from first : ℕ) (before after : List Float) (r : Run) : Type 0 where
      pub found : Option Span
      pub reads : read_rows from first ≡ stop r.count r.end.at r.end.next found
      pub same_length : length after ≡ length before
      pub are : r.count ≤ length before → after ≡ values_of point values (terms_at r.count from) ++ drop r.count before
      pub faults : fault_of r.verdict ≡ rows_pass values r.count from

    abbrev pub RowsScanned : ℕ → ℕ → List Float → List Float → Result Run WrongWord → Type 0
    RowsScanned from first before after (Ok r) = RowsRun from first before after r
    RowsScanned from first before after (Err w) = read_rows from first ≡ Err w

    abbrev pub read_last_parts : ℕ → ℕ → Read Cursor
    read_last_parts = read_end ws (length xs) (length point) (length values)

    -- the objective and the end pass reading, with this value and fault
    pub record Ends (at k : ℕ) (s : Scanned) : Type 0 where
      pub end : Cursor
      pub reads : read_last_parts at k ≡ Ok end
      pub is : s.value ≡ part_value values at
      pub faults : scanned_fault s at ≡ part_fault values at

    abbrev pub EndScanned : ℕ → ℕ → Result Scanned WrongWord → Type 0
    EndScanned at k (Ok s) = Ends at k s
    EndScanned at k (Err w) = read_last_parts at k ≡ Err w

    -- the rows' values, and what is known where they are to be written to a list of that length
    abbrev pub rows_of : File → List Float
    rows_of f = values_of point values (terms_at f.counts.rows f.rows_from.at)

    pub record Writable (f : File) (kept : List Float) (room : ℕ) : Type 0 where
      pub fits : f.counts.rows ≤ room
      pub its_kept : f.counts.rows ≤ length kept → take f.counts.rows kept ≡ rows_of f
      pub end : Cursor
      pub found : Option Span
      pub reads : read_rows f.rows_from.at f.rows_from.next ≡ stop f.counts.rows end.at end.next found

  -- a file that passes reading: its layout, its values, and the first fault of a value
  pub record FileRun (array before after : List Float) (f : File) : Type 0 where
    pub objective_at : ℕ
    pub reads : file_layout ws (length xs) (length point)
        ≡ Ok (record {
          shared = f.counts.shared;
          rows = f.counts.rows;
          rows_at = f.rows_from.at;
          objective_at = objective_at;
          extra = None;
        })
    pub fits : f.counts.shared ≤ shared_limit
    pub shared_are : take f.counts.shared array ≡ shared_values point [] (terms_at f.counts.shared 0)
    pub rows_are : Writable (take f.counts.shared array) f after f.counts.rows
    pub same_length : length after ≡ length before
    pub is : f.objective ≡ part_value (take f.counts.shared array) objective_at
    pub faults : fault_of f.verdict ≡ or_else (shared_pass f.counts.shared 0 [])
        (or_else (rows_pass (take f.counts.shared array) f.counts.rows f.rows_from.at)
        (part_fault (take f.counts.shared array) objective_at))

  abbrev pub FileScanned : List Float → List Float → List Float → Result File ScanError → Type 0
  FileScanned array before after (Ok f) = FileRun array before after f
  FileScanned array before after (Err (error.Wrong w)) = file_layout ws (length xs) (length point) ≡ Err w
  FileScanned array before after (Err error.Full) = IsErr (row_counts ws (length xs) (length point))

-- what is to be written where nothing is refused
pub record Accepted (ws : List ℕ) (xs : List Float) (columns : ℕ) (point array kept : List Float) (room : ℕ) (f : File) : Type 0 where
  pub fits : f.counts.shared ≤ shared_limit
  pub shared_are : take f.counts.shared array ≡ all_shared point (reading ws (patterns xs) columns)
  pub rows_are : rows_of ws xs point (take f.counts.shared array) f ≡ all_rows point (reading ws (patterns xs) columns)
  pub writable : Writable ws xs point (take f.counts.shared array) f kept room
  pub is : f.objective ≡ objective_value point (reading ws (patterns xs) columns)

-- the file's first refusal, or all values where there is none
module _ (ws : List ℕ) (xs : List Float) (columns : ℕ) (point : List Float) (lent : Counts) where
  abbrev pub first_refusal : Fault
  first_refusal = refused_by ws xs columns point lent.shared lent.rows

  abbrev pub Settled : List Float → List Float → Result File Refusal → Type 0
  Settled array kept (Ok f) =
      (clear ≡ first_refusal) × (f.counts.shared ≤ lent.shared) × Accepted ws xs columns point array kept lent.rows f
  Settled array kept (Err r) = shown r ≡ first_refusal
