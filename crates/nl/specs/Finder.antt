-- Document 01, "One row of a model file" and refusals 17 and 18.
use Rattle.std.specs.Prelude.{ℕ, ◌-◌, List, take, drop, Option, Some, None, Result, Ok, Err}
use Rattle.base.specs.declared.refusal.Refusal.{Refusal}
use Rattle.base.specs.declared.refusal.Reason.{Reason}
use Rattle.base.specs.declared.refusal.Reason.TheVariants as reason
use Rattle.nl.specs.declared.reader.WrongWord.{WrongWord}
use Rattle.nl.specs.declared.reader.Span.{Span}
use Rattle.nl.specs.Reader.{Read, read_file}

-- a row: nothing is refused, and its expression starts and ends there
abbrev pub found : ℕ → ℕ → Result Span Refusal
found start end = Ok (record { start = start; end = end })

abbrev pub refused : Reason → ℕ → Result Span Refusal
refused reason place = Err (record { reason = reason; place = place })

-- a wrong word anywhere: 17 and its place
abbrev pub refusal_of : WrongWord → Refusal
refusal_of w = record { reason = reason.Model; place = w.place }

abbrev pub unless_wrong : {A : Type 0} → Read A → (A → Result Span Refusal) → Result Span Refusal
unless_wrong (Ok a) f = f a
unless_wrong (Err w) f = Err (refusal_of w)

-- where the part stands, at the first word an empty one when refused
abbrev pub span_of : Result Span Refusal → Span
span_of (Ok s) = s
span_of (Err r) = record { start = 0; end = 0 }

-- row r, where it was found; "18: no row r; row count"
abbrev pub or_absent : Option Span → ℕ → Result Span Refusal
or_absent (Some s) rows = Ok s
or_absent None rows = refused reason.Row rows

module _ (ws : List ℕ) (constants columns r : ℕ) where
  -- "One call gives number and place", the fault, "another the part". "The whole file is checked first."
  unfoldable pub find : Result Span Refusal
  find = unless_wrong (read_file ws constants columns r) (λ parts. or_absent parts.rows.span parts.rows.count)

  -- the part: where it starts in the caller's words and how long it is, 0 and 0 when refused
  unfoldable pub row_start : ℕ
  row_start = (span_of find).start

  unfoldable pub row_length : ℕ
  row_length = (span_of find).end - (span_of find).start

  unfoldable pub row_words : List ℕ
  row_words = take ((span_of find).end - (span_of find).start) (drop (span_of find).start ws)
