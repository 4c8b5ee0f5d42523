-- How many shared parts and rows a file has, from its words, the number of constants and the number of columns alone.
use Rattle.std.specs.Prelude.{ℕ, ◌-◌, List, Option, Some, None, Result, Ok, Err}
use Rattle.base.specs.declared.refusal.Reason.TheVariants as reason
use Rattle.base.specs.declared.refusal.Refusal.{Refusal}
use Rattle.nl.specs.declared.reader.Span.{Span}
use Rattle.nl.specs.Reader.{Read}
use Rattle.nl.specs.Finder.{refusal_of}
use Rattle.model_reading.specs.declared.FileLayout.{FileLayout}
use Rattle.model_reading.specs.declared.Counts.{Counts}
use Rattle.model_reading.specs.Reading.{file_layout}

-- 2 where there is a shared part too many, with its beginning word, which stands before its expression, as the place
abbrev pub unless_extra : Option Span → Counts → Result Counts Refusal
unless_extra (Some extra) counts = Err (record { reason = reason.Size; place = extra.start - 1 })
unless_extra None counts = Ok counts

-- the counts, or the refusal, 17 or 2, that leaves a file without values at any point
unfoldable pub counts_of : Read FileLayout → Result Counts Refusal
counts_of (Ok l) = unless_extra l.extra (record { shared = l.shared; rows = l.rows })
counts_of (Err w) = Err (refusal_of w)

abbrev pub row_counts : List ℕ → ℕ → ℕ → Result Counts Refusal
row_counts ws constants columns = counts_of (file_layout ws constants columns)

-- 0 and 0 where the counts are refused
abbrev pub counts_or_none : Result Counts Refusal → Counts
counts_or_none (Ok c) = c
counts_or_none (Err r) = record { shared = 0; rows = 0 }
