-- Document 01, "The model file": the numbers of the words' kinds, and what parts of each kind begin with and may name.
use Rattle.std.specs.Prelude.{ℕ, cond, eqb, [], ◌∷◌, get_or}
use Rattle.nl.specs.declared.kind.Kind.{Kind}
use Rattle.nl.specs.declared.kind.Kind.TheVariants as word
use Rattle.nl.specs.declared.kind.Mark.{Mark}
use Rattle.nl.specs.declared.kind.Mark.TheVariants as mark
use Rattle.nl.specs.declared.kind.PartKind.{PartKind}
use Rattle.nl.specs.declared.kind.PartKind.TheVariants as part

-- the kinds of an expression's words
abbrev pub number_of : Kind → ℕ
number_of word.Constant = 0
number_of word.Column = 1
number_of word.Shared = 2
number_of word.Add = 3
number_of word.Subtract = 4
number_of word.Multiply = 5
number_of word.Square = 6
number_of word.Cosine = 7
number_of word.Sine = 8
number_of word.Sum = 9

-- the kind of that number, from 0 to 9
unfoldable pub kind_at : ℕ → Kind
kind_at kind =
    get_or (word.Constant ∷ word.Column ∷ word.Shared ∷ word.Add ∷ word.Subtract ∷ word.Multiply ∷ word.Square ∷ word.Cosine ∷ word.Sine ∷ word.Sum ∷ []) kind word.Sum

-- "10 begins a shared part, 11 a row", 12 the objective, 13 ends the file
abbrev pub mark_number : Mark → ℕ
mark_number mark.Shared = 10
mark_number mark.Row = 11
mark_number mark.Objective = 12
mark_number mark.End = 13

abbrev pub part_number : PartKind → ℕ
part_number part.Shared = 10
part_number (part.Row shared) = 11

-- "A shared part names only lower ones, a row or the objective any that the file has": those that part i may name
abbrev pub part_names : PartKind → ℕ → ℕ
part_names part.Shared i = i
part_names (part.Row shared) i = shared

-- the same of parts that begin with words of any kind, in a file with so many shared parts
unfoldable pub named_by : ℕ → ℕ → ℕ → ℕ
named_by kind shared i = cond (eqb kind 10) i shared
