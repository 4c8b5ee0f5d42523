-- What reading yields for small files, and where it is wrong, as one table with one proof.
use mathlib.Core.Path.{◌≡◌, refl}
use mathlib.Core.List.{List, [], ◌∷◌}
use Prim.Native.Nat.{ℕ}
use lib.ListN.{take}
use Rattle.nl.specs.Expr.{Expr, constant, column, shared, over, none, more}
use Rattle.nl.specs.Reader.{word_ok, arity, uses, read_head, read_expr, is_mark, read_parts, read_last, read_end, read_after, read_file}
use Rattle.model_reading.specs.Parse.{leaf_of, headed, parse, part}
use Rattle.model_reading.specs.Reading.{file_layout, Reading, yields, wrong, reading}

-- shared part 0 is the square of column 0, row 0 is shared part 0 plus constant 0, the objective is constant 1
abbrev small : List ℕ
small = 0xA0000000 ∷ 0x60000000 ∷ 0x10000000 ∷ 0xB0000000 ∷ 0x30000000 ∷ 0x20000000 ∷ 0x00000000 ∷ 0xC0000000 ∷ 0x00000001 ∷ 0xD0000000 ∷ []

-- the objective alone, column 0
abbrev smallest : List ℕ
smallest = 0xC0000000 ∷ 0x10000000 ∷ 0xD0000000 ∷ []

-- an operator over one operand and over two
abbrev over1 : ℕ → Expr → Expr
over1 kind a = over kind (more a none)

abbrev over2 : ℕ → Expr → Expr → Expr
over2 kind a b = over kind (more a (more b none))

record Case : Type 0 where
  words : List ℕ
  constants : List ℕ
  columns : ℕ
  answer : Reading

abbrev case : List ℕ → List ℕ → ℕ → Reading → Case
case ws cs columns answer = record { words = ws; constants = cs; columns = columns; answer = answer }

-- what is read of each, and what shall be
abbrev are : List Case → List Reading
are [] = []
are (c ∷ cs) = reading c.words c.constants c.columns ∷ are cs

abbrev answers : List Case → List Reading
answers [] = []
answers (c ∷ cs) = c.answer ∷ answers cs

abbrev cases : List Case
cases =
    case small (7 ∷ 9 ∷ []) 1 (yields (record { shared = more (over1 6 (column 0)) none; rows = more (over2 3 (shared 0) (constant 7)) none; objective = constant 9 })) ∷
    case smallest [] 1 (yields (record { shared = none; rows = none; objective = column 0 })) ∷
    -- without the last word, "length if they run out"; "the end word if constants are left over"; a constant and a column that are not there
    case (take 9 small) (7 ∷ 9 ∷ []) 1 (wrong 9) ∷ case small (7 ∷ 9 ∷ 11 ∷ []) 1 (wrong 9) ∷ case small (7 ∷ []) 1 (wrong 8) ∷ case small (7 ∷ 9 ∷ []) 0 (wrong 2) ∷
    -- a shared part that names itself; a word after the end; no words
    case (0xA0000000 ∷ 0x20000000 ∷ smallest) [] 1 (wrong 1) ∷ case (0xC0000000 ∷ 0x10000000 ∷ 0xD0000000 ∷ 0xD0000000 ∷ []) [] 1 (wrong 3) ∷ case [] [] 0 (wrong 0) ∷ []

all_right : are cases ≡ answers cases
unfolding reading file_layout read_file read_after word_ok arity uses read_head read_expr is_mark read_parts read_last read_end leaf_of headed parse part
all_right = refl
