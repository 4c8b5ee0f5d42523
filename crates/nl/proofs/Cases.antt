-- Document 01's P cases of the finder, and the smallest files of theorem 6 (b), as one table with one proof.
use mathlib.Core.Bool.{Bool, true, false, cond}
use mathlib.Core.List.{List, [], ◌∷◌}
use Prim.Native.Nat.{ℕ}
use lib.Dec.{T, eqb}
use lib.ListN.{take}
use Rattle.base.specs.Fault.{fault_of}
use Rattle.nl.specs.Reader.{word_ok, arity, uses, read_head, read_expr, is_mark, read_parts, read_last, read_end, read_after, read_file}
use Rattle.nl.specs.Finder.{find, row_start, row_length}

-- Depot M's words; it has 6 constants and 4 columns
abbrev depot_m : List ℕ
depot_m =
    0xA0000000 ∷ 0x60000000 ∷ 0x10000001
    ∷ 0xB0000000 ∷ 0x90000003 ∷ 0x00000000 ∷ 0x50000000 ∷ 0x00000001 ∷ 0x20000000 ∷ 0x10000002
    ∷ 0xB0000001 ∷ 0x90000003 ∷ 0x00000002 ∷ 0x50000000 ∷ 0x00000003 ∷ 0x20000000 ∷ 0x10000003
    ∷ 0xB0000002 ∷ 0x10000000
    ∷ 0xC0000000 ∷ 0x90000002 ∷ 0x50000000 ∷ 0x00000004 ∷ 0x60000000 ∷ 0x10000002 ∷ 0x50000000 ∷ 0x00000005 ∷ 0x10000002
    ∷ 0xD0000000 ∷ []

-- eight squares, one in the other, and a leaf
abbrev nine_deep : List ℕ
nine_deep = 0xC0000000 ∷ 0x60000000 ∷ 0x60000000 ∷ 0x60000000 ∷ 0x60000000 ∷ 0x60000000 ∷ 0x60000000 ∷ 0x60000000 ∷ 0x60000000 ∷ 0x10000000 ∷ 0xD0000000 ∷ []

record Case : Type 0 where
  words : List ℕ
  constants : ℕ
  columns : ℕ
  row : ℕ
  number : ℕ
  place : ℕ
  start : ℕ
  long : ℕ

abbrev case : List ℕ → ℕ → ℕ → ℕ → ℕ → ℕ → ℕ → ℕ → Case
case ws cs columns r number place start long =
    record { words = ws; constants = cs; columns = columns; row = r; number = number; place = place; start = start; long = long }

right : Case → Bool
unfolding row_start row_length
right c =
    cond (eqb (fault_of (find c.words c.constants c.columns c.row)).number c.number)
    (cond (eqb (fault_of (find c.words c.constants c.columns c.row)).place c.place)
    (cond (eqb (row_start c.words c.constants c.columns c.row) c.start)
    (eqb (row_length c.words c.constants c.columns c.row) c.long) false) false) false

all : List Case → Bool
unfolding right
all [] = true
all (c ∷ cs) = cond (right c) (all cs) false

cases : List Case
cases =
    case depot_m 6 4 0 0 0 4 6 ∷ case depot_m 6 4 1 0 0 11 6 ∷
    -- "row 2 is the one word 10000000; row 3: 18, place 3", "without the last word: 17, place 28"
    case depot_m 6 4 2 0 0 18 1 ∷ case depot_m 6 4 3 18 3 0 0 ∷ case (take 28 depot_m) 6 4 2 17 28 0 0 ∷
    -- the word 9 deep, there or not; constants left over, with the end word or without; no columns and no constants
    case nine_deep 0 1 0 17 9 0 0 ∷ case (take 9 nine_deep) 0 1 0 17 9 0 0 ∷ case (0xC0000000 ∷ 0x10000000 ∷ 0xD0000000 ∷ []) 1 1 0 17 2 0 0 ∷ case (0xC0000000 ∷ 0x10000000 ∷ []) 1 1 0 17 2 0 0 ∷ case [] 0 0 0 17 0 0 0 ∷ []

all_right : T (all cases)
unfolding all right cases row_start row_length find read_file read_after word_ok arity uses read_head read_expr is_mark read_parts read_last read_end
all_right = tt
