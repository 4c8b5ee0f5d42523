-- Document 01, refusal 17: reading from left to right, up to the first wrong word. What a file stands for is not said here but in File;
-- that the two agree is proved.
use Rattle.std.specs.Prelude.{ℕ, zero, suc, ◌+◌, Bool, false, cond, List, ltb, leb, eqb, length, get_or, Option, Some, None, Result, Ok, Err}
use Rattle.base.specs.Word.{kind_of, load_of}
use Rattle.nl.specs.declared.kind.Kind.{Kind}
use Rattle.nl.specs.declared.reader.Cursor.{Cursor}
use Rattle.nl.specs.declared.reader.WrongWord.{WrongWord}
use Rattle.nl.specs.declared.reader.Head.{Head}
use Rattle.nl.specs.declared.reader.Span.{Span}
use Rattle.nl.specs.declared.reader.Parts.{Parts}
use Rattle.nl.specs.declared.reader.FileParts.{FileParts}
use Rattle.nl.specs.File.{depth_limit}
use Rattle.nl.specs.Kinds.{kind_at}

-- an answer of the reading: what was read, or the first wrong word
abbrev pub Read : Type 0 → Type 0
Read A = Result A WrongWord

abbrev pub wrong : {A : Type 0} → ℕ → Read A
wrong place = Err (record { place = place })

-- where reading goes on, and the number of the next constant
abbrev pub went : ℕ → ℕ → Read Cursor
went at next = Ok (record { at = at; next = next })

-- so many parts, where they end, and the expression of part r, if it is among them
abbrev pub stop : ℕ → ℕ → ℕ → Option Span → Read Parts
stop count at next span = Ok (record { count = count; end = record { at = at; next = next }; span = span })

abbrev pub span : ℕ → ℕ → Option Span
span start end = Some (record { start = start; end = end })

-- a word of that kind and load may stand in an expression where k is the number of the next constant
unfoldable pub word_ok : ℕ → ℕ → ℕ → ℕ → ℕ → ℕ → Bool
word_ok constants columns named k kind load =
    cond (eqb kind 0) (cond (eqb load k) (ltb k constants) false)
    (cond (eqb kind 1) (ltb load columns)
    (cond (eqb kind 2) (ltb load named)
    (cond (ltb kind 9) (eqb load 0)
    (cond (eqb kind 9) (leb 2 load) false))))

-- how many operands follow a word of that kind and load
unfoldable pub arity : ℕ → ℕ → ℕ
arity kind load = cond (ltb kind 3) 0 (cond (ltb kind 6) 2 (cond (ltb kind 9) 1 load))

-- how many constants' numbers it uses up
unfoldable pub uses : ℕ → ℕ
uses kind = cond (eqb kind 0) 1 0

-- a word's kind, how many operands follow it, and the number of the next constant
abbrev pub head : Kind → ℕ → ℕ → Option Head
head kind operands next = Some (record { kind = kind; operands = operands; next = next })

-- the one word at `at`: "length if they run out"
unfoldable pub read_head : List ℕ → ℕ → ℕ → ℕ → ℕ → ℕ → Option Head
read_head ws constants columns named at k =
    cond (ltb at (length ws))
    (cond (word_ok constants columns named k (kind_of (get_or ws at 0)) (load_of (get_or ws at 0)))
    (head (kind_at (kind_of (get_or ws at 0))) (arity (kind_of (get_or ws at 0)) (load_of (get_or ws at 0))) (k + uses (kind_of (get_or ws at 0))))
    None)
    None

-- after what was read: the next thing, from where it ended and with the number of the next constant; a wrong word ends it
abbrev pub after : {A : Type 0} → Read Cursor → (ℕ → ℕ → Read A) → Read A
after (Ok c) f = f c.at c.next
after (Err w) f = Err w

-- n things, one after the other
abbrev pub many : (ℕ → ℕ → Read Cursor) → ℕ → ℕ → ℕ → Read Cursor
many f zero at k = went at k
many f (suc n) at k = after (f at k) (many f n)

-- the same of anything that was read
abbrev pub and_then : {A B : Type 0} → Read A → (A → Read B) → Read B
and_then (Ok a) f = f a
and_then (Err w) f = Err w

abbrev pub opened : Option Head → Read Cursor → (ℕ → ℕ → Read Cursor) → Read Cursor
opened (Some h) wrong f = f h.operands h.next
opened None wrong f = wrong

module _ (ws : List ℕ) (constants columns named : ℕ) where
  -- the expression at `at`, at most so many levels deep: its word, then its operands. "A word 9 deep is wrong"
  unfoldable pub read_expr : ℕ → ℕ → ℕ → Read Cursor
  read_expr zero at k = wrong at
  read_expr (suc depth) at k = opened (read_head ws constants columns named at k) (wrong at) (λ n b. many (read_expr depth) n (at + 1) b)

-- the word of that kind and load stands there
unfoldable pub is_mark : List ℕ → ℕ → ℕ → ℕ → Bool
is_mark ws kind load at = cond (ltb at (length ws)) (cond (eqb (kind_of (get_or ws at 0)) kind) (eqb (load_of (get_or ws at 0)) load) false) false

module _ (ws : List ℕ) (constants columns : ℕ) (named : ℕ → ℕ) (kind r : ℕ) where
  -- the parts that begin with words of that kind, numbered from i, of which part i may name the lowest `named i` shared parts, up to a
  -- word that begins no such part. `found` is part r's expression, once it was read. (The first number bounds the parts; a part has
  -- words, so that there are no more parts than words.)
  unfoldable pub read_parts : ℕ → ℕ → ℕ → ℕ → Option Span → Read Parts
  read_parts zero i at k found = stop i at k found
  read_parts (suc most) i at k found =
      cond (is_mark ws kind i at)
      (after (read_expr ws constants columns (named i) depth_limit (at + 1) k)
      (λ a b. read_parts most (i + 1) a b (cond (eqb i r) (span (at + 1) a) found)))
      (stop i at k found)

module _ (ws : List ℕ) (constants : ℕ) where
  -- "the end word if constants are left over"; no word follows it
  unfoldable pub read_last : ℕ → ℕ → Read Cursor
  read_last at k =
      cond (is_mark ws 13 0 at)
      (cond (eqb k constants) (cond (eqb (at + 1) (length ws)) (went (at + 1) k) (wrong (at + 1))) (wrong at))
      (wrong at)

  -- the objective and the end
  unfoldable pub read_end : ℕ → ℕ → ℕ → ℕ → Read Cursor
  read_end columns shared at k =
      cond (is_mark ws 12 0 at)
      (after (read_expr ws constants columns shared depth_limit (at + 1) k) read_last)
      (wrong at)

module _ (ws : List ℕ) (constants columns r : ℕ) where
  -- the rows, the objective and the end, after the shared parts
  unfoldable pub read_after : Parts → Read FileParts
  read_after shared =
      and_then (read_parts ws constants columns (λ i. shared.count) 11 r (length ws) 0 shared.end.at shared.end.next None)
      (λ rows. and_then (read_end ws constants columns shared.count rows.end.at rows.end.next)
      (λ _. Ok (record { shared = shared; rows = rows })))

  -- the whole file: its shared parts and its rows, with the expressions of shared part r and of row r, if they are there
  unfoldable pub read_file : Read FileParts
  read_file = and_then (read_parts ws constants columns (λ i. i) 10 r (length ws) 0 0 0 None) read_after
