-- A file in the making, as tokens: a running number is not in them, so that a part's tokens are the same wherever it stands.
use Rattle.std.specs.Prelude.{ℕ, suc, ◌+◌, ◌≤◌, ◌≡◌, cond, List, [], ◌∷◌, ◌++◌, map, length, ltb, Float}
use Rattle.std.specs.Float.{binary64}
use Rattle.std.specs.Float.Ieee.{of_bits, to_bits}
use Rattle.base.specs.Word.{word}
use Rattle.nl.specs.Expr.{Expr, Terms, none, more, constant, column, shared, over, count}
use Rattle.writer.specs.declared.writer.ModelWriter.{ModelWriter}
use Rattle.base.specs.internal.Section.{Wrote}

-- a word as it stands; a constant, by its 64 bits; the beginning of a shared part or row, by its kind
pub data Token : Type 0 where
  fixed : ℕ → Token
  numbered : ℕ → Token
  begins : ℕ → Token

-- the words, where k is the next constant's running number and i the next part's
abbrev pub words_from : ℕ → ℕ → List Token → List ℕ
words_from k i [] = []
words_from k i (fixed w ∷ ts) = w ∷ words_from k i ts
words_from k i (numbered bits ∷ ts) = word 0 k ∷ words_from (k + 1) i ts
words_from k i (begins kind ∷ ts) = word kind i ∷ words_from k (i + 1) ts

-- the constants
abbrev pub numbers_of : List Token → List Float
numbers_of [] = []
numbers_of (fixed w ∷ ts) = numbers_of ts
numbers_of (numbered bits ∷ ts) = of_bits binary64 bits ∷ numbers_of ts
numbers_of (begins kind ∷ ts) = numbers_of ts

-- how many parts begin
abbrev pub begun : List Token → ℕ
begun [] = 0
begun (fixed w ∷ ts) = begun ts
begun (numbered bits ∷ ts) = begun ts
begun (begins kind ∷ ts) = suc (begun ts)

-- of an expression, and of operands
abbrev mutual
  pub tokens : Expr → List Token
  tokens (constant bits) = numbered bits ∷ []
  tokens (column j) = fixed (word 1 j) ∷ []
  tokens (shared s) = fixed (word 2 s) ∷ []
  tokens (over kind ts) = fixed (word kind (cond (ltb kind 9) 0 (count ts))) ∷ tokens_of ts

  pub tokens_of : Terms → List Token
  tokens_of none = []
  tokens_of (more e ts) = tokens e ++ tokens_of ts

-- of expressions one after the other, and of parts of one kind
abbrev pub list_tokens : List Expr → List Token
list_tokens [] = []
list_tokens (e ∷ es) = tokens e ++ list_tokens es

abbrev pub part_tokens : ℕ → List Expr → List Token
part_tokens kind [] = []
part_tokens kind (e ∷ es) = begins kind ∷ tokens e ++ part_tokens kind es

-- a number by way of its bits
abbrev pub through_bits : Float → Float
through_bits x = of_bits binary64 (to_bits binary64 x)

-- words and numbers, in which n parts begin, were written from the writer's places on, into the same lists
pub record Put (p : ModelWriter) (ws : List ℕ) (xs : List Float) (n : ℕ) (q : ModelWriter) : Type 0 where
  pub words : Wrote p.words.now p.word ws q.words.now q.word
  pub numbers : Wrote p.constants.now p.constant (map through_bits xs) q.constants.now q.constant
  pub parts : q.part ≡ p.part + n
  pub same_words : q.words.ghost_name ≡ p.words.ghost_name
  pub same_constants : q.constants.ghost_name ≡ p.constants.ghost_name

-- the same of tokens
pub record Written (p : ModelWriter) (ts : List Token) (q : ModelWriter) : Type 0 where
  pub words : Wrote p.words.now p.word (words_from p.constant p.part ts) q.words.now q.word
  pub numbers : Wrote p.constants.now p.constant (numbers_of ts) q.constants.now q.constant
  pub parts : q.part ≡ p.part + begun ts
  pub same_words : q.words.ghost_name ≡ p.words.ghost_name
  pub same_constants : q.constants.ghost_name ≡ p.constants.ghost_name

-- room for tokens in both lists, and running numbers that fit in 28 bits
pub record Room (p : ModelWriter) (ts : List Token) : Type 0 where
  pub words : p.word + length ts ≤ length p.words.now
  pub numbers : p.constant + length (numbers_of ts) ≤ length p.constants.now
  pub constants : p.constant + length (numbers_of ts) ≤ 268435456
  pub parts : p.part + begun ts ≤ 268435456
