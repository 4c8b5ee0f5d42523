-- Document 01, "The model file": expressions and their words. Nothing here reads; an expression is written.
use Rattle.std.specs.Prelude.{ℕ, suc, ◌+◌, ◌≤◌, ◌<◌, max, ◌≡◌, cond, List, [], ◌∷◌, ◌++◌, ltb, length}
use Rattle.base.specs.Word.{word}

-- "a load that does not fit in 28 bits makes no word"
abbrev pub load_limit : ℕ
load_limit = 268435456

-- 3 add, 4 subtract, 5 multiply, 6 square, 7 cosine, 8 sine, 9 sum.
-- "An expression is a constant, by its 64 bits, a column or a shared part, by its number, or a kind from 3 to 9 over operands"
mutual
  pub data Expr : Type 0 where
    constant : ℕ → Expr
    column : ℕ → Expr
    shared : ℕ → Expr
    over : ℕ → Terms → Expr

  -- operands in order, and also the shared parts or the rows of a file in order
  pub data Terms : Type 0 where
    none : Terms
    more : Expr → Terms → Terms

abbrev pub count : Terms → ℕ
count none = 0
count (more e ts) = suc (count ts)

-- "two for 3-5, one for 6-8, two or more for 9"
pub data Takes (kind n : ℕ) : Type 0 where
  two : 3 ≤ kind → kind ≤ 5 → n ≡ 2 → Takes kind n
  one : 6 ≤ kind → kind ≤ 8 → n ≡ 1 → Takes kind n
  sum : kind ≡ 9 → 2 ≤ n → Takes kind n

-- "9 sum (load: terms ..)", "Loads of 3-8 are 0"
unfoldable pub load_for : ℕ → ℕ → ℕ
load_for kind n = cond (ltb kind 9) 0 n

-- the constants' values in the words' order: "each occurrence is a new constant"
unfoldable mutual
  pub constants : Expr → List ℕ
  constants (constant bits) = bits ∷ []
  constants (column j) = []
  constants (shared s) = []
  constants (over kind ts) = constants_of ts

  pub constants_of : Terms → List ℕ
  constants_of none = []
  constants_of (more e ts) = constants e ++ constants_of ts

-- the running number after e's constants, where e's first has the number k
abbrev pub next : ℕ → Expr → ℕ
next k e = k + length (constants e)

-- "Its words are its own word, then each operand's in order", where its first constant has the running number k
unfoldable mutual
  pub words : ℕ → Expr → List ℕ
  words k (constant bits) = word 0 k ∷ []
  words k (column j) = word 1 j ∷ []
  words k (shared s) = word 2 s ∷ []
  words k (over kind ts) = word kind (load_for kind (count ts)) ∷ words_of k ts

  pub words_of : ℕ → Terms → List ℕ
  words_of k none = []
  words_of k (more e ts) = words k e ++ words_of (next k e) ts

-- "an expression with one [a load that does not fit] anywhere in it has no words"; and each kind is over operands that it takes
unfoldable mutual
  pub HasWords : ℕ → Expr → Type 0
  HasWords k (constant bits) = k < load_limit
  HasWords k (column j) = j < load_limit
  HasWords k (shared s) = s < load_limit
  HasWords k (over kind ts) = (load_for kind (count ts) < load_limit) × Takes kind (count ts) × HasWordsOf k ts

  pub HasWordsOf : ℕ → Terms → Type 0
  HasWordsOf k none = Unit {0}
  HasWordsOf k (more e ts) = HasWords k e × HasWordsOf (next k e) ts

-- how deep it nests: "a leaf is 1"
unfoldable mutual
  pub depth : Expr → ℕ
  depth (constant bits) = 1
  depth (column j) = 1
  depth (shared s) = 1
  depth (over kind ts) = suc (depth_of ts)

  pub depth_of : Terms → ℕ
  depth_of none = 0
  depth_of (more e ts) = max (depth e) (depth_of ts)

-- "A column's load is below the number of columns", and a shared part's below the number of those that may be named
unfoldable mutual
  pub Names : ℕ → ℕ → Expr → Type 0
  Names columns named (constant bits) = Unit {0}
  Names columns named (column j) = j < columns
  Names columns named (shared s) = s < named
  Names columns named (over kind ts) = NamesOf columns named ts

  pub NamesOf : ℕ → ℕ → Terms → Type 0
  NamesOf columns named none = Unit {0}
  NamesOf columns named (more e ts) = Names columns named e × NamesOf columns named ts
