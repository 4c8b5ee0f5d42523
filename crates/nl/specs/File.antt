-- Document 01, "The model file": what a file stands for, by writing only.
use Rattle.std.specs.Prelude.{ℕ, ◌+◌, ◌≤◌, ◌<◌, ◌≡◌, List, [], ◌∷◌, ◌++◌, length}
use Rattle.base.specs.Word.{word}
use Rattle.nl.specs.Expr.{load_limit, Expr, Terms, none, more, count, constants, constants_of, next, words, HasWords, depth, Names}

-- shared parts, rows and an objective. Two are the same when they are equal: lengths of lists, kinds, numbers, bits and counts of operands
-- at every place.
pub record Model : Type 0 where
  pub shared : Terms
  pub rows : Terms
  pub objective : Expr

-- "10 begins a shared part, 11 a row": each part's beginning word and expression, numbered from i, the first constant from k
unfoldable pub part_words : ℕ → ℕ → ℕ → Terms → List ℕ
part_words kind i k none = []
part_words kind i k (more e ts) = word kind i ∷ words k e ++ part_words kind (i + 1) (next k e) ts

-- "constants are numbered from 0 through the whole file": the numbers of the rows' and of the objective's first constants
abbrev pub at_rows : Model → ℕ
at_rows M = length (constants_of M.shared)

abbrev pub at_objective : Model → ℕ
at_objective M = at_rows M + length (constants_of M.rows)

-- "its words are, in order, each shared part's beginning word and expression, the same for each row, 12 and the objective, 13, and
-- nothing more"
unfoldable pub model_words : Model → List ℕ
model_words M =
    part_words 10 0 0 M.shared
    ++ (part_words 11 0 (at_rows M) M.rows ++ (word 12 0 ∷ words (at_objective M) M.objective ++ (word 13 0 ∷ [])))

-- "the constants list is exactly their values"
unfoldable pub model_constants : Model → List ℕ
model_constants M = constants_of M.shared ++ (constants_of M.rows ++ constants M.objective)

-- "the rules on loads, names and depth", for an expression whose first constant has the number k and that may name the lowest `named`
-- shared parts
pub record Ruled (deepest columns named k : ℕ) (e : Expr) : Type 0 where
  pub loads : HasWords k e
  pub names : Names columns named e
  pub deep : depth e ≤ deepest

-- the same for parts numbered from i, of which part i may name the lowest `named i`; and no "part or row whose number does not fit"
unfoldable pub PartsRuled : ℕ → ℕ → (ℕ → ℕ) → ℕ → ℕ → Terms → Type 0
PartsRuled deepest columns named i k none = Unit {0}
PartsRuled deepest columns named i k (more e ts) =
    (i < load_limit) × Ruled deepest columns (named i) k e × PartsRuled deepest columns named (i + 1) (next k e) ts

-- "A shared part names only lower ones, a row or the objective any that the file has"
pub record StandsWithin (deepest : ℕ) (ws cs : List ℕ) (columns : ℕ) (M : Model) : Type 0 where
  pub shared_ruled : PartsRuled deepest columns (λ i. i) 0 0 M.shared
  pub rows_ruled : PartsRuled deepest columns (λ i. count M.shared) 0 (at_rows M) M.rows
  pub objective_ruled : Ruled deepest columns (count M.shared) (at_objective M) M.objective
  pub its_words : ws ≡ model_words M
  pub its_constants : cs ≡ model_constants M

-- "Expressions nest at most 8 deep"
abbrev pub depth_limit : ℕ
depth_limit = 8

-- the words, the constants' patterns and the number of columns stand for M. (A constant's load is below the number of constants because
-- the list is exactly their values.)
abbrev pub StandsFor : List ℕ → List ℕ → ℕ → Model → Type 0
StandsFor = StandsWithin depth_limit

abbrev pub join : Terms → Terms → Terms
join none us = us
join (more e ts) us = more e (join ts us)

-- row r of M is e: its first constant has the number k, and its words, without its beginning word, stand from `start`
pub record IsRow (M : Model) (r start k : ℕ) (e : Expr) : Type 0 where
  pub earlier : Terms
  pub later : Terms
  pub rows : M.rows ≡ join earlier (more e later)
  pub number : r ≡ count earlier
  pub begins : start ≡ length (part_words 10 0 0 M.shared) + length (part_words 11 0 (at_rows M) earlier) + 1
  pub first : k ≡ at_rows M + length (constants_of earlier)
