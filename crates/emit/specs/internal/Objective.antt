-- The objective over plain numbers.
use Rattle.std.specs.Prelude.{ℕ, Bool, cond, List, [], ◌∷◌, ◌++◌, eqb, Float, Option, Some, None}
use Rattle.std.specs.Float.{binary64}
use Rattle.std.specs.Float.Ieee.{to_bits}
use Rattle.base.specs.Loop.{each}
use Rattle.base.specs.Word.{word}
use Rattle.float.specs.Number.{zero64}
use Rattle.nl.specs.Expr.{Expr, column}
use Rattle.acopf.specs.Build.{square, scaled, sum}
use Rattle.acopf.specs.Model.{cost_term}
use Rattle.writer.specs.internal.Tokens.{Token, fixed, numbered, list_tokens}

-- a quadratic cost of the column c: half the square's factor, and the linear one
abbrev pub cost_of : ℕ → Float → Float → Expr
cost_of c half linear = sum (scaled half (square (column c)) ∷ scaled linear (column c) ∷ [])

-- a generator's term: its epigraph column, or its quadratic cost where it has none
abbrev pub term_of : Option ℕ → Expr → Expr
term_of (Some epigraph) quadratic = column epigraph
term_of None quadratic = quadratic

abbrev pub cost_tokens : List ℕ → List Float → ℕ → List Token
cost_tokens ws xs g = list_tokens (cost_term ws xs g ∷ [])

-- a sum's own words: a constant 0 where it has no term, none where it has one
abbrev pub sum_head : ℕ → List Token
sum_head terms = cond (eqb terms 0) (numbered (to_bits binary64 zero64) ∷ []) (cond (eqb terms 1) [] (fixed (word 9 terms) ∷ []))

-- under header 1 a term for each of k generators
abbrev pub cost_count : Bool → ℕ → ℕ
cost_count priced k = cond priced k 0

unfoldable pub objective_tokens : List ℕ → List Float → ℕ → List Token
objective_tokens ws xs count = (fixed (word 12 0) ∷ sum_head count) ++ each count (cost_tokens ws xs)
