-- The shared parts over plain numbers: n buses, a branch's first part `first` and its buses f and t.
use Rattle.std.specs.Prelude.{ℕ, ◌+◌, List, [], ◌∷◌, ◌++◌, get_or, Float}
use Rattle.std.specs.Float.{nan}
use Rattle.base.specs.Loop.{each}
use Rattle.nl.specs.Expr.{Expr, column, shared}
use Rattle.acopf.specs.Build.{subtract, multiply, square, cosine_of, sine_of, scaled, sum}
use Rattle.acopf.specs.Parts.{branch_parts}
use Rattle.writer.specs.internal.Tokens.{Token, part_tokens}

-- the square of a vm column
abbrev pub square_tokens : ℕ → List Token
square_tokens vm = part_tokens 10 (square (column vm) ∷ [])

-- angle and voltage product
abbrev pub angle_parts : ℕ → ℕ → ℕ → List Expr
angle_parts n f t = subtract (column f) (column t) ∷ multiply (column (n + f)) (column (n + t)) ∷ []

-- wr and wi
abbrev pub product_parts : ℕ → List Expr
product_parts first =
    multiply (shared (first + 1)) (cosine_of (shared first)) ∷ multiply (shared (first + 1)) (sine_of (shared first)) ∷ []

abbrev pub voltage_parts : ℕ → ℕ → ℕ → ℕ → List Expr
voltage_parts n first f t = angle_parts n f t ++ product_parts first

-- a flow at the bus i, by the three coefficients from j on of its vm squared, wr and wi
abbrev pub flow_sum : ℕ → ℕ → List Float → ℕ → Expr
flow_sum first i cs j =
    sum (
    scaled (get_or cs j nan) (shared i)
    ∷ scaled (get_or cs (j + 1) nan) (shared (first + 2))
    ∷ scaled (get_or cs (j + 2) nan) (shared (first + 3)) ∷ [])

-- p and q there, by the six coefficients from j on
abbrev pub flow_parts : ℕ → ℕ → List Float → ℕ → List Expr
flow_parts first i cs j = flow_sum first i cs j ∷ flow_sum first i cs (j + 3) ∷ []

abbrev pub all_parts : ℕ → ℕ → ℕ → ℕ → List Float → List Expr
all_parts n first f t cs = voltage_parts n first f t ++ (flow_parts first f cs 0 ++ flow_parts first t cs 6)

-- the shared parts of branch b
abbrev pub branch_tokens : List ℕ → List Float → ℕ → List Token
branch_tokens ws xs b = part_tokens 10 (branch_parts ws xs b)

-- all shared parts of n buses and m branches
unfoldable pub shared_tokens : List ℕ → List Float → ℕ → ℕ → List Token
shared_tokens ws xs n m = each n (λ i. square_tokens (n + i)) ++ each m (branch_tokens ws xs)
