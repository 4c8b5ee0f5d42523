-- The Rust's helpers that build expressions (000: constant, add, subtract, multiply, scaled, square, unary, sum).
use Rattle.std.specs.Prelude.{List, [], ◌∷◌, Float}
use Rattle.std.specs.Float.{binary64}
use Rattle.std.specs.Float.Ieee.{to_bits}
use Rattle.float.specs.Number.{zero64}
use Rattle.nl.specs.Expr.{Expr, Terms, none, more, constant, over}

-- constant: by its 64 bits
abbrev pub literal : Float → Expr
literal x = constant (to_bits binary64 x)

abbrev pub add : Expr → Expr → Expr
add a b = over 3 (more a (more b none))

abbrev pub subtract : Expr → Expr → Expr
subtract a b = over 4 (more a (more b none))

abbrev pub multiply : Expr → Expr → Expr
multiply a b = over 5 (more a (more b none))

-- "square (the Rust's power 2)"
abbrev pub square : Expr → Expr
square a = over 6 (more a none)

abbrev pub cosine_of : Expr → Expr
cosine_of a = over 7 (more a none)

abbrev pub sine_of : Expr → Expr
sine_of a = over 8 (more a none)

abbrev pub scaled : Float → Expr → Expr
scaled scale a = multiply (literal scale) a

abbrev pub terms : List Expr → Terms
terms [] = none
terms (e ∷ es) = more e (terms es)

-- "An empty sum is a constant of value 0, a sum of one is its term."
abbrev pub sum : List Expr → Expr
sum [] = literal zero64
sum (e ∷ []) = e
sum (e ∷ f ∷ es) = over 9 (terms (e ∷ f ∷ es))
