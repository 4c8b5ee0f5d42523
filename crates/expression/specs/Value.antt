-- Document 02 (a): the value of an expression at a point, one rounding per operation.
use Rattle.std.specs.Prelude.{ℕ, Bool, true, cond, ◌&&◌, List, [], ◌∷◌, map, eqb, get_or, Float}
use Rattle.std.specs.Float.{binary64}
use Rattle.std.specs.Float.Ieee.{to_bits, of_bits, neg, le}
use Rattle.float.specs.Number.{◌⊕◌, ◌⊖◌, ◌⊗◌, zero64}
use Rattle.fdlibm.specs.Trig.{sine, cosine}
use Rattle.nl.specs.Expr.{Expr, constant, column, shared, over, Terms, none, more}

-- the operands gathered so far, and the next: 4 subtract, 5 multiply, 3 add and 9 sum
unfoldable pub step : ℕ → Float → Float → Float
step kind a b = cond (eqb kind 4) (a ⊖ b) (cond (eqb kind 5) (a ⊗ b) (a ⊕ b))

abbrev pub fold : (Float → Float → Float) → Float → List Float → Float
fold f a [] = a
fold f a (b ∷ bs) = fold f (f a b) bs

-- "A sum runs left to right from its first term". (An expression that has words has an operand under each kind.)
abbrev pub gathered : ℕ → List Float → Float
gathered kind [] = zero64
gathered kind (a ∷ bs) = fold (step kind) a bs

-- "a square is the operand times itself"; 7 cosine and 8 sine are fdlibm's
unfoldable pub applied : ℕ → Float → Float
applied kind a = cond (eqb kind 6) (a ⊗ a) (cond (eqb kind 7) (cosine a) (cond (eqb kind 8) (sine a) a))

-- 4,096
abbrev pub argument_limit : Float
argument_limit = of_bits binary64 0x40B0_0000_0000_0000

-- neither "non-finite" nor "outside -4,096 to 4,096"
unfoldable pub inside : Float → Bool
inside a = le (neg argument_limit) a && le a argument_limit

-- what 14 asks of the argument of a sine or cosine; other kinds ask nothing
unfoldable pub argument_ok : ℕ → Float → Bool
argument_ok kind a = cond (eqb kind 7) (inside a) (cond (eqb kind 8) (inside a) true)

-- at a point, where the shared parts have these values
module _ (point values : List Float) where
  unfoldable mutual
    pub value : Expr → Float
    value (constant bits) = of_bits binary64 bits
    value (column j) = get_or point j zero64
    value (shared s) = get_or values s zero64
    value (over kind ts) = applied kind (gathered kind (values_of ts))

    pub values_of : Terms → List Float
    values_of none = []
    values_of (more e ts) = value e ∷ values_of ts

  -- the argument of each sine and cosine in it, wherever it stands, is inside
  unfoldable mutual
    pub in_range : Expr → Bool
    in_range (constant bits) = true
    in_range (column j) = true
    in_range (shared s) = true
    in_range (over kind ts) = in_range_of ts && argument_ok kind (gathered kind (values_of ts))

    pub in_range_of : Terms → Bool
    in_range_of none = true
    in_range_of (more e ts) = in_range e && in_range_of ts

-- a file's constants are 64-bit patterns
abbrev pub patterns : List Float → List ℕ
patterns = map (to_bits binary64)
