-- Document 01, "Numbers a controller shows", and document 02: each refusal's number by its word.
use Rattle.std.specs.Prelude.{ℕ}
use Rattle.base.specs.declared.refusal.Reason.{Reason}
use Rattle.base.specs.declared.refusal.Reason.TheVariants.{Words, Size, Count, Blank, Curve, Shift, Bounds, Spread, Rating, Square, Factor, Short, Point, Swing, Derived, Residual, Model, Row, Value, Tolerance}

abbrev pub WORDS : ℕ
WORDS = 1

abbrev pub SIZE : ℕ
SIZE = 2

abbrev pub COUNT : ℕ
COUNT = 3

abbrev pub BLANK : ℕ
BLANK = 4

abbrev pub CURVE : ℕ
CURVE = 5

abbrev pub SHIFT : ℕ
SHIFT = 6

abbrev pub BOUNDS : ℕ
BOUNDS = 7

abbrev pub SPREAD : ℕ
SPREAD = 8

abbrev pub RATING : ℕ
RATING = 9

abbrev pub SQUARE : ℕ
SQUARE = 10

abbrev pub FACTOR : ℕ
FACTOR = 11

abbrev pub SHORT : ℕ
SHORT = 12

abbrev pub POINT : ℕ
POINT = 13

abbrev pub SWING : ℕ
SWING = 14

abbrev pub DERIVED : ℕ
DERIVED = 15

abbrev pub RESIDUAL : ℕ
RESIDUAL = 16

abbrev pub MODEL : ℕ
MODEL = 17

abbrev pub ROW : ℕ
ROW = 18

abbrev pub VALUE : ℕ
VALUE = 19

abbrev pub TOLERANCE : ℕ
TOLERANCE = 20

abbrev pub number_of : Reason → ℕ
number_of Words = WORDS
number_of Size = SIZE
number_of Count = COUNT
number_of Blank = BLANK
number_of Curve = CURVE
number_of Shift = SHIFT
number_of Bounds = BOUNDS
number_of Spread = SPREAD
number_of Rating = RATING
number_of Square = SQUARE
number_of Factor = FACTOR
number_of Short = SHORT
number_of Point = POINT
number_of Swing = SWING
number_of Derived = DERIVED
number_of Residual = RESIDUAL
number_of Model = MODEL
number_of Row = ROW
number_of Value = VALUE
number_of Tolerance = TOLERANCE
