-- An expression read under the reading rules and worked out in one go.
use Rattle.std.specs.Prelude.{ℕ, suc, ◌≡◌, ◌<◌, Bool, true, false, List, length, get_or, Option, Some, None, Result, Ok, Err, Float}
use Rattle.std.specs.Float.{binary64, nan}
use Rattle.std.specs.Float.Ieee.{to_bits, of_bits}
use Rattle.base.specs.Word.{kind_of, load_of}
use Rattle.nl.specs.declared.reader.Cursor.{Cursor}
use Rattle.nl.specs.declared.reader.WrongWord.{WrongWord}
use Rattle.nl.specs.Reader.{word_ok, read_expr}
use Rattle.expression.specs.declared.Number.{Number}
use Rattle.expression.specs.declared.Scanned.{Scanned}
use Rattle.model_reading.specs.Parse.{Parsed, parse}
use Rattle.expression.specs.Value.{value, in_range, patterns}

-- what an expression that was read is worth: its value, whether 14 spares it, and where it ends
pub record Worth : Type 0 where
  pub its : Float
  pub spared : Bool
  pub end : ℕ

abbrev pub evaluated : List Float → List Float → Parsed → Worth
evaluated point values p = record { its = value point values p.expr; spared = in_range point values p.expr; end = p.end }

abbrev pub worth : Scanned → Worth
worth s = record { its = s.value; spared = s.in_range; end = s.end.at }

-- a number as an expression, which 14 spares
abbrev pub as_scanned : Number → Scanned
as_scanned n = record { value = n.value; in_range = true; end = n.end }

-- a number of a list, which is that of its pattern
pub record IsNumber (numbers : List Float) (load : ℕ) (end : Cursor) (n : Number) : Type 0 where
  pub within : load < length numbers
  pub is : n ≡ record { value = get_or numbers load nan; end = end }
  pub by_pattern : of_bits binary64 (to_bits binary64 n.value) ≡ n.value

module _ (ws : List ℕ) (xs point values : List Float) where
  -- the expression at `at` passes reading where as many shared parts may be named as have values, and this is its worth
  pub record Reads (depth at k : ℕ) (s : Scanned) : Type 0 where
    pub went : read_expr ws (length xs) (length point) (length values) depth at k ≡ Ok s.end
    pub is : evaluated point values (parse ws (patterns xs) depth at) ≡ worth s

  -- what was found, if anything was
  abbrev pub Finds : ℕ → ℕ → ℕ → Option Number → Type 0
  Finds depth at k (Some n) = Reads depth at k (as_scanned n)
  Finds depth at k None = Unit {0}

  -- a constant, column or shared part, at any depth; or its word may not stand, if it is the word of one
  abbrev pub LeafScans : ℕ → ℕ → Option Number → Type 0
  LeafScans at k (Some n) = (depth : ℕ) → Reads (suc depth) at k (as_scanned n)
  LeafScans at k None =
      at < length ws → kind_of (get_or ws at 0) < 3
      → word_ok (length xs) (length point) (length values) k (kind_of (get_or ws at 0)) (load_of (get_or ws at 0)) ≡ false

  -- the expression, or else the first wrong word, as the finder has it
  abbrev pub Scans : ℕ → ℕ → ℕ → Result Scanned WrongWord → Type 0
  Scans depth at k (Ok s) = Reads depth at k s
  Scans depth at k (Err w) = read_expr ws (length xs) (length point) (length values) depth at k ≡ Err w
