-- The seven lent lists before and after a call of compile (document 00, condition 1).
use Rattle.std.specs.Prelude.{ℕ, ◌≡◌, List, [], ◌∷◌, length, Float}
use Rattle.compile.specs.Compile.{words_after, constants_after}
use Rattle.compile.specs.Compile.{column_lower_after, column_upper_after, start_after, row_lower_after, row_upper_after}

pub record Lists : Type 0 where
  pub words : List ℕ
  pub constants : List Float
  pub column_lower_is : List Float
  pub column_upper_is : List Float
  pub start : List Float
  pub row_lower_is : List Float
  pub row_upper_is : List Float

abbrev pub lists : List ℕ → List Float → List Float → List Float → List Float → List Float → List Float → Lists
lists words constants column_lower column_upper start row_lower row_upper =
    record {
      words = words;
      constants = constants;
      column_lower_is = column_lower;
      column_upper_is = column_upper;
      start = start;
      row_lower_is = row_lower;
      row_upper_is = row_upper;
    }

-- their lengths, in refusal 12's order
abbrev pub lent : Lists → List ℕ
lent l =
    length l.words ∷ length l.constants ∷ length l.column_lower_is ∷ length l.column_upper_is ∷ length l.start
    ∷ length l.row_lower_is ∷ length l.row_upper_is ∷ []

-- "either the finished result in its named front part with the rest untouched, or, after a refusal, exactly what it held before"
pub record Held (ws : List ℕ) (xs : List Float) (before after : Lists) : Type 0 where
  pub words : after.words ≡ words_after ws xs (lent before) before.words
  pub constants : after.constants ≡ constants_after ws xs (lent before) before.constants
  pub column_lower_is : after.column_lower_is ≡ column_lower_after ws xs (lent before) before.column_lower_is
  pub column_upper_is : after.column_upper_is ≡ column_upper_after ws xs (lent before) before.column_upper_is
  pub start : after.start ≡ start_after ws xs (lent before) before.start
  pub row_lower_is : after.row_lower_is ≡ row_lower_after ws xs (lent before) before.row_lower_is
  pub row_upper_is : after.row_upper_is ≡ row_upper_after ws xs (lent before) before.row_upper_is
