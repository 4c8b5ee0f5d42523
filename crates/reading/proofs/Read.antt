-- A file that stands for a network's model is read as that model: nl's condition 3, with the network's rows for the file's.
use mathlib.Core.Path.{◌≡◌, refl, ap, ap₂, sym, ◌∙◌}
use mathlib.Core.List.{List, [], ◌∷◌, ◌++◌, map, map-append}
use Prim.Native.Nat.{ℕ, suc, ◌<◌}
use native.Mathlib.Omega.{arith}
use lib.ListN.{length, length-map, get_or, take, drop}
use lib.Seq.{split_at, length-take-le}
use lib.Ieee.{Float}
use Rattle.nl.specs.Expr.{Expr, more, words}
use Rattle.nl.specs.File.{StandsFor, join, IsRow}
use Rattle.nl.specs.Finder.{row_start, row_length, row_words}
use Rattle.nl.proofs.Unique.{model_unique}
use Rattle.nl.proofs.Condition3.{exactly_when, row_found, no_row, same_files}
use Rattle.acopf.specs.Build.{terms}
use Rattle.acopf.specs.Rows.{Row, rows}
use Rattle.acopf.specs.Model.{model}
use Rattle.acopf.proofs.Counts.{count_terms, model_rows}
use Rattle.reading.specs.ReadsAs.{expressions, rows_before, first_constant, expression_start, Answers, ReadsAs}

terms_append : (es fs : List Expr) → terms (es ++ fs) ≡ join (terms es) (terms fs)
terms_append [] fs = refl
terms_append (e ∷ es) fs = ap (more e) (terms_append es fs)

-- the r-th of the network's rows is row r of its model
module _ (ws : List ℕ) (xs : List Float) where
  rows_split : (r : ℕ) (d : Row) → r < length (rows ws xs) → (model ws xs).rows ≡ join (rows_before ws xs r) (more (get_or (rows ws xs) r d).expression (expressions (drop (suc r) (rows ws xs))))
  unfolding model
  rows_split r d h =
      let l = rows ws xs in
      ap expressions (split_at l r d h) ∙ ap terms (map-append (λ x. x.expression) (take r l) (get_or l r d ∷ drop (suc r) l))
      ∙ terms_append (map (λ x. x.expression) (take r l)) (map (λ x. x.expression) (get_or l r d ∷ drop (suc r) l))

  pub is_row : (r : ℕ) (d : Row) → r < length (rows ws xs) → IsRow (model ws xs) r (expression_start ws xs r) (first_constant ws xs r) (get_or (rows ws xs) r d).expression
  is_row r d h =
      let l = take r (rows ws xs) in
      record {
        earlier = rows_before ws xs r;
        later = expressions (drop (suc r) (rows ws xs));
        rows = rows_split r d h;
        number = sym (count_terms (map (λ x. x.expression) l) ∙ length-map l (λ x. x.expression) ∙ length-take-le r (rows ws xs) (omega arith));
        begins = refl;
        first = refl;
      }

-- a row that the finder answers stands where its start says
there : (file : List ℕ) (constants columns r start k : ℕ) (e : Expr)
    → row_start file constants columns r ≡ start → row_length file constants columns r ≡ length (words k e) → row_words file constants columns r ≡ words k e → take (length (words k e)) (drop start file) ≡ words k e
unfolding row_start row_length row_words
there file constants columns r start k e s l w = ap₂ (λ x y. take x (drop y file)) (sym l) (sym s) ∙ w

module _ (ws : List ℕ) (xs : List Float) (file bits : List ℕ) (columns : ℕ) (S : StandsFor file bits columns (model ws xs)) where
  answers : (r : ℕ) (d : Row) → r < length (rows ws xs) → Answers file (length bits) columns r (expression_start ws xs r) (first_constant ws xs r) (get_or (rows ws xs) r d).expression
  answers r d h =
      let e = (get_or (rows ws xs) r d).expression in
      let f = row_found file bits columns (model ws xs) S r (expression_start ws xs r) (first_constant ws xs r) e (is_row ws xs r d h) in
      record {
        not_refused = f.0;
        starts = f.1;
        long = f.2;
        its_words = f.3;
        stand_there = there file (length bits) columns r (expression_start ws xs r) (first_constant ws xs r) e f.1 f.2 f.3;
      }

  pub reads_as : ReadsAs file bits (length bits) columns (length (rows ws xs)) ws xs
  reads_as = record {
    stands = S;
    nothing_else = λ columns' N s. model_unique file bits columns' columns N (model ws xs) s S;
    not_17 = λ r. (exactly_when file bits columns r).0 (model ws xs, S);
    row = answers;
    no_row = λ r. rw (← model_rows ws xs) (no_row file bits columns (model ws xs) S r).0;
    no_row_place = λ r h. rw (← model_rows ws xs) ((no_row file bits columns (model ws xs) S r).1 (rw (model_rows ws xs) h));
    same = λ file' bits' columns' N s. same_files file bits file' bits' columns columns' (model ws xs) N S s;
  }
