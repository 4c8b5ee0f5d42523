-- Every word of a file that stands for a model fits in 32 bits.
use mathlib.Core.List.{List}
use Prim.Native.Nat.{ℕ, ◌+◌, ◌^◌, ◌<◌}
use native.Mathlib.Omega.{arith}
use lib.ListN.{length, get_or}
use Rattle.base.specs.Word.{word}
use Rattle.base.proofs.Loops.{Every, every_nil, every_cons, every_append, all_at}
use Rattle.nl.specs.Expr.{load_limit, Expr, Terms, none, more, constant, column, shared, over, count, Takes, two, one, sum, load_for, next, words, words_of, HasWords, HasWordsOf}
use Rattle.nl.specs.File.{Model, part_words, PartsRuled, at_rows, at_objective, model_words, depth_limit, StandsFor}

abbrev Fits32 : ℕ → ℕ → Type 0
Fits32 i w = w < 2 ^ 32

word_fits : (kind load : ℕ) → kind < 16 → load < load_limit → word kind load < 2 ^ 32
word_fits kind load h k = omega arith

kind_fits : (kind n : ℕ) → Takes kind n → kind < 16
kind_fits kind n (two l h e) = omega arith
kind_fits kind n (one l h e) = omega arith
kind_fits kind n (sum e h) = omega arith

mutual
  unfolding words HasWords

  expression_fits : (e : Expr) (k i : ℕ) → HasWords k e → Every Fits32 i (words k e)
  expression_fits (constant bits) k i h = every_cons (word_fits 0 k (omega arith) h) every_nil
  expression_fits (column j) k i h = every_cons (word_fits 1 j (omega arith) h) every_nil
  expression_fits (shared s) k i h = every_cons (word_fits 2 s (omega arith) h) every_nil
  expression_fits (over kind ts) k i h = every_cons (word_fits kind (load_for kind (count ts)) (kind_fits kind (count ts) h.1) h.0) (terms_fit ts k (i + 1) h.2)

  terms_fit : (ts : Terms) (k i : ℕ) → HasWordsOf k ts → Every Fits32 i (words_of k ts)
  terms_fit none k i h = every_nil
  terms_fit (more e ts) k i h = every_append (expression_fits e k i h.0) (terms_fit ts (next k e) (i + length (words k e)) h.1)

parts_fit : (columns : ℕ) (named : ℕ → ℕ) (kind : ℕ) → kind < 16 → (ts : Terms) (n k i : ℕ) → PartsRuled depth_limit columns named n k ts → Every Fits32 i (part_words kind n k ts)
unfolding part_words PartsRuled
parts_fit columns named kind l none n k i h = every_nil
parts_fit columns named kind l (more e ts) n k i h =
    every_cons (word_fits kind n l h.0) (every_append (expression_fits e k (i + 1) h.1.loads) (parts_fit columns named kind l ts (n + 1) (next k e) (i + 1 + length (words k e)) h.2))

all_fit : (file bits : List ℕ) (columns : ℕ) (M : Model) → StandsFor file bits columns M → Every Fits32 0 file
unfolding model_words
all_fit file bits columns M S =
    rw S.its_words (every_append (parts_fit columns (λ i. i) 10 (omega arith) M.shared 0 0 0 S.shared_ruled)
    (every_append (parts_fit columns (λ i. count M.shared) 11 (omega arith) M.rows 0 (at_rows M) _ S.rows_ruled)
    (every_cons (word_fits 12 0 (omega arith) (omega arith))
    (every_append (expression_fits M.objective (at_objective M) _ S.objective_ruled.loads) (every_cons (word_fits 13 0 (omega arith) (omega arith)) every_nil)))))

pub file_fits : (file bits : List ℕ) (columns : ℕ) (M : Model) → StandsFor file bits columns M → (i : ℕ) → i < length file → get_or file i 0 < 2 ^ 32
file_fits file bits columns M S i h = all_at Fits32 0 file (all_fit file bits columns M S).all i 0 h
