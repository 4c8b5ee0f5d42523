-- Words and operands: what a word says of its operands, and that no expression's words are a proper beginning of another's.
use mathlib.Core.Path.{◌≡◌, refl, ap, sym, ◌∙◌}
use mathlib.Core.List.{List, [], ◌∷◌, ◌++◌, append_assoc, append-nil}
use mathlib.Core.Bool.{Bool, true, false, cond}
use Prim.Native.Nat.{ℕ, zero, suc, ◌+◌, ◌≤◌, ◌<◌}
use native.Mathlib.Omega.{arith}
use native.Mathlib.Nat.{add-zero, add-suc}
use lib.Dec.{ltb}
use borrow.Author.Tests.{lt-ltb, le-ltb, ltb-true, ltb-false}
use Rattle.base.specs.Word.{word, kind_of, load_of}
use Rattle.nl.specs.Expr.{load_limit, Expr, constant, column, shared, over, Terms, none, more, count, Takes, two, one, sum, load_for, next, words, words_of, HasWords, HasWordsOf}
use Rattle.nl.specs.Reader.{arity}

pub kind_word : (k l : ℕ) → l < load_limit → kind_of (word k l) ≡ k
kind_word k l h = omega arith

pub load_word : (k l : ℕ) → l < load_limit → load_of (word k l) ≡ l
load_word k l h = omega arith

-- the rule on operands as the reader computes it
pub record Operands (kind n : ℕ) : Type 0 where
  pub low : 3 ≤ kind
  pub high : kind ≤ 9
  pub operands : arity kind n ≡ n
  pub sum : kind ≡ 9 → 2 ≤ n

pub operands : (kind n : ℕ) → Takes kind n → Operands kind n
unfolding arity
operands kind n (two a b e) =
    record { low = a; high = omega arith; operands = rw (le-ltb kind 3 a, lt-ltb kind 6 (omega arith)) (sym e); sum = λ z. absurd (omega arith) }
operands kind n (one a b e) =
    record { low = omega arith; high = omega arith; operands = rw (le-ltb kind 3 (omega arith), le-ltb kind 6 a, lt-ltb kind 9 (omega arith)) (sym e); sum = λ z. absurd (omega arith) }
operands kind n (sum e h) =
    record { low = omega arith; high = omega arith; operands = rw (le-ltb kind 3 (omega arith), le-ltb kind 6 (omega arith), le-ltb kind 9 (omega arith)); sum = λ z. h }

pub takes : (kind n : ℕ) → Operands kind n → Takes kind n
unfolding arity
takes kind n t = go (ltb kind 6) (ltb kind 9) refl refl (rw (le-ltb kind 3 t.low) at t.operands)
  where
    go : (b c : Bool) → ltb kind 6 ≡ b → ltb kind 9 ≡ c → cond b 2 (cond c 1 n) ≡ n → Takes kind n
    go true c e f p = two t.low (omega (arith, ltb-true kind 6 e)) (sym p)
    go false true e f p = one (ltb-false kind 6 e) (omega (arith, ltb-true kind 9 f)) (sym p)
    go false false e f p = let z : kind ≡ 9 = omega (arith, ltb-false kind 9 f, t.high) in sum z (t.sum z)

-- how many operands follow a word
abbrev pub arity_of : ℕ → ℕ
arity_of w = arity (kind_of w) (load_of w)

arity_word : (k l : ℕ) → l < load_limit → arity_of (word k l) ≡ arity k l
arity_word k l h = rw (kind_word k l h, load_word k l h)

-- a leaf has no operands; a kind over n operands has n
pub leaf_arity : (kind l : ℕ) → kind < 3 → arity kind l ≡ 0
unfolding arity
leaf_arity kind l h = rw (lt-ltb kind 3 h)

load_back : (a b c : Bool) (n : ℕ) → cond a 0 (cond b 2 (cond c 1 (cond c 0 n))) ≡ cond a 0 (cond b 2 (cond c 1 n))
load_back a b true n = refl
load_back a b false n = refl

pub over_arity : (kind n : ℕ) → Operands kind n → arity kind (load_for kind n) ≡ n
unfolding arity load_for
over_arity kind n t = load_back (ltb kind 3) (ltb kind 6) (ltb kind 9) n ∙ t.operands

-- the words after n expressions
skip : List ℕ → ℕ → List ℕ
skip [] n = []
skip (w ∷ ws) zero = w ∷ ws
skip (w ∷ ws) (suc n) = skip ws (n + arity_of w)

skip_zero : (ws : List ℕ) → skip ws 0 ≡ ws
unfolding skip
skip_zero [] = refl
skip_zero (w ∷ ws) = refl

skip_leaf : (kind l n : ℕ) (xs : List ℕ) → l < load_limit → kind < 3 → skip (word kind l ∷ xs) (suc n) ≡ skip xs n
unfolding skip
skip_leaf kind l n xs h lt = ap (skip xs) (ap (λ m. n + m) (arity_word kind l h ∙ leaf_arity kind l lt) ∙ add-zero n)

mutual
  unfolding skip words HasWords

  skip_words : (e : Expr) (k n : ℕ) (xs : List ℕ) → HasWords k e → skip (words k e ++ xs) (suc n) ≡ skip xs n
  skip_words (constant b) k n xs h = skip_leaf 0 k n xs h (omega arith)
  skip_words (column j) k n xs h = skip_leaf 1 j n xs h (omega arith)
  skip_words (shared s) k n xs h = skip_leaf 2 s n xs h (omega arith)
  skip_words (over kind ts) k n xs h =
      ap (skip (words_of k ts ++ xs)) (ap (λ m. n + m) (arity_word kind (load_for kind (count ts)) h.0 ∙ over_arity kind (count ts) (operands kind (count ts) h.1)))
      ∙ skip_words_of ts k n xs h.2

  skip_words_of : (ts : Terms) (k n : ℕ) (xs : List ℕ) → HasWordsOf k ts → skip (words_of k ts ++ xs) (n + count ts) ≡ skip xs n
  skip_words_of none k n xs h = ap (skip xs) (add-zero n)
  skip_words_of (more e ts) k n xs h =
      rw (append_assoc, add-suc) (skip_words e k (n + count ts) (words_of (next k e) ts ++ xs) h.0 ∙ skip_words_of ts (next k e) n xs h.1)

-- what follows an expression's words is settled by the words
pub cancel : (e e' : Expr) (k k' : ℕ) (xs ys : List ℕ) → HasWords k e → HasWords k' e' → words k e ++ xs ≡ words k' e' ++ ys → xs ≡ ys
cancel e e' k k' xs ys h h' p =
    sym (skip_words e k 0 xs h ∙ skip_zero xs) ∙ ap (λ l. skip l 1) p ∙ skip_words e' k' 0 ys h' ∙ skip_zero ys

pub no_proper_beginning : (e e' : Expr) (k k' : ℕ) (xs : List ℕ) → HasWords k e → HasWords k' e' → words k e ++ xs ≡ words k' e' → xs ≡ []
no_proper_beginning e e' k k' xs h h' p = cancel e e' k k' xs [] h h' (p ∙ sym (append-nil (words k' e')))
