-- From words and constants back to the expression: the same words and the same constants are those of one expression.
use mathlib.Core.Path.{◌≡◌, refl, ap, sym, ◌∙◌}
use mathlib.Core.List.{List, [], ◌∷◌, ◌++◌, append_assoc}
use mathlib.Core.Bool.{cond}
use Prim.Native.Nat.{ℕ, zero, suc, ◌+◌, ◌≤◌, ◌<◌}
use native.Mathlib.Omega.{arith}
use native.Mathlib.Nat.{add-zero}
use lib.ListN.{length, get_or, drop}
use lib.Seq.{get_or-drop, drop-drop, drop-append_seam}
use lib.Dec.{ltb}
use borrow.Author.Tests.{le-ltb}
use Rattle.base.specs.Word.{word, kind_of, load_of}
use Rattle.nl.specs.Expr.{load_limit, Expr, constant, column, shared, over, Terms, none, more, count, load_for, constants, constants_of, next, words, words_of, HasWords, HasWordsOf}
use Rattle.nl.specs.File.{join}
use Rattle.nl.specs.Reader.{arity}
use Rattle.nl.proofs.Words.{kind_word, load_word, arity_of, operands, over_arity}

abbrev take_t : ℕ → Terms → Terms
take_t zero ts = none
take_t (suc n) none = none
take_t (suc n) (more e ts) = more e (take_t n ts)

abbrev drop_t : ℕ → Terms → Terms
drop_t zero ts = ts
drop_t (suc n) none = none
drop_t (suc n) (more e ts) = drop_t n ts

take_join : (ts us : Terms) → take_t (count ts) (join ts us) ≡ ts
take_join none us = refl
take_join (more e ts) us = ap (more e) (take_join ts us)

drop_join : (ts us : Terms) → drop_t (count ts) (join ts us) ≡ us
drop_join none us = refl
drop_join (more e ts) us = drop_join ts us

-- from the last word to the first: a word takes its operands off the expressions that follow it
push : List ℕ → ℕ → ℕ → ℕ → Terms → Terms
push cs kind load n st =
    cond (ltb kind 1) (more (constant (get_or cs load 0)) st)
    (cond (ltb kind 2) (more (column load) st)
    (cond (ltb kind 3) (more (shared load) st)
    (more (over kind (take_t n st)) (drop_t n st))))

build : List ℕ → List ℕ → Terms
build cs [] = none
build cs (w ∷ ws) = push cs (kind_of w) (load_of w) (arity_of w) (build cs ws)

-- a word whose load fits is pushed by its kind and load
build_cons : (cs : List ℕ) (kind l : ℕ) (ws : List ℕ) → l < load_limit → build cs (word kind l ∷ ws) ≡ push cs kind l (arity kind l) (build cs ws)
unfolding build
build_cons cs kind l ws h = rw (kind_word kind l h, load_word kind l h)

pub drop_past : (k : ℕ) (l xs ys : List ℕ) → drop k l ≡ xs ++ ys → drop (k + length xs) l ≡ ys
drop_past k l xs ys p = sym (drop-drop (length xs) k l) ∙ ap (drop (length xs)) p ∙ drop-append_seam xs ys

pub get_d_here : (k : ℕ) (l : List ℕ) (x : ℕ) (ys : List ℕ) → drop k l ≡ x ∷ ys → get_or l k 0 ≡ x
get_d_here k l x ys p = ap (λ m. get_or l m 0) (sym (add-zero k)) ∙ sym (get_or-drop k l 0 0) ∙ ap (λ m. get_or m 0 0) p

push_over : (cs : List ℕ) (kind l n : ℕ) (st : Terms) → 3 ≤ kind → push cs kind l n st ≡ more (over kind (take_t n st)) (drop_t n st)
unfolding push
push_over cs kind l n st h = rw (le-ltb kind 1 (omega arith), le-ltb kind 2 (omega arith), le-ltb kind 3 h)

mutual
  unfolding words HasWords constants push

  build_words : (e : Expr) (k : ℕ) (cs rest xs : List ℕ) → HasWords k e → drop k cs ≡ constants e ++ rest → build cs (words k e ++ xs) ≡ more e (build cs xs)
  build_words (constant b) k cs rest xs h p = build_cons cs 0 k xs h ∙ ap (λ v. more (constant v) (build cs xs)) (get_d_here k cs b rest p)
  build_words (column j) k cs rest xs h p = build_cons cs 1 j xs h
  build_words (shared s) k cs rest xs h p = build_cons cs 2 s xs h
  build_words (over kind ts) k cs rest xs h p =
      build_cons cs kind (load_for kind (count ts)) (words_of k ts ++ xs) h.0
      ∙ push_over cs kind (load_for kind (count ts)) (arity kind (load_for kind (count ts))) (build cs (words_of k ts ++ xs)) (operands kind (count ts) h.1).low
      ∙ rw (over_arity kind (count ts) (operands kind (count ts) h.1), build_words_of ts k cs rest xs h.2 p, take_join ts (build cs xs), drop_join ts (build cs xs))

  build_words_of : (ts : Terms) (k : ℕ) (cs rest xs : List ℕ) → HasWordsOf k ts → drop k cs ≡ constants_of ts ++ rest → build cs (words_of k ts ++ xs) ≡ join ts (build cs xs)
  build_words_of none k cs rest xs h p = refl
  build_words_of (more e ts) k cs rest xs h p =
      let q : drop k cs ≡ constants e ++ (constants_of ts ++ rest) = p ∙ append_assoc (constants e) (constants_of ts) rest in
      rw append_assoc (build_words e k cs (constants_of ts ++ rest) (words_of (next k e) ts ++ xs) h.0 q
      ∙ ap (more e) (build_words_of ts (next k e) cs rest xs h.1 (drop_past k cs (constants e) (constants_of ts ++ rest) q)))

abbrev head_t : Expr → Terms → Expr
head_t d none = d
head_t d (more e ts) = e

-- the same words and the same constants: the same expression, and the same words after it
pub unique : (e e' : Expr) (k : ℕ) (cs rest rest' xs ys : List ℕ) → HasWords k e → HasWords k e' → drop k cs ≡ constants e ++ rest → drop k cs ≡ constants e' ++ rest'
    → words k e ++ xs ≡ words k e' ++ ys → e ≡ e'
unique e e' k cs rest rest' xs ys h h' c c' p =
    ap (head_t e) (sym (build_words e k cs rest xs h c) ∙ ap (build cs) p ∙ build_words e' k cs rest' ys h' c')
