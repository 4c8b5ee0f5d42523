-- Laws of tokens: what they say of words, constants and parts, and writers one after the other.
use Prim.Native.Nat.{ℕ, zero, suc, ◌+◌, ◌<◌}
use native.Mathlib.Nat.{add-zero, zero-add, le_of_suc-le-suc, not-suc-le-zero, eq-or-lt_of_le}
use native.Mathlib.Numerals.{add-one}
use native.Mathlib.Omega.{arith}
use mathlib.Core.Path.{◌≡◌, refl, sym, ap, subst, ◌∙◌}
use mathlib.Core.Logic.{⊎_elim}
use mathlib.Core.Bool.{cond}
use mathlib.Core.List.{List, [], ◌∷◌, ◌++◌, map, append_assoc, append-nil}
use lib.ListN.{length, get_or, length-append, length-map}
use lib.Dec.{T, ltb}
use lib.Ieee.{Float, binary64, of_bits, fits, nan}
use lib.Ieee.Bits.{of_bits-to_bits}
use Rattle.base.specs.Loop.{loop, table, each}
use Rattle.base.specs.Word.{word}
use Rattle.nl.specs.Expr.{Expr, Terms, none, more, constant, column, shared, over, count, load_for, words, words_of, constants, constants_of, next}
use Rattle.nl.specs.File.{part_words}
use Rattle.acopf.specs.Build.{terms}
use Rattle.writer.specs.declared.writer.ModelWriter.{ModelWriter}
use Rattle.base.specs.internal.Section.{Wrote}
use Rattle.writer.specs.internal.Tokens.{Token, fixed, numbered, begins, words_from, numbers_of, begun, tokens, tokens_of, list_tokens, part_tokens, through_bits, Put, Written, Room}
use Rattle.base.proofs.Sections.{then, wrote_none, wrote_length}

-- ---- tokens of a list

pub length_words : (k i : ℕ) (ts : List Token) → length (words_from k i ts) ≡ length ts
length_words k i [] = refl
length_words k i (fixed w ∷ ts) = ap suc (length_words k i ts)
length_words k i (numbered x ∷ ts) = ap suc (length_words (k + 1) i ts)
length_words k i (begins x ∷ ts) = ap suc (length_words k (i + 1) ts)

pub numbers_append : (u v : List Token) → numbers_of (u ++ v) ≡ numbers_of u ++ numbers_of v
numbers_append [] v = refl
numbers_append (fixed w ∷ u) v = numbers_append u v
numbers_append (numbered x ∷ u) v = ap (λ (l : List Float). of_bits binary64 x ∷ l) (numbers_append u v)
numbers_append (begins w ∷ u) v = numbers_append u v

begun_append : (u v : List Token) → begun (u ++ v) ≡ begun u + begun v
begun_append [] v = sym (zero-add _)
begun_append (fixed w ∷ u) v = begun_append u v
begun_append (numbered x ∷ u) v = begun_append u v
begun_append (begins w ∷ u) v = rw (begun_append u v) (omega arith)

pub words_append : (k i : ℕ) (u v : List Token) → words_from k i (u ++ v) ≡ words_from k i u ++ words_from (k + length (numbers_of u)) (i + begun u) v
words_append k i [] v = rw (add-zero, add-zero)
words_append k i (fixed w ∷ u) v = ap (λ (l : List ℕ). w ∷ l) (words_append k i u v)
words_append k i (numbered x ∷ u) v =
    let e : k + 1 + length (numbers_of u) ≡ k + suc (length (numbers_of u)) = omega arith in
    ap (λ (l : List ℕ). word 0 k ∷ l) (words_append (k + 1) i u v ∙ ap (λ (n : ℕ). words_from (k + 1) i u ++ words_from n (i + begun u) v) e)
words_append k i (begins x ∷ u) v =
    let e : i + 1 + begun u ≡ i + suc (begun u) = omega arith in
    ap (λ (l : List ℕ). word x i ∷ l) (words_append k (i + 1) u v ∙ ap (λ (n : ℕ). words_from k (i + 1) u ++ words_from (k + length (numbers_of u)) n v) e)

-- ---- one writing after the other

pub written_none : (p : ModelWriter) → Written p [] p
written_none p = record {
  words = wrote_none p.words.now p.word;
  numbers = wrote_none p.constants.now p.constant;
  parts = sym (add-zero _);
  same_words = refl;
  same_constants = refl;
}

pub written_then : {p q r : ModelWriter} {u v : List Token} → Written p u q → Written q v r → Written p (u ++ v) r
written_then {p} {q} {r} {u} {v} a b = record {
  words = subst (λ (l : List ℕ). Wrote p.words.now p.word l r.words.now r.word)
      (rw (a.numbers.follows, a.parts) (sym (words_append p.constant p.part u v)))
      (then a.words b.words);
  numbers = subst (λ (l : List Float). Wrote p.constants.now p.constant l r.constants.now r.constant) (sym (numbers_append u v)) (then a.numbers b.numbers);
  parts = omega (arith, a.parts, b.parts, begun_append u v);
  same_words = b.same_words ∙ a.same_words;
  same_constants = b.same_constants ∙ a.same_constants;
}

pub room_first : {p : ModelWriter} (u v : List Token) → Room p (u ++ v) → Room p u
room_first u v r = record {
  words = omega (arith, r.words, length-append u v);
  numbers = omega (arith, r.numbers, ap length (numbers_append u v), length-append (numbers_of u) (numbers_of v));
  constants = omega (arith, r.constants, ap length (numbers_append u v), length-append (numbers_of u) (numbers_of v));
  parts = omega (arith, r.parts, begun_append u v);
}

pub room_then : {p q : ModelWriter} (u v : List Token) → Room p (u ++ v) → Written p u q → Room q v
room_then {p} {q} u v r a = record {
  words = omega (arith, r.words, length-append u v, a.words.follows, length_words p.constant p.part u, wrote_length a.words);
  numbers = omega (arith, r.numbers, ap length (numbers_append u v), length-append (numbers_of u) (numbers_of v), a.numbers.follows, wrote_length a.numbers);
  constants = omega (arith, r.constants, ap length (numbers_append u v), length-append (numbers_of u) (numbers_of v), a.numbers.follows);
  parts = omega (arith, r.parts, begun_append u v, a.parts);
}

-- what is put is tokens, where words, numbers and beginnings are theirs
pub written_put : {p q : ModelWriter} {ws : List ℕ} {xs : List Float} {n : ℕ} (ts : List Token) → Put p ws xs n q
    → ws ≡ words_from p.constant p.part ts → map through_bits xs ≡ numbers_of ts → n ≡ begun ts → Written p ts q
written_put {p} {q} ts k w x n = record {
  words = rw w at k.words;
  numbers = rw x at k.numbers;
  parts = rw n at k.parts;
  same_words = k.same_words;
  same_constants = k.same_constants;
}

-- ---- a loop's turn

module _ {A : Type 0} where
  pub each_zero : (f : ℕ → List A) → each 0 f ≡ []
  unfolding each loop
  each_zero f = refl

  pub each_suc : (n : ℕ) (f : ℕ → List A) → each (suc n) f ≡ each n f ++ f n
  unfolding each loop
  each_suc n f = refl

  each_more : (n : ℕ) (f : ℕ → List A) → each (n + 1) f ≡ each n f ++ f n
  each_more n f = ap (λ (k : ℕ). each k f) (add-one n) ∙ each_suc n f

  -- the first i are a beginning of all n, and the next one follows
  each_split : (n i : ℕ) (f : ℕ → List A) → i < n → (v : List A) × (each n f ≡ (each i f ++ f i) ++ v)
  each_split zero i f h = absurd (not-suc-le-zero h)
  each_split (suc n) i f h =
      ⊎_elim
      (λ (q : i ≡ n). ([], rw (q, each_suc n f, append-nil)))
      (λ (lt : i < n). let r = each_split n i f lt in (r.0 ++ f n, rw (each_suc n f, r.1, append_assoc)))
      (eq-or-lt_of_le (le_of_suc-le-suc h))

pub turns_none : (p : ModelWriter) (f : ℕ → List Token) → Written p (each 0 f) p
turns_none p f = rw (each_zero f) (written_none p)

pub turns_step : {p q r : ModelWriter} (f : ℕ → List Token) (i : ℕ) → Written p (each i f) q → Written q (f i) r → Written p (each (i + 1) f) r
turns_step f i a b = rw (each_more i f) (written_then a b)

-- a turn that writes nothing
pub turns_skip : {p q : ModelWriter} (f : ℕ → List Token) (i : ℕ) → f i ≡ [] → Written p (each i f) q → Written p (each (i + 1) f) q
turns_skip f i e a = turns_step f i a (rw e (written_none _))

-- room for all is room for the next
pub turns_room : {p q : ModelWriter} (k : ℕ) (f : ℕ → List Token) (i : ℕ) → i < k → Room p (each k f) → Written p (each i f) q → Room q (f i)
turns_room k f i h r a =
    let s = each_split k i f h in
    room_then (each i f) (f i) (room_first (each i f ++ f i) s.0 (rw s.1 at r)) a

-- ---- numbers by way of their bits

pub map_append : {A B : Type 0} (f : A → B) (u v : List A) → map f (u ++ v) ≡ map f u ++ map f v
map_append f [] v = refl
map_append f (a ∷ u) v = ap (λ l. f a ∷ l) (map_append f u v)

pub bits_same : (xs : List Float) → ((i : ℕ) → T (fits binary64 (get_or xs i nan))) → map through_bits xs ≡ xs
bits_same [] g = refl
bits_same (x ∷ xs) g = rw (of_bits-to_bits binary64 x (g 0), bits_same xs (λ i. g (suc i)))

-- ---- tokens of lists of expressions

pub list_append : (u v : List Expr) → list_tokens (u ++ v) ≡ list_tokens u ++ list_tokens v
list_append [] v = refl
list_append (e ∷ u) v = rw (list_append u v) (sym (append_assoc (tokens e) (list_tokens u) (list_tokens v)))

pub parts_append : (kind : ℕ) (u v : List Expr) → part_tokens kind (u ++ v) ≡ part_tokens kind u ++ part_tokens kind v
parts_append kind [] v = refl
parts_append kind (e ∷ u) v = rw (parts_append kind u v) (ap (λ (l : List Token). begins kind ∷ l) (sym (append_assoc (tokens e) (part_tokens kind u) (part_tokens kind v))))

-- what keeps nothing and joining goes through a loop
pub each_through : {A B : Type 0} (h : List A → List B) → h [] ≡ [] → ((u v : List A) → h (u ++ v) ≡ h u ++ h v) → (n : ℕ) (f : ℕ → List A) → h (each n f) ≡ each n (λ i. h (f i))
each_through h z a zero f = rw (each_zero f, each_zero (λ i. h (f i))) z
each_through h z a (suc n) f = rw (each_suc n f, each_suc n (λ i. h (f i)), a (each n f) (f n), each_through h z a n f)

pub table_each : {A : Type 0} (n : ℕ) (f : ℕ → A) → table n f ≡ each n (λ i. f i ∷ [])
unfolding table each
table_each n f = refl

pub list_each : (n : ℕ) (f : ℕ → List Expr) → list_tokens (each n f) ≡ each n (λ i. list_tokens (f i))
list_each = each_through list_tokens refl list_append

pub parts_each : (kind n : ℕ) (f : ℕ → List Expr) → part_tokens kind (each n f) ≡ each n (λ i. part_tokens kind (f i))
parts_each kind = each_through (part_tokens kind) refl (parts_append kind)

pub parts_table : (kind n : ℕ) (f : ℕ → Expr) → part_tokens kind (table n f) ≡ each n (λ i. part_tokens kind (f i ∷ []))
parts_table kind n f = ap (part_tokens kind) (table_each n f) ∙ parts_each kind n (λ i. f i ∷ [])

pub each_same : {A : Type 0} (n : ℕ) (f g : ℕ → List A) → ((i : ℕ) → f i ≡ g i) → each n f ≡ each n g
each_same zero f g e = each_zero f ∙ sym (each_zero g)
each_same (suc n) f g e = rw (each_suc n f, each_suc n g, each_same n f g e, e n)

-- ---- words, constants and tokens

word_load : (kind n : ℕ) → load_for kind n ≡ cond (ltb kind 9) 0 n
unfolding load_for
word_load kind n = refl

mutual
  unfolding constants constants_of

  pub numbers_are : (e : Expr) → map (of_bits binary64) (constants e) ≡ numbers_of (tokens e)
  numbers_are (constant b) = refl
  numbers_are (column j) = refl
  numbers_are (shared s) = refl
  numbers_are (over kind ts) = numbers_are_of ts

  numbers_are_of : (ts : Terms) → map (of_bits binary64) (constants_of ts) ≡ numbers_of (tokens_of ts)
  numbers_are_of none = refl
  numbers_are_of (more e ts) = rw (map_append (of_bits binary64) (constants e) (constants_of ts), numbers_append (tokens e) (tokens_of ts), numbers_are e, numbers_are_of ts)

next_is : (k : ℕ) (e : Expr) → next k e ≡ k + length (numbers_of (tokens e))
next_is k e = ap (λ (n : ℕ). k + n) (sym (length-map (constants e) (of_bits binary64)) ∙ ap length (numbers_are e))

mutual
  unfolding words words_of

  pub words_are : (k i : ℕ) (e : Expr) → words k e ≡ words_from k i (tokens e)
  words_are k i (constant b) = refl
  words_are k i (column j) = refl
  words_are k i (shared s) = refl
  words_are k i (over kind ts) = rw (word_load kind (count ts)) (ap (λ (l : List ℕ). word kind (cond (ltb kind 9) 0 (count ts)) ∷ l) (words_are_of k i ts))

  words_are_of : (k i : ℕ) (ts : Terms) → words_of k ts ≡ words_from k i (tokens_of ts)
  words_are_of k i none = refl
  words_are_of k i (more e ts) =
      rw (words_append k i (tokens e) (tokens_of ts), words_are k i e, words_are_of (next k e) (i + begun (tokens e)) ts, next_is k e)

mutual
  no_beginning : (e : Expr) → begun (tokens e) ≡ 0
  no_beginning (constant b) = refl
  no_beginning (column j) = refl
  no_beginning (shared s) = refl
  no_beginning (over kind ts) = no_beginning_of ts

  no_beginning_of : (ts : Terms) → begun (tokens_of ts) ≡ 0
  no_beginning_of none = refl
  no_beginning_of (more e ts) = rw (begun_append (tokens e) (tokens_of ts), no_beginning e, no_beginning_of ts)

pub part_words_are : (kind i k : ℕ) (es : List Expr) → part_words kind i k (terms es) ≡ words_from k i (part_tokens kind es)
unfolding part_words
part_words_are kind i k [] = refl
part_words_are kind i k (e ∷ es) =
    rw (words_append k (i + 1) (tokens e) (part_tokens kind es), words_are k (i + 1) e, part_words_are kind (i + 1) (next k e) es, next_is k e, no_beginning e, add-zero)

pub part_numbers_are : (kind : ℕ) (es : List Expr) → map (of_bits binary64) (constants_of (terms es)) ≡ numbers_of (part_tokens kind es)
unfolding constants_of
part_numbers_are kind [] = refl
part_numbers_are kind (e ∷ es) = rw (map_append (of_bits binary64) (constants e) (constants_of (terms es)), numbers_append (tokens e) (part_tokens kind es), numbers_are e, part_numbers_are kind es)

pub list_terms : (es : List Expr) → tokens_of (terms es) ≡ list_tokens es
list_terms [] = refl
list_terms (e ∷ es) = rw (list_terms es)
