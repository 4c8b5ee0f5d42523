-- Where words are those of expressions and parts, they are parsed as these.
use mathlib.Core.Path.{◌≡◌, refl, ap, ap₂, sym, ◌∙◌}
use mathlib.Core.List.{List, [], ◌∷◌, ◌++◌, append_assoc}
use Prim.Native.Nat.{ℕ, zero, suc, ◌+◌, ◌-◌, ◌≤◌, ◌<◌}
use native.Mathlib.Omega.{arith}
use native.Mathlib.Nat.{add-zero}
use lib.ListN.{length, get_or, drop, length-append}
use borrow.Author.Tests.{lt-ltb, le-ltb}
use Rattle.base.specs.Word.{word, kind_of, load_of}
use Rattle.nl.specs.Expr.{load_limit, Expr, constant, column, shared, over, Terms, none, more, count, load_for, constants, constants_of, next, words, words_of, HasWords, HasWordsOf, depth, depth_of}
use Rattle.nl.specs.File.{part_words, PartsRuled, depth_limit}
use Rattle.nl.proofs.Words.{kind_word, load_word, Operands, operands, over_arity}
use Rattle.nl.proofs.Build.{drop_past, get_d_here}
use Rattle.nl.proofs.Complete.{inside}
use Rattle.model_reading.specs.Parse.{parsed, ParsedTerms, parse_many, leaf_of, headed, parse, part}
use Rattle.model_reading.specs.Place.{size, place_of}

-- an expression has as many words whatever its constants' numbers
mutual
  unfolding words

  pub size_any : (e : Expr) (j k : ℕ) → length (words j e) ≡ length (words k e)
  size_any (constant b) j k = refl
  size_any (column i) j k = refl
  size_any (shared s) j k = refl
  size_any (over kind ts) j k = ap suc (size_of ts j k)

  size_of : (ts : Terms) (j k : ℕ) → length (words_of j ts) ≡ length (words_of k ts)
  size_of none j k = refl
  size_of (more e ts) j k =
      length-append (words j e) (words_of (next j e) ts) ∙ ap₂ (λ x y. x + y) (size_any e j k) (size_of ts (next j e) (next k e)) ∙ sym (length-append (words k e) (words_of (next k e) ts))

module _ (ws cs : List ℕ) where
  at_leaf : (d at kind load : ℕ) (rest : List ℕ) → drop at ws ≡ word kind load ∷ rest → load < load_limit → 1 ≤ d → kind < 3 → parse ws cs d at ≡ parsed (leaf_of cs kind load) (at + 1)
  unfolding parse headed
  at_leaf zero at kind load rest p h deep lo = absurd (omega arith)
  at_leaf (suc d) at kind load rest p h deep lo =
      let w = get_d_here at ws (word kind load) rest p in
      let e : kind_of (get_or ws at 0) ≡ kind = ap kind_of w ∙ kind_word kind load h in
      let f : load_of (get_or ws at 0) ≡ load = ap load_of w ∙ load_word kind load h in
      rw (lt-ltb at (length ws) (inside at ws (word kind load) rest p), e, f, lt-ltb kind 3 lo)

  at_over : (d at kind n : ℕ) (rest : List ℕ) (q : ParsedTerms) → drop at ws ≡ word kind (load_for kind n) ∷ rest → load_for kind n < load_limit → 1 ≤ d → Operands kind n
      → parse_many (parse ws cs (d - 1)) n (at + 1) ≡ q → parse ws cs d at ≡ parsed (over kind q.terms) q.end
  unfolding parse headed
  at_over zero at kind n rest q p h deep t r = absurd (omega arith)
  at_over (suc d) at kind n rest q p h deep t r =
      let w = get_d_here at ws (word kind (load_for kind n)) rest p in
      let e : kind_of (get_or ws at 0) ≡ kind = ap kind_of w ∙ kind_word kind (load_for kind n) h in
      let f : load_of (get_or ws at 0) ≡ load_for kind n = ap load_of w ∙ load_word kind (load_for kind n) h in
      let z : suc d - 1 ≡ d = omega arith in
      rw (lt-ltb at (length ws) (inside at ws (word kind (load_for kind n)) rest p), e, f, le-ltb kind 3 t.low, over_arity kind n t, rw z at r)

  mutual
    unfolding words constants HasWords depth leaf_of

    pub parse_words : (e : Expr) (d at k : ℕ) (rest rest' : List ℕ) → HasWords k e → depth e ≤ d → drop at ws ≡ words k e ++ rest → drop k cs ≡ constants e ++ rest'
        → parse ws cs d at ≡ parsed e (at + length (words k e))
    parse_words (constant b) d at k rest rest' h deep p q = at_leaf d at 0 k rest p h deep (omega arith) ∙ ap (λ x. parsed (constant x) (at + 1)) (get_d_here k cs b rest' q)
    parse_words (column j) d at k rest rest' h deep p q = at_leaf d at 1 j rest p h deep (omega arith)
    parse_words (shared s) d at k rest rest' h deep p q = at_leaf d at 2 s rest p h deep (omega arith)
    parse_words (over kind ts) d at k rest rest' h deep p q =
        at_over d at kind (count ts) (words_of k ts ++ rest) _ p h.0 (omega arith) (operands kind (count ts) h.1)
        (parse_terms ts (d - 1) (at + 1) k rest rest' h.2 (omega arith) (drop_past at ws (word kind (load_for kind (count ts)) ∷ []) (words_of k ts ++ rest) p) q)
        ∙ ap (parsed (over kind ts)) (omega arith)

    parse_terms : (ts : Terms) (d at k : ℕ) (rest rest' : List ℕ) → HasWordsOf k ts → depth_of ts ≤ d → drop at ws ≡ words_of k ts ++ rest → drop k cs ≡ constants_of ts ++ rest'
        → parse_many (parse ws cs d) (count ts) at ≡ record { terms = ts; end = at + length (words_of k ts) }
    parse_terms none d at k rest rest' h deep p q = rw (add-zero at)
    parse_terms (more e ts) d at k rest rest' h deep p q =
        let p' : drop at ws ≡ words k e ++ (words_of (next k e) ts ++ rest) = p ∙ append_assoc (words k e) (words_of (next k e) ts) rest in
        let q' : drop k cs ≡ constants e ++ (constants_of ts ++ rest') = q ∙ append_assoc (constants e) (constants_of ts) rest' in
        let a = parse_words e d at k (words_of (next k e) ts ++ rest) (constants_of ts ++ rest') h.0 (omega arith) p' q' in
        let p'' = drop_past at ws (words k e) (words_of (next k e) ts ++ rest) p' in
        let b = parse_terms ts d (at + length (words k e)) (next k e) rest rest' h.1 (omega arith) p'' (drop_past k cs (constants e) (constants_of ts ++ rest') q') in
        let l : at + length (words k e) + length (words_of (next k e) ts) ≡ at + length (words k e ++ words_of (next k e) ts) = omega (arith, length-append (words k e) (words_of (next k e) ts)) in
        rw (a, b, l)

  pub part_words_is : (e : Expr) (kind i at k : ℕ) (rest rest' : List ℕ) → HasWords k e → depth e ≤ depth_limit → drop at ws ≡ word kind i ∷ words k e ++ rest → drop k cs ≡ constants e ++ rest'
      → part ws cs at ≡ parsed e (at + 1 + size e)
  unfolding part
  part_words_is e kind i at k rest rest' h deep p q =
      rw (lt-ltb at (length ws) (inside at ws (word kind i) (words k e ++ rest) p))
      (parse_words e depth_limit (at + 1) k rest rest' h deep (drop_past at ws (word kind i ∷ []) (words k e ++ rest) p) q ∙ ap (λ x. parsed e (at + 1 + x)) (size_any e k 0))

  -- parts are parsed from `at` on, each at its place
  abbrev pub Standing : ℕ → Terms → Type 0
  Standing at none = Unit {0}
  Standing at (more e ts) = (part ws cs at ≡ parsed e (at + 1 + size e)) × Standing (at + 1 + size e) ts

  pub parts_stand : (columns : ℕ) (named : ℕ → ℕ) (kind : ℕ) (ts : Terms) (i at k : ℕ) (rest rest' : List ℕ) → PartsRuled depth_limit columns named i k ts
      → drop at ws ≡ part_words kind i k ts ++ rest → drop k cs ≡ constants_of ts ++ rest' → Standing at ts
  unfolding part_words PartsRuled constants
  parts_stand columns named kind none i at k rest rest' h p q = tt
  parts_stand columns named kind (more e ts) i at k rest rest' h p q =
      let p' : drop at ws ≡ word kind i ∷ words k e ++ (part_words kind (i + 1) (next k e) ts ++ rest) =
      p ∙ ap (λ x. word kind i ∷ x) (append_assoc (words k e) (part_words kind (i + 1) (next k e) ts) rest) in
      let q' : drop k cs ≡ constants e ++ (constants_of ts ++ rest') = q ∙ append_assoc (constants e) (constants_of ts) rest' in
      let p'' = drop_past (at + 1) ws (words k e) _ (drop_past at ws (word kind i ∷ []) _ p') in
      let p''' : drop (at + 1 + size e) ws ≡ part_words kind (i + 1) (next k e) ts ++ rest = ap (λ x. drop (at + 1 + x) ws) (size_any e 0 k) ∙ p'' in (
        part_words_is e kind i at k _ _ h.1.loads h.1.deep p' q',
        parts_stand columns named kind ts (i + 1) (at + 1 + size e) (next k e) rest rest' h.2 p''' (drop_past k cs (constants e) _ q'),
      )

  pub parse_parts : (ts : Terms) (at : ℕ) → Standing at ts → parse_many (part ws cs) (count ts) at ≡ record { terms = ts; end = place_of (count ts) at ts }
  parse_parts none at h = refl
  parse_parts (more e ts) at h = rw (h.0, parse_parts ts (at + 1 + size e) h.1)
