-- Whatever expression stands at a place, the reader goes past it.
use mathlib.Core.Path.{◌≡◌, refl, ap, ◌∙◌}
use mathlib.Core.List.{List, [], ◌∷◌, ◌++◌, append_assoc}
use mathlib.Core.Bool.{Bool, true, false, cond}
use Prim.Native.Nat.{ℕ, suc, ◌+◌, ◌-◌, ◌≤◌, ◌<◌}
use native.Mathlib.Omega.{arith}
use native.Mathlib.Nat.{add-zero, add_assoc}
use lib.ListN.{get_or, length, drop, length-append, length-drop}
use lib.Dec.{ltb, leb, eqb}
use borrow.Author.Tests.{lt-ltb, eq-eqb, ne_eqb, le-leb, ltb-false}
use Rattle.base.specs.Word.{word, kind_of, load_of}
use Rattle.nl.specs.Expr.{load_limit, Expr, constant, column, shared, over, Terms, none, more, count, load_for, constants, constants_of, next, words, words_of, HasWords, HasWordsOf, depth, depth_of, Names, NamesOf}
use Rattle.nl.specs.Reader.{went, word_ok, arity, uses, after, many, read_expr}
use Rattle.nl.proofs.Words.{kind_word, load_word, Operands, operands, over_arity, leaf_arity}
use Rattle.nl.proofs.Build.{drop_past, get_d_here}
use Rattle.nl.proofs.Steps.{begin, uses_none}

pub inside : (at : ℕ) (ws : List ℕ) (x : ℕ) (xs : List ℕ) → drop at ws ≡ x ∷ xs → at < length ws
inside at ws x xs p = omega (arith, length-drop at ws, ap length p)

module _ (ws cs : List ℕ) (columns named : ℕ) where
  -- a word that may stand where it stands, with its operands to come
  at_word : (d at k kind load : ℕ) (rest : List ℕ) → drop at ws ≡ word kind load ∷ rest → load < load_limit → 1 ≤ d → word_ok (length cs) columns named k kind load ≡ true
      → read_expr ws (length cs) columns named d at k ≡ many (read_expr ws (length cs) columns named (d - 1)) (arity kind load) (at + 1) (k + uses kind)
  at_word d at k kind load rest p h deep ok =
      let w = get_d_here at ws (word kind load) rest p in
      let e : kind_of (get_or ws at 0) ≡ kind = ap kind_of w ∙ kind_word kind load h in
      let f : load_of (get_or ws at 0) ≡ load = ap load_of w ∙ load_word kind load h in
      rw (e, f) at (begin ws (length cs) columns named d at k (λ z. omega arith) (inside at ws (word kind load) rest p) (rw (e, f) ok))

  leaf : (d at k kind load : ℕ) (rest : List ℕ) → drop at ws ≡ word kind load ∷ rest → load < load_limit → 1 ≤ d → kind < 3 → word_ok (length cs) columns named k kind load ≡ true
      → read_expr ws (length cs) columns named d at k ≡ went (at + 1) (k + uses kind)
  leaf d at k kind load rest p h deep low ok = rw (leaf_arity kind load low) at (at_word d at k kind load rest p h deep ok)

  over_ok : (k kind n : ℕ) → Operands kind n → word_ok (length cs) columns named k kind (load_for kind n) ≡ true
  unfolding word_ok load_for
  over_ok k kind n t =
      let a : kind ≡ 0 → ⊥ = λ e. omega (arith, t.low) in
      let b : kind ≡ 1 → ⊥ = λ e. omega (arith, t.low) in
      let c : kind ≡ 2 → ⊥ = λ e. omega (arith, t.low) in
      rw (ne_eqb kind 0 a, ne_eqb kind 1 b, ne_eqb kind 2 c) (go (ltb kind 9) refl)
    where
      go : (x : Bool) → ltb kind 9 ≡ x → cond x (eqb (cond x 0 n) 0) (cond (eqb kind 9) (leb 2 (cond x 0 n)) false) ≡ true
      go true e = refl
      go false e =
          let nine : kind ≡ 9 = omega (arith, ltb-false kind 9 e, t.high) in
          rw (eq-eqb kind 9 nine, le-leb 2 n (t.sum nine))

  at_constant : (d at k b : ℕ) (rest rest' : List ℕ) → k < load_limit → 1 ≤ d → drop at ws ≡ word 0 k ∷ rest → drop k cs ≡ b ∷ rest' → read_expr ws (length cs) columns named d at k ≡ went (at + 1) (k + 1)
  unfolding word_ok uses
  at_constant d at k b rest rest' h deep p q = leaf d at k 0 k rest p h deep (omega arith) (rw (eq-eqb k k refl, lt-ltb k (length cs) (inside k cs b rest' q)))

  at_column : (d at k j : ℕ) (rest : List ℕ) → j < load_limit → 1 ≤ d → j < columns → drop at ws ≡ word 1 j ∷ rest → read_expr ws (length cs) columns named d at k ≡ went (at + 1) (k + 0)
  unfolding word_ok uses
  at_column d at k j rest h deep n p = leaf d at k 1 j rest p h deep (omega arith) (lt-ltb j columns n)

  at_shared : (d at k j : ℕ) (rest : List ℕ) → j < load_limit → 1 ≤ d → j < named → drop at ws ≡ word 2 j ∷ rest → read_expr ws (length cs) columns named d at k ≡ went (at + 1) (k + 0)
  unfolding word_ok uses
  at_shared d at k j rest h deep n p = leaf d at k 2 j rest p h deep (omega arith) (lt-ltb j named n)

  -- a kind over operands, where the operands are read
  at_over : (d at k kind m end after : ℕ) (rest : List ℕ) → load_for kind m < load_limit → 1 ≤ d → Operands kind m → drop at ws ≡ word kind (load_for kind m) ∷ rest
      → many (read_expr ws (length cs) columns named (d - 1)) m (at + 1) k ≡ went end after → read_expr ws (length cs) columns named d at k ≡ went end after
  at_over d at k kind m end after rest h deep t p q =
      at_word d at k kind (load_for kind m) rest p h deep (over_ok k kind m t)
      ∙ rw (over_arity kind m t, uses_none kind (λ e. omega (arith, t.low)), add-zero k) q

  mutual
    unfolding words constants HasWords depth Names

    pub complete : (e : Expr) (d at k : ℕ) (rest rest' : List ℕ) → HasWords k e → Names columns named e → depth e ≤ d → drop at ws ≡ words k e ++ rest → drop k cs ≡ constants e ++ rest'
        → read_expr ws (length cs) columns named d at k ≡ went (at + length (words k e)) (next k e)
    complete (constant b) d at k rest rest' h n deep p q = at_constant d at k b rest rest' h deep p q
    complete (column j) d at k rest rest' h n deep p q = at_column d at k j rest h deep n p
    complete (shared s) d at k rest rest' h n deep p q = at_shared d at k s rest h deep n p
    complete (over kind ts) d at k rest rest' h n deep p q =
        at_over d at k kind (count ts) (at + suc (length (words_of k ts))) (k + length (constants_of ts)) (words_of k ts ++ rest) h.0 (omega arith) (operands kind (count ts) h.1) p
        (complete_of ts (d - 1) (at + 1) k rest rest' h.2 n (omega arith) (drop_past at ws (word kind (load_for kind (count ts)) ∷ []) (words_of k ts ++ rest) p) q
        ∙ ap (λ x. went x (k + length (constants_of ts))) (omega arith))

    pub complete_of : (ts : Terms) (d at k : ℕ) (rest rest' : List ℕ) → HasWordsOf k ts → NamesOf columns named ts → depth_of ts ≤ d → drop at ws ≡ words_of k ts ++ rest → drop k cs ≡ constants_of ts ++ rest'
        → many (read_expr ws (length cs) columns named d) (count ts) at k ≡ went (at + length (words_of k ts)) (k + length (constants_of ts))
    complete_of none d at k rest rest' h n deep p q = rw (add-zero at, add-zero k)
    complete_of (more e ts) d at k rest rest' h n deep p q =
        let p' : drop at ws ≡ words k e ++ (words_of (next k e) ts ++ rest) = p ∙ append_assoc (words k e) (words_of (next k e) ts) rest in
        let q' : drop k cs ≡ constants e ++ (constants_of ts ++ rest') = q ∙ append_assoc (constants e) (constants_of ts) rest' in
        ap (λ r. after r (many (read_expr ws (length cs) columns named d) (count ts))) (complete e d at k (words_of (next k e) ts ++ rest) (constants_of ts ++ rest') h.0 n.0 (omega arith) p' q')
        ∙ complete_of ts d (at + length (words k e)) (next k e) rest rest' h.1 n.1 (omega arith) (drop_past at ws (words k e) (words_of (next k e) ts ++ rest) p') (drop_past k cs (constants e) (constants_of ts ++ rest') q')
        ∙ rw (length-append (words k e) (words_of (next k e) ts), length-append (constants e) (constants_of ts), add_assoc, add_assoc)
