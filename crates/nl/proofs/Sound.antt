-- Wherever the reader goes past something, an expression stands there.
use mathlib.Core.Path.{◌≡◌, refl, ap, sym, ◌∙◌, subst}
use mathlib.Core.List.{List, ◌∷◌, ◌++◌, append_assoc}
use mathlib.Core.Bool.{Bool, true, false, cond}
use Prim.Native.Nat.{ℕ, zero, suc, ◌+◌, ◌≤◌, ◌<◌}
use native.Mathlib.Omega.{arith}
use native.Mathlib.Nat.{add-zero}
use native.Mathlib.Numerals.{add-one}
use lib.ListN.{length, get_or, drop, replicate, length-replicate, length-append, length-drop}
use lib.Seq.{drop-cons}
use lib.Dec.{ltb, leb, eqb}
use borrow.Author.Tests.{lt-ltb, ltb-true, leb-true, eqb-true, eqb-false}
use Rattle.std.specs.Prelude.{Ok, Err}
use Rattle.base.specs.Word.{word, kind_of, load_of}
use Rattle.nl.specs.declared.reader.Cursor.{Cursor}
use Rattle.nl.specs.Expr.{Expr, constant, column, shared, over, Terms, none, more, count, load_for, constants, constants_of, next, words, words_of, HasWords, HasWordsOf, depth, depth_of, Names, NamesOf}
use Rattle.nl.specs.Reader.{Read, wrong, went, word_ok, arity, uses, after, many, read_expr}
use Rattle.nl.proofs.Words.{Operands, takes, leaf_arity}
use Rattle.nl.proofs.Steps.{same_cursor, spelled, uses_one, uses_none}

-- an expression stands in the words ws from `at` up to `end`, and its constants in cs from k up to `next`
pub record Stands (ws cs : List ℕ) (columns named d at k end after : ℕ) (e : Expr) : Type 0 where
  pub written : HasWords k e
  pub names : Names columns named e
  pub deep : depth e ≤ d
  pub its : drop at ws ≡ words k e ++ drop end ws
  pub values : drop k cs ≡ constants e ++ drop after cs
  pub ends : end ≡ at + length (words k e)
  pub then : after ≡ next k e

pub record StandsOf (ws cs : List ℕ) (columns named d at k end after : ℕ) (ts : Terms) : Type 0 where
  pub written : HasWordsOf k ts
  pub names : NamesOf columns named ts
  pub deep : depth_of ts ≤ d
  pub its : drop at ws ≡ words_of k ts ++ drop end ws
  pub values : drop k cs ≡ constants_of ts ++ drop after cs
  pub ends : end ≡ at + length (words_of k ts)
  pub then : after ≡ k + length (constants_of ts)

-- the reader's branches, taken back
pub went_cond : {A : Type 0} (b : Bool) (x : Read A) (p : ℕ) (y : A) → cond b x (wrong p) ≡ Ok y → (b ≡ true) × (x ≡ Ok y)
went_cond true x p y e = (refl, e)
went_cond false x p y e = absurd (cc)

pub went_after : {A : Type 0} (r : Read Cursor) (f : ℕ → ℕ → Read A) (x : A) → after r f ≡ Ok x → (a : ℕ) × (k : ℕ) × (r ≡ went a k) × (f a k ≡ Ok x)
went_after (Ok c) f x e = (c.at, c.next, refl, e)
went_after (Err w) f x e = absurd (cc)

-- what a word that may stand is
pub data Word (limit columns named k kind load : ℕ) : Type 0 where
  is_constant : kind ≡ 0 → load ≡ k → k < limit → Word limit columns named k kind load
  is_column : kind ≡ 1 → load < columns → Word limit columns named k kind load
  is_shared : kind ≡ 2 → load < named → Word limit columns named k kind load
  is_over : Operands kind (arity kind load) → load_for kind (arity kind load) ≡ load → Word limit columns named k kind load

idem : (a b c : Bool) (n : ℕ) → cond a 0 (cond b 2 (cond c 1 (cond a 0 (cond b 2 (cond c 1 n))))) ≡ cond a 0 (cond b 2 (cond c 1 n))
idem true b c n = refl
idem false true c n = refl
idem false false true n = refl
idem false false false n = refl

arity_idem : (kind load : ℕ) → arity kind (arity kind load) ≡ arity kind load
unfolding arity
arity_idem kind load = idem (ltb kind 3) (ltb kind 6) (ltb kind 9) load

module _ (limit columns named k kind load : ℕ) where
  abbrev W : Type 0
  W = Word limit columns named k kind load

  by_constant : (b : Bool) → eqb load k ≡ b → kind ≡ 0 → cond b (ltb k limit) false ≡ true → W
  by_constant true e z h = is_constant z (eqb-true load k e) (ltb-true k limit h)
  by_constant false e z h = absurd (cc)

  nine : kind ≡ 9 → arity kind load ≡ load
  unfolding arity
  nine e = rw e

  nine_load : (n : ℕ) → kind ≡ 9 → load_for kind n ≡ n
  unfolding load_for
  nine_load n e = rw e

  low_load : (n : ℕ) → kind < 9 → load_for kind n ≡ 0
  unfolding load_for
  low_load n h = rw (lt-ltb kind 9 h)

  by_nine : (b : Bool) → eqb kind 9 ≡ b → cond b (leb 2 load) false ≡ true → W
  by_nine true e h =
      let z = eqb-true kind 9 e in
      is_over (record { low = omega arith; high = omega arith; operands = arity_idem kind load; sum = λ y. rw (nine z) (leb-true 2 load h) }) (nine_load (arity kind load) z ∙ nine z)
  by_nine false e h = absurd (cc)

  by_low : (b : Bool) → ltb kind 9 ≡ b → 3 ≤ kind → cond b (eqb load 0) (cond (eqb kind 9) (leb 2 load) false) ≡ true → W
  by_low true e lo h =
      let lt = ltb-true kind 9 e in
      is_over (record { low = lo; high = omega arith; operands = arity_idem kind load; sum = λ y. absurd (omega arith) }) (low_load (arity kind load) lt ∙ sym (eqb-true load 0 h))
  by_low false e lo h = by_nine (eqb kind 9) refl h

  by_shared : (b : Bool) → eqb kind 2 ≡ b → 2 ≤ kind → cond b (ltb load named) (cond (ltb kind 9) (eqb load 0) (cond (eqb kind 9) (leb 2 load) false)) ≡ true → W
  by_shared true e lo h = is_shared (eqb-true kind 2 e) (ltb-true load named h)
  by_shared false e lo h = let ne : ¬ (kind ≡ 2) = eqb-false kind 2 e in by_low (ltb kind 9) refl (omega arith) h

  by_column : (b : Bool) → eqb kind 1 ≡ b → 1 ≤ kind
      → cond b (ltb load columns) (cond (eqb kind 2) (ltb load named) (cond (ltb kind 9) (eqb load 0) (cond (eqb kind 9) (leb 2 load) false))) ≡ true → W
  by_column true e lo h = is_column (eqb-true kind 1 e) (ltb-true load columns h)
  by_column false e lo h = let ne : ¬ (kind ≡ 1) = eqb-false kind 1 e in by_shared (eqb kind 2) refl (omega arith) h

  by_kind : (b : Bool) → eqb kind 0 ≡ b
      → cond b (cond (eqb load k) (ltb k limit) false)
      (cond (eqb kind 1) (ltb load columns) (cond (eqb kind 2) (ltb load named) (cond (ltb kind 9) (eqb load 0) (cond (eqb kind 9) (leb 2 load) false)))) ≡ true → W
  by_kind true e h = by_constant (eqb load k) refl (eqb-true kind 0 e) h
  by_kind false e h = let ne : ¬ (kind ≡ 0) = eqb-false kind 0 e in by_column (eqb kind 1) refl (omega arith) h

  pub which : word_ok limit columns named k kind load ≡ true → W
  unfolding word_ok
  which h = by_kind (eqb kind 0) refl h

module _ (ws cs : List ℕ) (columns named : ℕ) where
  abbrev Some : ℕ → ℕ → ℕ → ℕ → ℕ → Type 0
  Some d at k end after = (e : Expr) × Stands ws cs columns named d at k end after e

  abbrev SomeOf : ℕ → ℕ → ℕ → ℕ → ℕ → ℕ → Type 0
  SomeOf n d at k end after = (ts : Terms) × (count ts ≡ n) × StandsOf ws cs columns named d at k end after ts

  -- the word at a place, and the words after it
  pub here : (at kind load : ℕ) → at < length ws → kind ≡ kind_of (get_or ws at 0) → load ≡ load_of (get_or ws at 0) → drop at ws ≡ word kind load ∷ drop (at + 1) ws
  here at kind load h e f =
      let w : get_or ws at 0 ≡ word kind load = omega arith in
      drop-cons ws at 0 h ∙ rw (add-one at, w)

  -- after a leaf there is nothing more to read
  nothing_more : (f : ℕ → ℕ → Read Cursor) (kind load a b end after : ℕ) → kind < 3 → many f (arity kind load) a b ≡ went end after → (end ≡ a) × (after ≡ b)
  nothing_more f kind load a b end after h m =
      let (p, q) = same_cursor a b end after (rw (leaf_arity kind load h) at m) in (sym p, sym q)

  one : (d at k kind load end after : ℕ) → at < length ws → kind ≡ kind_of (get_or ws at 0) → load ≡ load_of (get_or ws at 0) → Word (length cs) columns named k kind load
      → many (read_expr ws (length cs) columns named d) (arity kind load) (at + 1) (k + uses kind) ≡ went end after
      → ((n at k : ℕ) → many (read_expr ws (length cs) columns named d) n at k ≡ went end after → SomeOf n d at k end after)
      → Some (suc d) at k end after
  unfolding words HasWords constants depth Names
  one d at k kind load end after h e f (is_constant z l lt) m r =
      let (p, q) = nothing_more (read_expr ws (length cs) columns named d) kind load (at + 1) (k + uses kind) end after (omega arith) m in
      let q' : after ≡ k + 1 = q ∙ ap (λ u. k + u) (uses_one kind z) in (
        constant (get_or cs k 0),
        record {
          written = omega arith;
          names = tt;
          deep = omega arith;
          its = cc (here at kind load h e f);
          values = drop-cons cs k 0 lt ∙ rw (q', add-one k);
          ends = p;
          then = q';
        },
      )
  one d at k kind load end after h e f (is_column z l) m r =
      let (p, q) = nothing_more (read_expr ws (length cs) columns named d) kind load (at + 1) (k + uses kind) end after (omega arith) m in
      let q' : after ≡ k + 0 = q ∙ ap (λ u. k + u) (uses_none kind (λ y. omega arith)) in (
        column load,
        record {
          written = omega arith;
          names = l;
          deep = omega arith;
          its = cc (here at kind load h e f);
          values = ap (λ x. drop x cs) (sym (add-zero k) ∙ sym q');
          ends = p;
          then = q';
        },
      )
  one d at k kind load end after h e f (is_shared z l) m r =
      let (p, q) = nothing_more (read_expr ws (length cs) columns named d) kind load (at + 1) (k + uses kind) end after (omega arith) m in
      let q' : after ≡ k + 0 = q ∙ ap (λ u. k + u) (uses_none kind (λ y. omega arith)) in (
        shared load,
        record {
          written = omega arith;
          names = l;
          deep = omega arith;
          its = cc (here at kind load h e f);
          values = ap (λ x. drop x cs) (sym (add-zero k) ∙ sym q');
          ends = p;
          then = q';
        },
      )
  one d at k kind load end after h e f (is_over t l) m r =
      let m' = rw (uses_none kind (λ y. omega (arith, t.low)), add-zero k) at m in
      let (ts, ce, s) = r (arity kind load) (at + 1) k m' in
      let l' : load_for kind (count ts) ≡ load = rw ce l in (
        over kind ts,
        record {
          written = (omega arith, takes kind (count ts) (rw ce t), s.written);
          names = s.names;
          deep = omega (arith, s.deep);
          its = cc (here at kind load h e f, l', s.its);
          values = s.values;
          ends = omega (arith, s.ends);
          then = s.then;
        },
      )

  several : (d : ℕ) → ((at k end after : ℕ) → read_expr ws (length cs) columns named d at k ≡ went end after → Some d at k end after)
      → (n at k end after : ℕ) → many (read_expr ws (length cs) columns named d) n at k ≡ went end after → SomeOf n d at k end after
  unfolding words HasWords constants depth Names
  several d f zero at k end after m =
      let (p, q) = same_cursor at k end after m in
      (none, refl, record { written = tt; names = tt; deep = omega arith; its = cc; values = cc; ends = cc (add-zero at); then = cc (add-zero k) })
  several d f (suc n) at k end after m =
      let (a, b, p, q) = went_after (read_expr ws (length cs) columns named d at k) (many (read_expr ws (length cs) columns named d) n) _ m in
      let (e, s) = f at k a b p in
      let (ts, ce, u) = several d f n a b end after q in
      let u' : StandsOf ws cs columns named d a (next k e) end after ts = subst (λ x. StandsOf ws cs columns named d a x end after ts) s.then u in (
        more e ts,
        ap suc ce,
        record {
          written = (s.written, u'.written);
          names = (s.names, u.names);
          deep = omega (arith, s.deep, u.deep);
          its = s.its ∙ ap (λ x. words k e ++ x) u'.its ∙ sym (append_assoc (words k e) (words_of (next k e) ts) (drop end ws));
          values = s.values ∙ ap (λ x. constants e ++ x) u.values ∙ sym (append_assoc (constants e) (constants_of ts) (drop after cs));
          ends = omega (arith, s.ends, u'.ends, length-append (words k e) (words_of (next k e) ts));
          then = omega (arith, s.then, u.then, length-append (constants e) (constants_of ts));
        },
      )

  pub sound : (d at k end after : ℕ) → read_expr ws (length cs) columns named d at k ≡ went end after → Some d at k end after
  unfolding read_expr
  sound zero at k end after m = absurd (cc)
  sound (suc d) at k end after m =
      let (a, p) = went_cond (ltb at (length ws)) _ at _ (sym (spelled ws (length cs) columns named d at k) ∙ m) in
      let (b, q) = went_cond (word_ok (length cs) columns named k (kind_of (get_or ws at 0)) (load_of (get_or ws at 0))) _ at _ p in
      one d at k (kind_of (get_or ws at 0)) (load_of (get_or ws at 0)) end after (ltb-true at (length ws) a) refl refl
      (which (length cs) columns named k (kind_of (get_or ws at 0)) (load_of (get_or ws at 0)) b) q (λ n at' k' w. several d (sound d) n at' k' end after w)

pub some_words : (k : ℕ) (e : Expr) → 1 ≤ length (words k e)
unfolding words
some_words k (constant b) = omega arith
some_words k (column j) = omega arith
some_words k (shared s) = omega arith
some_words k (over kind ts) = omega arith

-- whatever the constants' values, the reader goes on, and stays inside the words
pub goes_on : (ws : List ℕ) (limit columns named d at k end after : ℕ) → read_expr ws limit columns named d at k ≡ went end after → (at < end) × (end ≤ length ws)
goes_on ws limit columns named d at k end after e =
    let cs : List ℕ = replicate limit 0 in
    let (x, s) = sound ws cs columns named d at k end after (rw (length-replicate {A = ℕ} limit 0) e) in
    let w = some_words k x in
    let l = length-append (words k x) (drop end ws) in
    (omega (arith, s.ends, w), omega (arith, s.ends, w, length-drop at ws, length-drop end ws, ap length s.its, l))

pub went_on : (ws : List ℕ) (limit columns named d at k end after : ℕ) (x : Read Cursor) → x ≡ read_expr ws limit columns named d at k → x ≡ went end after → (at < end) × (end ≤ length ws)
went_on ws limit columns named d at k end after x p q = goes_on ws limit columns named d at k end after (sym p ∙ q)
