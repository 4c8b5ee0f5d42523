-- Reading and working out an expression in one go, a step at a time, as the code does.
use mathlib.Core.Path.{◌≡◌, refl, ap, sym, ◌∙◌}
use mathlib.Core.List.{List}
use mathlib.Core.Bool.{Bool, true, false, cond, ◌&&◌, true≢false}
use mathlib.Core.Logic.{◌⊎◌, inl, inr}
use Prim.Native.Nat.{ℕ, zero, suc, ◌+◌, ◌-◌, ◌≤◌, ◌<◌}
use native.Mathlib.Omega.{arith}
use native.Mathlib.Nat.{add-zero}
use lib.ListN.{length, get_or}
use lib.Dec.{eqb, leb, ltb}
use lib.Ieee.{Float, nan}
use borrow.Author.Tests.{lt-ltb, le-ltb, eq-eqb, ne_eqb, ltb-true, ltb-false, leb-true}
use Rattle.std.proofs.Math.Bool.{and-true}
use Rattle.std.proofs.lemmas.List.{get_or_default}
use Rattle.std.specs.Prelude.{Option, Some, None, MatchOption, Result, Ok, Err, IsErrAnd}
use Rattle.std.specs.Option.{ok_or}
use Rattle.base.specs.Word.{kind_of, load_of}
use Rattle.float.specs.Number.{◌⊗◌, zero64}
use Rattle.nl.specs.declared.kind.Kind.{Kind}
use Rattle.nl.specs.declared.reader.Cursor.{Cursor}
use Rattle.nl.specs.declared.reader.Head.{Head}
use Rattle.nl.specs.declared.reader.WrongWord.{WrongWord}
use Rattle.nl.specs.Reader.{Read, head, word_ok, arity, uses, after, many, read_head, read_expr, is_mark}
use Rattle.nl.proofs.PartSteps.{marked}
use Rattle.nl.proofs.Words.{leaf_arity}
use Rattle.nl.proofs.Steps.{same_place, spelled, no_depth, head_open, head_inside, one_more_is, many_more, many_none}
use Rattle.expression.specs.declared.Number.{Number}
use Rattle.expression.specs.declared.Scanned.{Scanned}
use Rattle.expression.specs.Value.{step, applied, argument_ok, value, patterns}
use Rattle.model_reading.specs.Parse.{leaf_of, parse_many, parse}
use Rattle.expression.specs.internal.Scan.{evaluated, worth, IsNumber, Finds, LeafScans, Reads}
use Rattle.expression.proofs.Operands.{by_pattern, a_leaf, whole, begins, goes_on, ends}

-- a word that may stand and has no operands is a constant's, a column's or a shared part's
no_operands : (constants columns named k kind load : ℕ) → word_ok constants columns named k kind load ≡ true → arity kind load ≡ 0 → kind < 3
unfolding word_ok arity
no_operands constants columns named k kind load ok e = go (ltb kind 3) refl
  where
    over : (b c d : Bool) → cond b 2 (cond c 1 load) ≡ 0 → cond c (eqb load 0) (cond d (leb 2 load) false) ≡ true → kind < 3
    over true c d x y = absurd (omega arith)
    over false true d x y = absurd (omega arith)
    over false false true x y = let l = leb-true 2 load y in absurd (omega arith)
    over false false false x y = absurd (cc)

    go : (b : Bool) → ltb kind 3 ≡ b → kind < 3
    go true l = ltb-true kind 3 l
    go false l =
        let m = ltb-false kind 3 l in
        over (ltb kind 6) (ltb kind 9) (eqb kind 9) (rw l at e)
        (rw (ne_eqb kind 0 (λ z. omega arith), ne_eqb kind 1 (λ z. omega arith), ne_eqb kind 2 (λ z. omega arith)) at ok)

has_operands : (kind load n : ℕ) → (n ≡ 0 → ⊥) → n ≡ arity kind load → 3 ≤ kind
has_operands kind load n some e = go (ltb kind 3) refl
  where
    go : (b : Bool) → ltb kind 3 ≡ b → 3 ≤ kind
    go true l = absurd (some (e ∙ leaf_arity kind load (ltb-true kind 3 l)))
    go false l = ltb-false kind 3 l

abbrev pub scanned : Float → Bool → ℕ → ℕ → Scanned
scanned value in_range at next = record { value = value; in_range = in_range; end = record { at = at; next = next } }

module _ (ws : List ℕ) (xs point values : List Float) where
  abbrev pub read_at : ℕ → ℕ → ℕ → Read Cursor
  read_at = read_expr ws (length xs) (length point) (length values)

  -- ---- a word that may stand

  pub open_head : (at k : ℕ) (h : Head) → Some h ≡ read_head ws (length xs) (length point) (length values) at k
      → (word_ok (length xs) (length point) (length values) k (kind_of (get_or ws at 0)) (load_of (get_or ws at 0)) ≡ true)
      × (h.operands ≡ arity (kind_of (get_or ws at 0)) (load_of (get_or ws at 0)))
  unfolding read_head
  open_head at k h p = go (ltb at (length ws)) (word_ok (length xs) (length point) (length values) k (kind_of (get_or ws at 0)) (load_of (get_or ws at 0))) _ _ _ p
    where
      operands_of : Option Head → ℕ
      operands_of (Some a) = a.operands
      operands_of None = 0

      go : (t u : Bool) (kind : Kind) (n b : ℕ) → Some h ≡ cond t (cond u (head kind n b) None) None → (u ≡ true) × (h.operands ≡ n)
      go true true kind n b r = (refl, ap operands_of r)
      go true false kind n b r = absurd (cc)
      go false u kind n b r = absurd (cc)

  -- ---- constants, columns and shared parts

  leaf_reads : (d at k kind load next : ℕ) (v : Float) → at < length ws → kind ≡ kind_of (get_or ws at 0) → load ≡ load_of (get_or ws at 0) → kind < 3
      → word_ok (length xs) (length point) (length values) k kind load ≡ true → next ≡ k + uses kind → v ≡ value point values (leaf_of (patterns xs) kind load)
      → Reads ws xs point values (suc d) at k (scanned v true (at + 1) next)
  leaf_reads d at k kind load next v h e f lo ok n p = record {
    went = spelled ws (length xs) (length point) (length values) d at k ∙ rw (lt-ltb at (length ws) h, ← e, ← f, ok, leaf_arity kind load lo, n);
    is = sym (a_leaf ws (patterns xs) point values (suc d) at kind load v (λ z. omega arith) h e f lo p);
  }

  module _ (at k kind load : ℕ) (h : at < length ws) (e : kind ≡ kind_of (get_or ws at 0)) (f : load ≡ load_of (get_or ws at 0)) where
    pub constant_scans : (found : Option Number) → kind ≡ 0 → load ≡ k
        → MatchOption found (length xs ≤ load) (λ n. IsNumber xs load (record { at = at + 1; next = load + 1 }) n) → LeafScans ws xs point values at k found
    unfolding word_ok uses leaf_of value
    constant_scans (Some s) z n p =
        λ d. rw p.is (leaf_reads d at k kind load (load + 1) (get_or xs load nan) h e f (omega arith)
        (rw (eq-eqb kind 0 z, eq-eqb load k n, lt-ltb k (length xs) (omega (arith, p.within)))) (rw (eq-eqb kind 0 z, n))
        (rw (eq-eqb kind 0 z) (by_pattern xs load p.within (rw p.is at p.by_pattern))))
    constant_scans None z n p = λ _ _. rw (← e, ← f, eq-eqb kind 0 z, eq-eqb load k n, le-ltb k (length xs) (omega arith))

    -- another constant's number, or no word of one
    pub no_leaf : (kind ≡ 1 → ⊥) → (kind ≡ 2 → ⊥) → ((kind ≡ 0) × (load ≡ k → ⊥)) ⊎ (kind ≡ 0 → ⊥) → LeafScans ws xs point values at k None
    unfolding word_ok
    no_leaf n n' (inl (z, o)) = λ _ _. rw (← e, ← f, eq-eqb kind 0 z, ne_eqb load k o)
    no_leaf n n' (inr z) = λ _ low. absurd (omega arith)

    pub column_scans : (found : Option Number) → kind ≡ 1
        → MatchOption found (length point ≤ load) (λ n. IsNumber point load (record { at = at + 1; next = k }) n) → LeafScans ws xs point values at k found
    unfolding word_ok uses leaf_of value
    column_scans (Some s) z p =
        let o : kind ≡ 0 → ⊥ = λ y. omega arith in
        λ d. rw p.is (leaf_reads d at k kind load k (get_or point load nan) h e f (omega arith)
        (rw (ne_eqb kind 0 o, eq-eqb kind 1 z, lt-ltb load (length point) p.within)) (rw (ne_eqb kind 0 o, add-zero k))
        (rw (ne_eqb kind 0 o, eq-eqb kind 1 z) (get_or_default point load nan zero64 p.within)))
    column_scans None z p = λ _ _. rw (← e, ← f, ne_eqb kind 0 (λ y. omega arith), eq-eqb kind 1 z, le-ltb load (length point) p)

    pub shared_scans : (found : Option Number) → kind ≡ 2
        → MatchOption found (length values ≤ load) (λ n. IsNumber values load (record { at = at + 1; next = k }) n) → LeafScans ws xs point values at k found
    unfolding word_ok uses leaf_of value
    shared_scans (Some s) z p =
        let o : kind ≡ 0 → ⊥ = λ y. omega arith in
        let o' : kind ≡ 1 → ⊥ = λ y. omega arith in
        λ d. rw p.is (leaf_reads d at k kind load k (get_or values load nan) h e f (omega arith)
        (rw (ne_eqb kind 0 o, ne_eqb kind 1 o', eq-eqb kind 2 z, lt-ltb load (length values) p.within)) (rw (ne_eqb kind 0 o, add-zero k))
        (rw (ne_eqb kind 0 o, ne_eqb kind 1 o') (get_or_default values load nan zero64 p.within)))
    shared_scans None z p = λ _ _. rw (← e, ← f, ne_eqb kind 0 (λ y. omega arith), ne_eqb kind 1 (λ y. omega arith), eq-eqb kind 2 z, le-ltb load (length values) p)

  -- ---- operands

  -- a product of two
  pub a_product : (d at k : ℕ) (a b : Scanned) → is_mark ws 5 0 at ≡ true → Reads ws xs point values (suc d) (at + 1) k a → Reads ws xs point values (suc d) a.end.at a.end.next b
      → Reads ws xs point values (suc (suc d)) at k (record { value = a.value ⊗ b.value; in_range = a.in_range && b.in_range; end = b.end })
  unfolding word_ok arity uses step applied argument_ok
  a_product d at k a b m p q = record {
    went = let (h, kind, load) = marked ws 5 0 at m in spelled ws (length xs) (length point) (length values) (suc d) at k ∙ rw (lt-ltb at (length ws) h, kind, load, add-zero k, p.went, q.went);
    is =
        let (h, kind, load) = marked ws 5 0 at m in
        let f = parse ws (patterns xs) (suc d) in
        let x = evaluated point values (parse ws (patterns xs) (suc (suc d)) at) in
        let one : 0 + 1 ≡ 1 = omega arith in
        let e : suc (suc d) - 1 ≡ suc d = omega arith in
        let z = rw e at (begins ws (patterns xs) point values (suc (suc d)) at 5 0 2 (λ y. omega arith) h (sym kind) (sym load) (omega arith) refl) in
        let y = goes_on ws (patterns xs) point values f 5 2 0 (at + 1) zero64 true (worth a) a.value x (omega arith) z (sym p.is) refl in
        let v = goes_on ws (patterns xs) point values f 5 2 (0 + 1) a.end.at a.value (true && a.in_range) (worth b) (a.value ⊗ b.value) x (omega arith) y (sym q.is) refl in
        sym (ends ws (patterns xs) point values f 5 2 (0 + 1 + 1) b.end.at (a.value ⊗ b.value) ((true && a.in_range) && b.in_range) x (omega arith) v) ∙ rw (and-true (a.in_range && b.in_range));
  }

  -- a word with no operands is a leaf's
  pub leaf_only : (at k : ℕ) (h : Head) (found : Option Number) → Some h ≡ read_head ws (length xs) (length point) (length values) at k
      → h.operands ≡ 0 → LeafScans ws xs point values at k found → found ≡ None → ⊥
  leaf_only at k h (Some s) p n f e = (cc)
  leaf_only at k h None p n f e =
      let (ok, arity-is) = open_head at k h p in
      let inside = head_inside ws (length xs) (length point) (length values) at k _ h p refl in
      let bad = f inside (no_operands (length xs) (length point) (length values) k _ _ ok (sym arity-is ∙ n)) in
      true≢false (sym ok ∙ bad)

  -- a word's operands lie a level deeper
  pub too_deep : (depth at k : ℕ) (h : Head) → depth ≡ 1 → Some h ≡ read_head ws (length xs) (length point) (length values) at k → (h.operands ≡ 0 → ⊥)
      → read_at depth at k ≡ Err (record { place = at + 1 })
  too_deep depth at k h one p some =
      head_open ws (length xs) (length point) (length values) depth at k _ h (λ z. omega arith) p refl
      ∙ many_more (read_at (depth - 1)) h.operands 0 (at + 1) h.next (omega arith)
      ∙ ap (λ (x : Read Cursor). after x (many (read_at (depth - 1)) (h.operands - (0 + 1)))) (no_depth ws (length xs) (length point) (length values) (depth - 1) (at + 1) h.next (omega arith))

  -- n operands of a word of this kind, of which i are gathered
  pub record Gathered (depth at k kind n : ℕ) (s : Scanned) (i : ℕ) : Type 0 where
    pub went : read_at depth at k ≡ many (read_at (depth - 1)) (n - i) s.end.at s.end.next
    pub is : evaluated point values (parse ws (patterns xs) depth at)
        ≡ whole ws (patterns xs) point values kind i s.value s.in_range (parse_many (parse ws (patterns xs) (depth - 1)) (n - i) s.end.at)

  module _ (depth at k kind : ℕ) (h : Head) (deep : depth ≡ 0 → ⊥) (p : Some h ≡ read_head ws (length xs) (length point) (length values) at k) (e : kind ≡ kind_of (get_or ws at 0)) where
    pub gathered_none : (h.operands ≡ 0 → ⊥) → Gathered depth at k kind h.operands (scanned zero64 true (at + 1) h.next) 0
    gathered_none some = record {
      went = head_open ws (length xs) (length point) (length values) depth at k _ h deep p refl;
      is =
          let here = rw (← e) at (open_head at k h p).1 in
          begins ws (patterns xs) point values depth at kind _ h.operands deep (head_inside ws (length xs) (length point) (length values) at k _ h p refl) e refl (has_operands kind _ h.operands some here) here;
    }

  pub gathered_more : (depth at k kind n i : ℕ) (s e : Scanned) → i < n → Gathered depth at k kind n s i → Reads ws xs point values (depth - 1) s.end.at s.end.next e
      → Gathered depth at k kind n (record { value = cond (eqb i 0) e.value (step kind s.value e.value); in_range = s.in_range && e.in_range; end = e.end }) (i + 1)
  gathered_more depth at k kind n i s e h g p = record {
    went = one_more_is _ n i s.end.at s.end.next e.end.at e.end.next _ _ h g.went refl p.went;
    is = goes_on ws (patterns xs) point values (parse ws (patterns xs) (depth - 1)) kind n i s.end.at s.value s.in_range (worth e) _ _ h g.is (sym p.is) refl;
  }

  pub gathered_all : (depth at k kind n i : ℕ) (s : Scanned) → n ≤ i → Gathered depth at k kind n s i
      → Reads ws xs point values depth at k (record { value = applied kind s.value; in_range = s.in_range && argument_ok kind s.value; end = s.end })
  gathered_all depth at k kind n i s h g = record {
    went = g.went ∙ many_none _ n i s.end.at s.end.next h;
    is = sym (ends ws (patterns xs) point values (parse ws (patterns xs) (depth - 1)) kind n i s.end.at s.value s.in_range _ h g.is);
  }

  -- ---- at any depth that is left

  pub one_level : (depth at k : ℕ) (found : Option Number) → (depth ≡ 0 → ⊥) → LeafScans ws xs point values at k found → Finds ws xs point values depth at k found
  one_level zero at k found nz f = absurd (nz refl)
  one_level (suc d) at k (Some s) nz f = f d
  one_level (suc d) at k None nz f = tt

  pub two_levels : (depth at k : ℕ) (found : Option Number) → (depth ≡ 0 → ⊥) → (depth ≡ 1 → ⊥) → ((d : ℕ) → Finds ws xs point values (suc (suc d)) at k found) → Finds ws xs point values depth at k found
  two_levels zero at k found nz more f = absurd (nz refl)
  two_levels (suc zero) at k found nz more f = absurd (more refl)
  two_levels (suc (suc d)) at k found nz more f = f d

-- ---- the exit of a `?`

pub exit_as : {T E : Type 0} (P : Result T E → Type 0) (r : Result T E) (e : E) → IsErrAnd r (λ y. y ≡ e) → P (Err e) → P r
exit_as P (Ok x) e h p = absurd h
exit_as P (Err y) e h p = rw h p

-- what it returns of a missing value
pub missing_exit : {A : Type 0} (found : Option A) (w e : WrongWord) (r : Result A WrongWord) → r ≡ Err e → r ≡ ok_or found w → e ≡ w
missing_exit None w e r p q = let z : e.place ≡ w.place = same_place e.place w.place (sym p ∙ q) in λ i. record { place = z i }
missing_exit (Some a) w e r p q = let z : Err e ≡ Ok a = sym p ∙ q in absurd (cc)
