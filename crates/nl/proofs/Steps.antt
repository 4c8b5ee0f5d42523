-- Reading an expression a step at a time, as the code does.
use mathlib.Core.Path.{◌≡◌, refl, ap, sym, ◌∙◌}
use mathlib.Core.List.{List}
use mathlib.Core.Bool.{Bool, true, false, cond, true≢false}
use Prim.Native.Nat.{ℕ, zero, suc, max, ◌+◌, ◌-◌, ◌≤◌, ◌<◌}
use native.Mathlib.Omega.{arith}
use lib.ListN.{length, get_or}
use lib.Dec.{ltb, eqb}
use borrow.Author.Tests.{lt-ltb, le-ltb, eq-eqb, ne_eqb, ltb-true, ltb-false}
use Rattle.std.specs.Prelude.{Option, Some, None, Ok, Err}
use Rattle.base.specs.Word.{kind_of, load_of}
use Rattle.nl.specs.declared.reader.Cursor.{Cursor}
use Rattle.nl.specs.declared.reader.Head.{Head}
use Rattle.nl.specs.declared.kind.Kind.{Kind}
use Rattle.nl.specs.declared.kind.Kind.TheVariants as word
use Rattle.nl.specs.Kinds.{kind_at, number_of}
use Rattle.nl.specs.Reader.{Read, wrong, went, head, word_ok, arity, uses, read_head, opened, after, many, read_expr}

-- what equal answers say
abbrev place_in : {A : Type 0} → Read A → ℕ
place_in (Ok a) = 0
place_in (Err w) = w.place

abbrev cursor_in : Read Cursor → Cursor
cursor_in (Ok c) = c
cursor_in (Err w) = record { at = 0; next = 0 }

pub same_place : {A : Type 0} (p p' : ℕ) → wrong {A = A} p ≡ wrong {A = A} p' → p ≡ p'
same_place p p' e = ap place_in e

pub same_cursor : (a k a' k' : ℕ) → went a k ≡ went a' k' → (a ≡ a') × (k ≡ k')
same_cursor a k a' k' e = (ap (λ x. (cursor_in x).at) e, ap (λ x. (cursor_in x).next) e)

pub many_none : (f : ℕ → ℕ → Read Cursor) (n i at k : ℕ) → n ≤ i → many f (n - i) at k ≡ went at k
many_none f n i at k h = let e : n - i ≡ 0 = omega arith in rw e

pub many_more : (f : ℕ → ℕ → Read Cursor) (n i at k : ℕ) → i < n → many f (n - i) at k ≡ after (f at k) (many f (n - (i + 1)))
many_more f n i at k h = let e : n - i ≡ suc (n - (i + 1)) = omega arith in rw e

module _ (ws : List ℕ) (constants columns named : ℕ) where
  -- the reader's tests, one in the other
  pub spelled : (d at k : ℕ) → read_expr ws constants columns named (suc d) at k
      ≡ cond (ltb at (length ws))
      (cond (word_ok constants columns named k (kind_of (get_or ws at 0)) (load_of (get_or ws at 0)))
      (many (read_expr ws constants columns named d) (arity (kind_of (get_or ws at 0)) (load_of (get_or ws at 0))) (at + 1) (k + uses (kind_of (get_or ws at 0))))
      (wrong at))
      (wrong at)
  unfolding read_expr read_head
  spelled d at k = go (ltb at (length ws)) (word_ok constants columns named k (kind_of (get_or ws at 0)) (load_of (get_or ws at 0))) _ _ _ _ _
    where
      go : (b c : Bool) (kind : Kind) (n k' : ℕ) (w : Read Cursor) (f : ℕ → ℕ → Read Cursor) → opened (cond b (cond c (head kind n k') None) None) w f ≡ cond b (cond c (f n k') w) w
      go true true kind n k' w f = refl
      go true false kind n k' w f = refl
      go false c kind n k' w f = refl

  pub no_depth : (d at k : ℕ) → d ≡ 0 → read_expr ws constants columns named d at k ≡ wrong at
  unfolding read_expr
  no_depth d at k e = rw e

  pub head_refused : (d at k : ℕ) (h : Option Head) → h ≡ read_head ws constants columns named at k → h ≡ None → wrong at ≡ read_expr ws constants columns named d at k
  unfolding read_expr
  head_refused zero at k h p q = refl
  head_refused (suc d) at k h p q = rw (← p, q)

  pub head_open : (d at k : ℕ) (h : Option Head) (x : Head) → (d ≡ 0 → ⊥) → h ≡ read_head ws constants columns named at k → h ≡ Some x
      → read_expr ws constants columns named d at k ≡ many (read_expr ws constants columns named (d - 1)) (x.operands - 0) (at + 1) x.next
  unfolding read_expr
  head_open zero at k h x nz p q = absurd (nz refl)
  head_open (suc d) at k h x nz p q =
      let e : suc d - 1 ≡ d = omega arith in
      let z : x.operands - 0 ≡ x.operands = omega arith in
      rw (e, z, ← p, q)

  pub head_inside : (at k : ℕ) (h : Option Head) (x : Head) → h ≡ read_head ws constants columns named at k → h ≡ Some x → at < length ws
  unfolding read_head
  head_inside at k h x p q = go (ltb at (length ws)) _ refl (sym p ∙ q)
    where
      go : (t : Bool) (found : Option Head) → ltb at (length ws) ≡ t → cond t found None ≡ Some x → at < length ws
      go true found e r = ltb-true at (length ws) e
      go false found e r = absurd (cc)

  -- a word that may stand is followed by its operands
  pub begin : (d at k : ℕ) → (d ≡ 0 → ⊥) → at < length ws → word_ok constants columns named k (kind_of (get_or ws at 0)) (load_of (get_or ws at 0)) ≡ true
      → read_expr ws constants columns named d at k
      ≡ many (read_expr ws constants columns named (d - 1)) (arity (kind_of (get_or ws at 0)) (load_of (get_or ws at 0))) (at + 1) (k + uses (kind_of (get_or ws at 0)))
  begin zero at k n h e = absurd (n refl)
  begin (suc d) at k n h e = let q : suc d - 1 ≡ d = omega arith in rw q (spelled d at k ∙ rw (lt-ltb at (length ws) h, e))

-- one operand more is read
pub one_more_is : (f : ℕ → ℕ → Read Cursor) (n i here next a b : ℕ) (whole part : Read Cursor) → i < n → whole ≡ many f (n - i) here next → part ≡ f here next → part ≡ went a b
    → whole ≡ many f (n - (i + 1)) a b
one_more_is f n i here next a b whole part h p q r = p ∙ many_more f n i here next h ∙ ap (λ x. after x (many f (n - (i + 1)))) (sym q ∙ r)

-- a number's kind has that number, and a kind is that of its number
pub kind_of_number : (kind : Kind) → kind_at (number_of kind) ≡ kind
unfolding kind_at
kind_of_number word.Constant = refl
kind_of_number word.Column = refl
kind_of_number word.Shared = refl
kind_of_number word.Add = refl
kind_of_number word.Subtract = refl
kind_of_number word.Multiply = refl
kind_of_number word.Square = refl
kind_of_number word.Cosine = refl
kind_of_number word.Sine = refl
kind_of_number word.Sum = refl

pub number_of_kind : (kind : ℕ) → kind ≤ 9 → number_of (kind_at kind) ≡ kind
unfolding kind_at
number_of_kind zero h = refl
number_of_kind (suc zero) h = refl
number_of_kind (suc (suc zero)) h = refl
number_of_kind (suc (suc (suc zero))) h = refl
number_of_kind (suc (suc (suc (suc zero)))) h = refl
number_of_kind (suc (suc (suc (suc (suc zero))))) h = refl
number_of_kind (suc (suc (suc (suc (suc (suc zero)))))) h = refl
number_of_kind (suc (suc (suc (suc (suc (suc (suc zero))))))) h = refl
number_of_kind (suc (suc (suc (suc (suc (suc (suc (suc zero)))))))) h = refl
number_of_kind (suc (suc (suc (suc (suc (suc (suc (suc (suc zero))))))))) h = refl
number_of_kind (suc (suc (suc (suc (suc (suc (suc (suc (suc (suc n)))))))))) h = absurd (omega arith)

-- a word whose kind is above 9 may not stand in an expression
pub no_kind : (constants columns named k kind load : ℕ) → 9 < kind → word_ok constants columns named k kind load ≡ false
unfolding word_ok
no_kind constants columns named k kind load h =
    rw (ne_eqb kind 0 (λ z. omega arith), ne_eqb kind 1 (λ z. omega arith), ne_eqb kind 2 (λ z. omega arith), le-ltb kind 9 (omega arith), ne_eqb kind 9 (λ z. omega arith))

kind_shown : (constants columns named k kind load : ℕ) → word_ok constants columns named k kind load ≡ true → number_of (kind_at kind) ≡ kind
kind_shown constants columns named k kind load ok = number_of_kind kind (go (ltb 9 kind) refl)
  where
    go : (b : Bool) → ltb 9 kind ≡ b → kind ≤ 9
    go true e = absurd (true≢false (sym ok ∙ no_kind constants columns named k kind load (ltb-true 9 kind e)))
    go false e = ltb-false 9 kind e

-- the kind that is read is the word's
pub head_kind : (ws : List ℕ) (constants columns named at k : ℕ) (x : Head) → Some x ≡ read_head ws constants columns named at k → number_of x.kind ≡ kind_of (get_or ws at 0)
unfolding read_head
head_kind ws constants columns named at k x p = go (ltb at (length ws)) (word_ok constants columns named k (kind_of (get_or ws at 0)) (load_of (get_or ws at 0))) refl _ _ p
  where
    number_in : Option Head → ℕ
    number_in (Some a) = number_of a.kind
    number_in None = 0

    go : (t u : Bool) → word_ok constants columns named k (kind_of (get_or ws at 0)) (load_of (get_or ws at 0)) ≡ u → (n b : ℕ)
        → Some x ≡ cond t (cond u (head (kind_at (kind_of (get_or ws at 0))) n b) None) None → number_of x.kind ≡ kind_of (get_or ws at 0)
    go true true e n b r = ap number_in r ∙ kind_shown constants columns named k (kind_of (get_or ws at 0)) (load_of (get_or ws at 0)) e
    go true false e n b r = absurd (cc)
    go false u e n b r = absurd (cc)

-- the number of the next constant after a word that may stand
pub next_fits : (constants columns named k kind load : ℕ) → word_ok constants columns named k kind load ≡ true → k + uses kind ≤ max k constants
unfolding word_ok uses
next_fits constants columns named k kind load h = go (eqb kind 0) (eqb load k) _ h
  where
    go : (b c x : Bool) → cond b (cond c (ltb k constants) false) x ≡ true → k + cond b 1 0 ≤ max k constants
    go true true x e = let l = ltb-true k constants e in omega arith
    go true false x e = absurd (cc)
    go false c x e = omega arith

pub uses_one : (kind : ℕ) → kind ≡ 0 → uses kind ≡ 1
unfolding uses
uses_one kind e = rw (eq-eqb kind 0 e)

pub uses_none : (kind : ℕ) → (kind ≡ 0 → ⊥) → uses kind ≡ 0
unfolding uses
uses_none kind e = rw (ne_eqb kind 0 e)
