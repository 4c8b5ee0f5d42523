-- Words that begin alike are read alike: where a reading stopped, and why, is settled by the words that it looked at.
use mathlib.Core.Path.{◌≡◌, refl, ap, sym, ◌∙◌}
use mathlib.Core.List.{List}
use mathlib.Core.Bool.{Bool, true, false, cond}
use Prim.Native.Nat.{ℕ, zero, suc, ◌+◌, ◌≤◌, ◌<◌}
use native.Mathlib.Omega.{arith}
use native.Mathlib.Nat.{le_refl}
use native.Mathlib.Numerals.{add-one}
use lib.ListN.{length, get_or}
use lib.Dec.{ltb, eqb}
use borrow.Author.Tests.{lt-ltb, le-ltb, ne_eqb}
use Rattle.std.specs.Prelude.{Option, None, Ok, Err}
use Rattle.base.specs.declared.refusal.Reason.TheVariants as reason
use Rattle.base.specs.Fault.{fault_of}
use Rattle.base.specs.Word.{kind_of, load_of}
use Rattle.nl.specs.declared.reader.Parts.{Parts}
use Rattle.nl.specs.declared.reader.Span.{Span}
use Rattle.nl.specs.declared.reader.Cursor.{Cursor}
use Rattle.nl.specs.File.{depth_limit}
use Rattle.nl.specs.Reader.{Read, wrong, went, stop, span, word_ok, arity, uses, after, many, read_expr, is_mark, read_parts, read_last, read_end, read_after, read_file}
use Rattle.nl.specs.Finder.{found, refused, find}
use Rattle.nl.proofs.Steps.{same_place, spelled, no_depth}
use Rattle.nl.proofs.Sound.{goes_on}
use Rattle.nl.proofs.PartSteps.{no_more}
use Rattle.nl.proofs.PartSound.{Outcome, in_shared, in_rows, in_end, passed, outcome}
use Rattle.nl.proofs.Finds.{never_both}

-- how many words a reading looked at
abbrev reach : Read Cursor → ℕ
reach (Ok c) = c.at
reach (Err w) = suc w.place

abbrev reach_parts : Read Parts → ℕ
reach_parts (Ok t) = suc t.end.at
reach_parts (Err w) = suc w.place

many_forward : (f : ℕ → ℕ → Read Cursor) → ((at k : ℕ) → suc at ≤ reach (f at k)) → (n at k : ℕ) → at ≤ reach (many f n at k)
many_forward f h zero at k = le_refl at
many_forward f h (suc n) at k = go (f at k) (h at k) (many_forward f h n)
  where
    go : (x : Read Cursor) → suc at ≤ reach x → ((at k : ℕ) → at ≤ reach (many f n at k)) → at ≤ reach (after x (many f n))
    go (Ok c) l rec = omega (arith, rec c.at c.next)
    go (Err w) l rec = omega arith

module _ (ws : List ℕ) (constants columns named : ℕ) where
  -- reading goes forward: it looked at the word where it began
  forward : (d at k : ℕ) → suc at ≤ reach (read_expr ws constants columns named d at k)
  unfolding read_expr
  forward zero at k = le_refl (suc at)
  forward (suc d) at k = rw spelled (either (ltb at (length ws)) _ (either (word_ok constants columns named k (kind_of (get_or ws at 0)) (load_of (get_or ws at 0))) _
      (rw (← add-one at) (many_forward (read_expr ws constants columns named d) (forward d) (arity (kind_of (get_or ws at 0)) (load_of (get_or ws at 0))) (at + 1) (k + uses (kind_of (get_or ws at 0)))))))
    where
      either : (b : Bool) (x : Read Cursor) → suc at ≤ reach x → suc at ≤ reach (cond b x (wrong at))
      either true x h = h
      either false x h = le_refl (suc at)

-- the parts after part i
abbrev on : List ℕ → ℕ → ℕ → (ℕ → ℕ) → ℕ → ℕ → ℕ → ℕ → ℕ → Option Span → ℕ → ℕ → Read Parts
on ws constants columns named kind r n i at found a b = read_parts ws constants columns named kind r n (i + 1) a b (cond (eqb i r) (span (at + 1) a) found)

no_mark_past : (ws : List ℕ) (kind load at : ℕ) → length ws ≤ at → is_mark ws kind load at ≡ false
unfolding is_mark
no_mark_past ws kind load at h = rw (le-ltb at (length ws) h)

module _ (ws : List ℕ) (constants columns : ℕ) (named : ℕ → ℕ) (kind r : ℕ) where
  parts_forward : (n i at k : ℕ) (found : Option Span) → suc at ≤ reach_parts (read_parts ws constants columns named kind r n i at k found)
  unfolding read_parts
  parts_forward zero i at k found = le_refl (suc at)
  parts_forward (suc n) i at k found =
      by_mark (is_mark ws kind i at) _ (by_read (read_expr ws constants columns (named i) depth_limit (at + 1) k) (forward ws constants columns (named i) depth_limit (at + 1) k) (λ a b s. parts_forward n (i + 1) a b s))
    where
      by_mark : (m : Bool) (x : Read Parts) → suc at ≤ reach_parts x → suc at ≤ reach_parts (cond m x (stop i at k found))
      by_mark true x h = h
      by_mark false x h = le_refl (suc at)

      by_read : (x : Read Cursor) → suc (at + 1) ≤ reach x → ((a b : ℕ) (s : Option Span) → suc a ≤ reach_parts (read_parts ws constants columns named kind r n (i + 1) a b s))
          → suc at ≤ reach_parts (after x (on ws constants columns named kind r n i at found))
      by_read (Ok c) l rec = omega (arith, rec c.at c.next (cond (eqb i r) (span (at + 1) c.at) found))
      by_read (Err w) l rec = omega arith

  -- any bound on the number of parts serves that is as large as the number of words left
  enough : (n n' i at k : ℕ) (found : Option Span) → length ws ≤ at + n → length ws ≤ at + n'
      → read_parts ws constants columns named kind r n i at k found ≡ read_parts ws constants columns named kind r n' i at k found
  unfolding read_parts
  enough zero n' i at k found h h' = sym (no_more ws constants columns named kind r n' i at k found false (sym (no_mark_past ws kind i at (omega arith))) refl)
  enough (suc n) zero i at k found h h' = no_more ws constants columns named kind r (suc n) i at k found false (sym (no_mark_past ws kind i at (omega arith))) refl
  enough (suc n) (suc n') i at k found h h' =
      ap (λ x. cond (is_mark ws kind i at) x (stop i at k found)) (by_read (read_expr ws constants columns (named i) depth_limit (at + 1) k) refl (λ a b s. enough n n' (i + 1) a b s))
    where
      by_read : (x : Read Cursor) → read_expr ws constants columns (named i) depth_limit (at + 1) k ≡ x
          → ((a b : ℕ) (s : Option Span) → length ws ≤ a + n → length ws ≤ a + n' → read_parts ws constants columns named kind r n (i + 1) a b s ≡ read_parts ws constants columns named kind r n' (i + 1) a b s)
          → after x (on ws constants columns named kind r n i at found)
          ≡ after x (on ws constants columns named kind r n' i at found)
      by_read (Ok c) e rec = let g = goes_on ws constants columns (named i) depth_limit (at + 1) k c.at c.next e in rec c.at c.next _ (omega arith) (omega arith)
      by_read (Err w) e rec = refl

-- two lists of words that begin alike are read alike, as far as they do
module _ (ws ws' : List ℕ) (q : ℕ) (le : q ≤ length ws) (le' : q ≤ length ws') (alike : (i : ℕ) → i < q → get_or ws' i 0 ≡ get_or ws i 0) where
  same_mark : (kind load at : ℕ) → at < q → is_mark ws' kind load at ≡ is_mark ws kind load at
  unfolding is_mark
  same_mark kind load at h = rw (lt-ltb at (length ws) (omega arith), lt-ltb at (length ws') (omega arith), alike at h)

  many_alike : (f f' : ℕ → ℕ → Read Cursor) → ((at k : ℕ) → suc at ≤ reach (f at k)) → ((at k : ℕ) → reach (f at k) ≤ q → f' at k ≡ f at k)
      → (n at k : ℕ) → reach (many f n at k) ≤ q → many f' n at k ≡ many f n at k
  many_alike f f' fw h zero at k l = refl
  many_alike f f' fw h (suc n) at k l = go (f at k) refl l (many_alike f f' fw h n)
    where
      go : (x : Read Cursor) → f at k ≡ x → reach (after x (many f n)) ≤ q → ((at k : ℕ) → reach (many f n at k) ≤ q → many f' n at k ≡ many f n at k)
          → after (f' at k) (many f' n) ≡ after x (many f n)
      go (Ok c) e l rec =
          let m : reach (f at k) ≤ q = rw e (omega (arith, many_forward f fw n c.at c.next)) in
          ap (λ x. after x (many f' n)) (h at k m ∙ e) ∙ rec c.at c.next l
      go (Err w) e l rec = let m : reach (f at k) ≤ q = rw e l in ap (λ x. after x (many f' n)) (h at k m ∙ e)

  module _ (constants columns named : ℕ) where
    expr_alike : (d at k : ℕ) → reach (read_expr ws constants columns named d at k) ≤ q → read_expr ws' constants columns named d at k ≡ read_expr ws constants columns named d at k
    expr_alike zero at k l = no_depth ws' constants columns named 0 at k refl ∙ sym (no_depth ws constants columns named 0 at k refl)
    expr_alike (suc d) at k l =
        let h : at < q = omega (arith, forward ws constants columns named (suc d) at k) in
        let i : ltb at (length ws) ≡ true = lt-ltb at (length ws) (omega arith) in
        let i' : ltb at (length ws') ≡ true = lt-ltb at (length ws') (omega arith) in
        let m = rw (spelled ws constants columns named d at k, i) at l in
        rw (spelled ws' constants columns named d at k, spelled ws constants columns named d at k, i, i', alike at h)
        (by_word (word_ok constants columns named k (kind_of (get_or ws at 0)) (load_of (get_or ws at 0))) m (expr_alike d))
      where
        by_word : (b : Bool)
            → reach (cond b (many (read_expr ws constants columns named d) (arity (kind_of (get_or ws at 0)) (load_of (get_or ws at 0))) (at + 1) (k + uses (kind_of (get_or ws at 0)))) (wrong at)) ≤ q
            → ((at k : ℕ) → reach (read_expr ws constants columns named d at k) ≤ q → read_expr ws' constants columns named d at k ≡ read_expr ws constants columns named d at k)
            → cond b (many (read_expr ws' constants columns named d) (arity (kind_of (get_or ws at 0)) (load_of (get_or ws at 0))) (at + 1) (k + uses (kind_of (get_or ws at 0)))) (wrong at)
            ≡ cond b (many (read_expr ws constants columns named d) (arity (kind_of (get_or ws at 0)) (load_of (get_or ws at 0))) (at + 1) (k + uses (kind_of (get_or ws at 0)))) (wrong at)
        by_word true l rec = many_alike (read_expr ws constants columns named d) (read_expr ws' constants columns named d) (forward ws constants columns named d) rec
            (arity (kind_of (get_or ws at 0)) (load_of (get_or ws at 0))) (at + 1) (k + uses (kind_of (get_or ws at 0))) l
        by_word false l rec = refl

  module _ (constants columns : ℕ) (named : ℕ → ℕ) (kind r : ℕ) where
    parts_alike : (n i at k : ℕ) (found : Option Span) → reach_parts (read_parts ws constants columns named kind r n i at k found) ≤ q
        → read_parts ws' constants columns named kind r n i at k found ≡ read_parts ws constants columns named kind r n i at k found
    unfolding read_parts
    parts_alike zero i at k found l = refl
    parts_alike (suc n) i at k found l =
        let h : at < q = omega (arith, parts_forward ws constants columns named kind r (suc n) i at k found) in
        rw (same_mark kind i at h) (by_mark (is_mark ws kind i at) l (λ a b s. parts_alike n (i + 1) a b s))
      where
        by_read : (x : Read Cursor) → read_expr ws constants columns (named i) depth_limit (at + 1) k ≡ x → reach_parts (after x (on ws constants columns named kind r n i at found)) ≤ q
            → ((a b : ℕ) (s : Option Span) → reach_parts (read_parts ws constants columns named kind r n (i + 1) a b s) ≤ q → read_parts ws' constants columns named kind r n (i + 1) a b s ≡ read_parts ws constants columns named kind r n (i + 1) a b s)
            → after (read_expr ws' constants columns (named i) depth_limit (at + 1) k) (on ws' constants columns named kind r n i at found) ≡ after x (on ws constants columns named kind r n i at found)
        by_read (Ok c) e l rec =
            let m : reach (read_expr ws constants columns (named i) depth_limit (at + 1) k) ≤ q = rw e (omega (arith, parts_forward ws constants columns named kind r n (i + 1) c.at c.next (cond (eqb i r) (span (at + 1) c.at) found))) in
            ap (λ x. after x (on ws' constants columns named kind r n i at found)) (expr_alike constants columns (named i) depth_limit (at + 1) k m ∙ e) ∙ rec c.at c.next _ l
        by_read (Err w) e l rec =
            let m : reach (read_expr ws constants columns (named i) depth_limit (at + 1) k) ≤ q = rw e l in
            ap (λ x. after x (on ws' constants columns named kind r n i at found)) (expr_alike constants columns (named i) depth_limit (at + 1) k m ∙ e)

        by_mark : (b : Bool) → reach_parts (cond b (after (read_expr ws constants columns (named i) depth_limit (at + 1) k) (on ws constants columns named kind r n i at found)) (stop i at k found)) ≤ q
            → ((a b : ℕ) (s : Option Span) → reach_parts (read_parts ws constants columns named kind r n (i + 1) a b s) ≤ q → read_parts ws' constants columns named kind r n (i + 1) a b s ≡ read_parts ws constants columns named kind r n (i + 1) a b s)
            → cond b (after (read_expr ws' constants columns (named i) depth_limit (at + 1) k) (on ws' constants columns named kind r n i at found)) (stop i at k found)
            ≡ cond b (after (read_expr ws constants columns (named i) depth_limit (at + 1) k) (on ws constants columns named kind r n i at found)) (stop i at k found)
        by_mark true l rec = by_read (read_expr ws constants columns (named i) depth_limit (at + 1) k) refl l rec
        by_mark false l rec = refl

    -- with each list's own bound on the number of parts
    whole_alike : (at k : ℕ) (x : Read Parts) → read_parts ws constants columns named kind r (length ws) 0 at k None ≡ x → reach_parts x ≤ q
        → read_parts ws' constants columns named kind r (length ws') 0 at k None ≡ x
    whole_alike at k x e l =
        let n = length ws + length ws' in
        let m : read_parts ws constants columns named kind r n 0 at k None ≡ x = enough ws constants columns named kind r n (length ws) 0 at k None (omega arith) (omega arith) ∙ e in
        enough ws' constants columns named kind r (length ws') n 0 at k None (omega arith) (omega arith) ∙ parts_alike n 0 at k None (rw m l) ∙ m

  module _ (constants : ℕ) where
    last_alike : (at k p : ℕ) → read_last ws constants at k ≡ wrong p → p < q → (at ≤ p) × (read_last ws' constants at k ≡ wrong p)
    unfolding read_last
    last_alike at k p e h = by_mark (is_mark ws 13 0 at) refl e
      where
        never : (a b : ℕ) → went a b ≡ wrong p → ⊥
        never a b z = cc

        by_length : (b : Bool) → eqb (at + 1) (length ws) ≡ b → cond b (went (at + 1) k) (wrong (at + 1)) ≡ wrong p → (at ≤ p) × (cond (eqb (at + 1) (length ws')) (went (at + 1) k) (wrong (at + 1)) ≡ wrong p)
        by_length true f z = absurd (never (at + 1) k z)
        by_length false f z =
            let y = same_place (at + 1) p z in
            (omega arith, ap (λ b. cond b (went (at + 1) k) (wrong (at + 1))) (ne_eqb (at + 1) (length ws') (λ u. omega arith)) ∙ z)

        by_count : (b : Bool) → cond b (cond (eqb (at + 1) (length ws)) (went (at + 1) k) (wrong (at + 1))) (wrong at) ≡ wrong p
            → (at ≤ p) × (cond b (cond (eqb (at + 1) (length ws')) (went (at + 1) k) (wrong (at + 1))) (wrong at) ≡ wrong p)
        by_count true z = by_length (eqb (at + 1) (length ws)) refl z
        by_count false z = let y = same_place at p z in (omega arith, z)

        marks : at < q → is_mark ws' 13 0 at ≡ is_mark ws 13 0 at
        marks lt = same_mark 13 0 at lt

        by_mark : (b : Bool) → is_mark ws 13 0 at ≡ b → cond b (cond (eqb k constants) (cond (eqb (at + 1) (length ws)) (went (at + 1) k) (wrong (at + 1))) (wrong at)) (wrong at) ≡ wrong p
            → (at ≤ p) × (cond (is_mark ws' 13 0 at) (cond (eqb k constants) (cond (eqb (at + 1) (length ws')) (went (at + 1) k) (wrong (at + 1))) (wrong at)) (wrong at) ≡ wrong p)
        by_mark true f z = let (l, y) = by_count (eqb k constants) z in (l, rw (marks (omega arith) ∙ f) y)
        by_mark false f z = let y = same_place at p z in (omega arith, rw (marks (omega arith) ∙ f) z)

    end_alike : (columns shared at k p : ℕ) → read_end ws constants columns shared at k ≡ wrong p → p < q → (at ≤ p) × (read_end ws' constants columns shared at k ≡ wrong p)
    unfolding read_end
    end_alike columns shared at k p e h = by_mark (is_mark ws 12 0 at) refl e
      where
        by_read : (x : Read Cursor) → read_expr ws constants columns shared depth_limit (at + 1) k ≡ x → after x (read_last ws constants) ≡ wrong p
            → (at ≤ p) × (after (read_expr ws' constants columns shared depth_limit (at + 1) k) (read_last ws' constants) ≡ wrong p)
        by_read (Ok c) f z =
            let (l, y) = last_alike c.at c.next p z h in
            let g = goes_on ws constants columns shared depth_limit (at + 1) k c.at c.next f in
            let m : reach (read_expr ws constants columns shared depth_limit (at + 1) k) ≤ q = rw f (omega arith) in
            (omega arith, ap (λ x. after x (read_last ws' constants)) (expr_alike constants columns shared depth_limit (at + 1) k m ∙ f) ∙ y)
        by_read (Err w0) f z =
            let y = same_place w0.place p z in
            let w = ap reach f in
            let m : reach (read_expr ws constants columns shared depth_limit (at + 1) k) ≤ q = rw f (omega arith) in
            (omega (arith, forward ws constants columns shared depth_limit (at + 1) k, w), ap (λ x. after x (read_last ws' constants)) (expr_alike constants columns shared depth_limit (at + 1) k m ∙ f) ∙ z)

        by_mark : (b : Bool) → is_mark ws 12 0 at ≡ b → cond b (after (read_expr ws constants columns shared depth_limit (at + 1) k) (read_last ws constants)) (wrong at) ≡ wrong p
            → (at ≤ p) × (cond (is_mark ws' 12 0 at) (after (read_expr ws' constants columns shared depth_limit (at + 1) k) (read_last ws' constants)) (wrong at) ≡ wrong p)
        by_mark true f z =
            let (l, y) = by_read (read_expr ws constants columns shared depth_limit (at + 1) k) refl z in
            (l, rw (same_mark 12 0 at (omega arith) ∙ f) y)
        by_mark false f z = let y = same_place at p z in (omega arith, rw (same_mark 12 0 at (omega arith) ∙ f) z)

  -- words that begin with the words up to a wrong word are refused at the same word
  module _ (constants columns r p : ℕ) (h : p < q) where
    by_outcome : find ws constants columns r ≡ refused reason.Model p → Outcome ws constants columns r → find ws' constants columns r ≡ refused reason.Model p
    unfolding find read_file read_after
    by_outcome e (in_shared p' a g) =
        let z : p' ≡ p = ap (λ f. (fault_of f).place) (sym g ∙ e) in
        let a' = whole_alike constants columns (λ i. i) 10 r 0 0 (wrong p') a (omega arith) in
        rw (a', z)
    by_outcome e (in_rows s at k u p' a b g) =
        let z : p' ≡ p = ap (λ f. (fault_of f).place) (sym g ∙ e) in
        let l = parts_forward ws constants columns (λ i. s) 11 r (length ws) 0 at k None in
        let l' : suc at ≤ suc p' = rw b at l in
        let a' = whole_alike constants columns (λ i. i) 10 r 0 0 (stop s at k u) a (omega arith) in
        let b' = whole_alike constants columns (λ i. s) 11 r at k (wrong p') b (omega arith) in
        rw (a', b', z)
    by_outcome e (in_end s at k u n c d x p' a b w g) =
        let z : p' ≡ p = ap (λ f. (fault_of f).place) (sym g ∙ e) in
        let l = parts_forward ws constants columns (λ i. s) 11 r (length ws) 0 at k None in
        let l' : suc at ≤ suc c = rw b at l in
        let (m, w') = end_alike constants columns s c d p' w (omega arith) in
        let a' = whole_alike constants columns (λ i. i) 10 r 0 0 (stop s at k u) a (omega arith) in
        let b' = whole_alike constants columns (λ i. s) 11 r at k (stop n c d x) b (omega arith) in
        rw (a', b', w', z)
    by_outcome e (passed s at k u n c d x i j a b w g) = absurd (never_both x n (ap (λ f. (fault_of f).number) (sym g ∙ e)))

    pub refused_alike : find ws constants columns r ≡ refused reason.Model p → find ws' constants columns r ≡ refused reason.Model p
    refused_alike e = by_outcome e (outcome ws constants columns r)

-- what was read, but for where part r stands
abbrev with_found : Option Span → Read Parts → Read Parts
with_found found (Ok t) = stop t.count t.end.at t.end.next found
with_found found (Err w) = Err w

abbrev plain : Read Parts → Read Parts
plain = with_found None

plain_bad : (x : Read Parts) (p : ℕ) → plain x ≡ wrong p → x ≡ wrong p
plain_bad (Ok t) p e = absurd (cc)
plain_bad (Err w) p e = e

plain_stop : (x : Read Parts) (i at k : ℕ) → plain x ≡ stop i at k None → (found : Option Span) × (x ≡ stop i at k found)
plain_stop (Ok t) i at k e = (t.span, ap (with_found t.span) e)
plain_stop (Err w) i at k e = absurd (cc)

module _ (ws : List ℕ) (constants columns r r' : ℕ) where
  -- whichever row is asked for, the same parts are read
  any_part : (named : ℕ → ℕ) (kind n i at k : ℕ) (s s' : Option Span) → plain (read_parts ws constants columns named kind r n i at k s) ≡ plain (read_parts ws constants columns named kind r' n i at k s')
  unfolding read_parts
  any_part named kind zero i at k s s' = refl
  any_part named kind (suc n) i at k s s' = go (is_mark ws kind i at) (read_expr ws constants columns (named i) depth_limit (at + 1) k) (any_part named kind n)
    where
      go : (b : Bool) (x : Read Cursor)
          → ((i at k : ℕ) (s s' : Option Span) → plain (read_parts ws constants columns named kind r n i at k s) ≡ plain (read_parts ws constants columns named kind r' n i at k s'))
          → plain (cond b (after x (on ws constants columns named kind r n i at s)) (stop i at k s)) ≡ plain (cond b (after x (on ws constants columns named kind r' n i at s')) (stop i at k s'))
      go true (Ok c) rec = rec (i + 1) c.at c.next _ _
      go true (Err w) rec = refl
      go false x rec = refl

  other_row : (p : ℕ) → find ws constants columns r ≡ refused reason.Model p → Outcome ws constants columns r → find ws constants columns r' ≡ refused reason.Model p
  unfolding find read_file read_after
  other_row p e (in_shared p' a g) =
      let z : p' ≡ p = ap (λ f. (fault_of f).place) (sym g ∙ e) in
      let a' = plain_bad (read_parts ws constants columns (λ i. i) 10 r' (length ws) 0 0 0 None) p' (sym (any_part (λ i. i) 10 (length ws) 0 0 0 None None) ∙ ap plain a) in
      rw (a', z)
  other_row p e (in_rows s at k u p' a b g) =
      let z : p' ≡ p = ap (λ f. (fault_of f).place) (sym g ∙ e) in
      let (u', a') = plain_stop (read_parts ws constants columns (λ i. i) 10 r' (length ws) 0 0 0 None) s at k (sym (any_part (λ i. i) 10 (length ws) 0 0 0 None None) ∙ ap plain a) in
      let b' = plain_bad (read_parts ws constants columns (λ i. s) 11 r' (length ws) 0 at k None) p' (sym (any_part (λ i. s) 11 (length ws) 0 at k None None) ∙ ap plain b) in
      rw (a', b', z)
  other_row p e (in_end s at k u n c d x p' a b w g) =
      let z : p' ≡ p = ap (λ f. (fault_of f).place) (sym g ∙ e) in
      let (u', a') = plain_stop (read_parts ws constants columns (λ i. i) 10 r' (length ws) 0 0 0 None) s at k (sym (any_part (λ i. i) 10 (length ws) 0 0 0 None None) ∙ ap plain a) in
      let (x', b') = plain_stop (read_parts ws constants columns (λ i. s) 11 r' (length ws) 0 at k None) n c d (sym (any_part (λ i. s) 11 (length ws) 0 at k None None) ∙ ap plain b) in
      rw (a', b', w, z)
  other_row p e (passed s at k u n c d x i j a b w g) = absurd (never_both x n (ap (λ f. (fault_of f).number) (sym g ∙ e)))

  pub refused_any_row : (p : ℕ) → find ws constants columns r ≡ refused reason.Model p → find ws constants columns r' ≡ refused reason.Model p
  refused_any_row p e = other_row p e (outcome ws constants columns r)
