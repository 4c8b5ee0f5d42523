-- In a file that stands for a model the finder answers each row, and 18 past the last.
use mathlib.Core.Path.{◌≡◌, refl, ap, ap₂, sym, ◌∙◌}
use mathlib.Core.List.{List, [], ◌∷◌, ◌++◌, append_assoc, append-nil}
use mathlib.Core.Bool.{Bool, true, false}
use Prim.Native.Nat.{ℕ, zero, suc, ◌+◌, ◌-◌, ◌≤◌, ◌<◌}
use native.Mathlib.Omega.{arith}
use native.Mathlib.Nat.{add-zero, zero-add}
use lib.ListN.{length, take, drop, replicate, length-replicate, length-append, length-drop}
use lib.Seq.{take_at}
use lib.Dec.{ltb}
use borrow.Author.Tests.{eq-eqb, ltb-true, ltb-false}
use Rattle.std.specs.Prelude.{Option, Some, None, Result}
use Rattle.base.specs.Word.{word, kind_of}
use Rattle.nl.specs.Expr.{Expr, Terms, none, more, count, constants, constants_of, next, words}
use Rattle.nl.specs.File.{Model, part_words, at_rows, at_objective, model_words, model_constants, Ruled, PartsRuled, depth_limit, StandsFor, join, IsRow}
use Rattle.nl.specs.Reader.{went, stop, span, is_mark, read_parts, read_last, read_end, read_after, read_file}
use Rattle.base.specs.Refusal.{MODEL}
use Rattle.base.specs.declared.refusal.Refusal.{Refusal}
use Rattle.base.specs.declared.refusal.Reason.{Reason}
use Rattle.base.specs.declared.refusal.Reason.TheVariants as reason
use Rattle.base.specs.Fault.{fault_of}
use Rattle.nl.specs.declared.reader.Span.{Span}
use Rattle.nl.specs.Finder.{found, refused, span_of, or_absent, find, row_words}
use Rattle.nl.proofs.Build.{drop_past, get_d_here}
use Rattle.nl.proofs.Complete.{complete}
use Rattle.nl.proofs.Sound.{some_words}
use Rattle.nl.proofs.PartSteps.{marked}
use Rattle.nl.proofs.PartComplete.{mark_here, mark_in, mark_at, mark_beyond, parts_complete}
use Rattle.nl.proofs.PartSound.{Outcome, in_shared, in_rows, in_end, passed, outcome, file_sound}
use Rattle.nl.proofs.Unique.{Other, drop_from, other_shared, other_objective}

-- where a word of another kind stands, or none, there is no mark
not_mark : (ws : List ℕ) (kind load at : ℕ) (xs : List ℕ) → drop at ws ≡ xs → Other kind xs → is_mark ws kind load at ≡ false
not_mark ws kind load at xs p o = go (is_mark ws kind load at) refl xs p o
  where
    go : (b : Bool) → is_mark ws kind load at ≡ b → (xs : List ℕ) → drop at ws ≡ xs → Other kind xs → b ≡ false
    go false e xs p o = refl
    go true e [] p o = absurd (omega (arith, (marked ws kind load at e).0, length-drop at ws, ap length p))
    go true e (x ∷ xs) p o = absurd (o (ap kind_of (sym (get_d_here at ws x xs p)) ∙ (marked ws kind load at e).1))

count_le : (kind i k : ℕ) (ts : Terms) → count ts ≤ length (part_words kind i k ts)
unfolding part_words
count_le kind i k none = omega arith
count_le kind i k (more e ts) = omega (arith, count_le kind (i + 1) (next k e) ts, length-append (words k e) (part_words kind (i + 1) (next k e) ts))

-- all the parts of one kind
pub all : (ws cs : List ℕ) (columns : ℕ) (named : ℕ → ℕ) (kind r at k : ℕ) (ts : Terms) (rest rest' : List ℕ) → PartsRuled depth_limit columns named 0 k ts
    → at ≤ length ws → drop at ws ≡ part_words kind 0 k ts ++ rest → drop k cs ≡ constants_of ts ++ rest' → Other kind rest
    → read_parts ws (length cs) columns named kind r (length ws) 0 at k None ≡ stop (count ts) (at + length (part_words kind 0 k ts)) (k + length (constants_of ts)) (mark_in r 0 at k ts None)
all ws cs columns named kind r at k ts rest rest' h l p q o =
    rw zero-add at (parts_complete ws cs columns named kind r ts (length ws) 0 at k None rest rest' h
    (omega (arith, count_le kind 0 k ts, length-drop at ws, ap length p, length-append (part_words kind 0 k ts) rest)) p q
    (λ lt. not_mark ws kind (0 + count ts) _ rest (drop_past at ws (part_words kind 0 k ts) rest p) o))

pub end_complete : (ws cs : List ℕ) (columns shared at k : ℕ) (e : Expr) → Ruled depth_limit columns shared k e → drop at ws ≡ word 12 0 ∷ words k e ++ (word 13 0 ∷ []) → drop k cs ≡ constants e ++ [] → k ≤ length cs
    → read_end ws (length cs) columns shared at k ≡ went (at + 1 + length (words k e) + 1) (next k e)
unfolding read_end read_last
end_complete ws cs columns shared at k e h p q kl =
    let p' = drop_past at ws (word 12 0 ∷ []) _ p in
    let p'' = drop_past (at + 1) ws (words k e) _ p' in
    let m = mark_here ws 12 0 at _ (omega arith) p in
    let m' = mark_here ws 13 0 (at + 1 + length (words k e)) _ (omega arith) p'' in
    let r = complete ws cs columns shared e depth_limit (at + 1) k _ _ h.loads h.names h.deep p' q in
    let z : next k e ≡ length cs = omega (arith, length-drop k cs, ap length q, length-append (constants e) []) in
    let y : at + 1 + length (words k e) + 1 ≡ length ws = omega (arith, length-drop (at + 1 + length (words k e)) ws, ap length p'') in
    rw (m, r) (rw (m', eq-eqb _ _ z, eq-eqb _ _ y))

count_join : (ps us : Terms) → count (join ps us) ≡ count ps + count us
count_join none us = sym (zero-add (count us))
count_join (more e ps) us = omega (arith, count_join ps us)

split_words : (kind i k : ℕ) (ps us : Terms) → part_words kind i k (join ps us) ≡ part_words kind i k ps ++ part_words kind (i + count ps) (k + length (constants_of ps)) us
unfolding part_words constants_of
split_words kind i k none us = rw (add-zero i, add-zero k)
split_words kind i k (more e ps) us =
    let a : i + 1 + count ps ≡ i + suc (count ps) = omega arith in
    let b : next k e + length (constants_of ps) ≡ k + length (constants e ++ constants_of ps) = omega (arith, length-append (constants e) (constants_of ps)) in
    ap (λ x. word kind i ∷ words k e ++ x) (rw (a, b) at (split_words kind (i + 1) (next k e) ps us)) ∙ ap (λ x. word kind i ∷ x) (sym (append_assoc (words k e) _ _))

abbrev pub rows_from : Model → ℕ
rows_from M = length (part_words 10 0 0 M.shared)

abbrev pub past_rows : Model → List ℕ
past_rows M = word 12 0 ∷ words (at_objective M) M.objective ++ (word 13 0 ∷ [])

module _ (ws cs : List ℕ) (columns : ℕ) (M : Model) (S : StandsFor ws cs columns M) where
  pub rows_words : drop (rows_from M) ws ≡ part_words 11 0 (at_rows M) M.rows ++ past_rows M
  unfolding model_words
  rows_words = drop_from ws (part_words 10 0 0 M.shared) _ S.its_words

  pub rows_values : drop (at_rows M) cs ≡ constants_of M.rows ++ constants M.objective
  unfolding model_constants
  rows_values = drop_from cs (constants_of M.shared) _ S.its_constants

  -- the finder reads to the end, and then goes by the number of rows
  pub finds : (r : ℕ) → find ws (length cs) columns r
      ≡ or_absent (mark_in r 0 (rows_from M) (at_rows M) M.rows None) (count M.rows)
  unfolding model_words model_constants find read_file read_after
  finds r =
      let a = rw (zero-add, zero-add) at (all ws cs columns (λ i. i) 10 r 0 0 M.shared _ _ S.shared_ruled (omega arith) S.its_words S.its_constants (other_shared _ M.rows _)) in
      let le : rows_from M ≤ length ws = omega (arith, ap length S.its_words, length-append (part_words 10 0 0 M.shared) (part_words 11 0 (at_rows M) M.rows ++ past_rows M)) in
      let b = all ws cs columns (λ i. count M.shared) 11 r (rows_from M) (at_rows M) M.rows _ _ S.rows_ruled le rows_words rows_values (other_objective []) in
      let kl : at_objective M ≤ length cs = omega (arith, ap length S.its_constants, length-append (constants_of M.shared) (constants_of M.rows ++ constants M.objective), length-append (constants_of M.rows) (constants M.objective)) in
      let e = end_complete ws cs columns (count M.shared) (rows_from M + length (part_words 11 0 (at_rows M) M.rows)) (at_objective M) M.objective S.objective_ruled
      (drop_past (rows_from M) ws (part_words 11 0 (at_rows M) M.rows) _ rows_words) (drop_past (at_rows M) cs (constants_of M.rows) _ rows_values ∙ sym (append-nil _)) kl in
      rw (a, b, e)

  pub past : (r : ℕ) → count M.rows ≤ r → find ws (length cs) columns r ≡ refused reason.Row (count M.rows)
  past r h = finds r ∙ ap (λ x. or_absent x (count M.rows)) (mark_beyond 11 r M.rows 0 (rows_from M) (at_rows M) None (omega arith))

  module _ (r start k : ℕ) (e : Expr) (R : IsRow M r start k e) where
    row_words_is : drop start ws ≡ words k e ++ (part_words 11 (0 + count R.earlier + 1) (next k e) R.later ++ past_rows M)
    unfolding part_words
    row_words_is =
        let ps = R.earlier in
        let w : drop (rows_from M) ws ≡ part_words 11 0 (at_rows M) ps ++ (word 11 (0 + count ps) ∷ words k e ++ (part_words 11 (0 + count ps + 1) (next k e) R.later ++ past_rows M)) =
        rows_words ∙ ap (λ x. part_words 11 0 (at_rows M) x ++ past_rows M) R.rows ∙ ap (λ x. x ++ past_rows M) (split_words 11 0 (at_rows M) ps (more e R.later)) ∙ append_assoc (part_words 11 0 (at_rows M) ps) _ (past_rows M)
        ∙ ap (λ x. part_words 11 0 (at_rows M) ps ++ (word 11 (0 + count ps) ∷ words x e ++ part_words 11 (0 + count ps + 1) (next x e) R.later ++ past_rows M)) (sym R.first)
        ∙ ap (λ x. part_words 11 0 (at_rows M) ps ++ (word 11 (0 + count ps) ∷ x)) (append_assoc (words k e) _ (past_rows M)) in
        rw R.begins (drop_past (rows_from M + length (part_words 11 0 (at_rows M) ps)) ws (word 11 (0 + count ps) ∷ []) _ (drop_past (rows_from M) ws (part_words 11 0 (at_rows M) ps) _ w))

    pub answers : find ws (length cs) columns r ≡ found start (start + length (words k e))
    answers =
        let n : r ≡ 0 + count R.earlier = R.number ∙ sym (zero-add _) in
        let s : mark_in r 0 (rows_from M) (at_rows M) M.rows None ≡ span start (start + length (words k e)) =
        ap (λ x. mark_in r 0 (rows_from M) (at_rows M) x None) R.rows ∙ mark_at 11 r R.earlier R.later e 0 (rows_from M) (at_rows M) None n
        ∙ ap₂ (λ x y. span x (x + length (words y e))) (sym R.begins) (sym R.first) in
        finds r ∙ ap (λ x. or_absent x (count M.rows)) s

    pub row_is : row_words ws (length cs) columns r ≡ words k e
    unfolding row_words
    row_is =
        let z : start + length (words k e) - start ≡ length (words k e) = omega arith in
        ap (λ f. take ((span_of f).end - (span_of f).start) (drop (span_of f).start ws)) answers ∙ rw (z, row_words_is) (take_at (words k e) _ (length (words k e)) refl)

    pub row_inside : start + length (words k e) ≤ length ws
    row_inside = omega (arith, length-drop start ws, ap length row_words_is, length-append (words k e) (part_words 11 (0 + count R.earlier + 1) (next k e) R.later ++ past_rows M), some_words k e)

-- the row of a number
at_number : (r : ℕ) (ts : Terms) → r < count ts → (ps : Terms) × (us : Terms) × (e : Expr) × (ts ≡ join ps (more e us)) × (count ps ≡ r)
at_number r none h = absurd (omega arith)
at_number zero (more e ts) h = (none, ts, e, refl, refl)
at_number (suc r) (more e ts) h =
    let (ps, us, x, p, q) = at_number r ts (omega arith) in
    (more e ps, us, x, ap (more e) p, ap suc q)

pub has_row : (M : Model) (r : ℕ) → r < count M.rows → (start : ℕ) × (k : ℕ) × (e : Expr) × IsRow M r start k e
has_row M r h =
    let (ps, us, e, p, q) = at_number r M.rows h in
    (_, _, e, record { earlier = ps; later = us; rows = p; number = sym q; begins = refl; first = refl })

split_once : (ps ps' us us' : Terms) (e e' : Expr) → join ps (more e us) ≡ join ps' (more e' us') → count ps ≡ count ps' → (ps ≡ ps') × (e ≡ e')
split_once none none us us' e e' p n = (refl, cc)
split_once none (more y ps') us us' e e' p n = absurd (omega arith)
split_once (more x ps) none us us' e e' p n = absurd (omega arith)
split_once (more x ps) (more y ps') us us' e e' p n =
    let h : x ≡ y = cc in
    let t : join ps (more e us) ≡ join ps' (more e' us') = cc in
    let (a, b) = split_once ps ps' us us' e e' t (omega arith) in
    (ap₂ more h a, b)

pub one_row : (M : Model) (r start start' k k' : ℕ) (e e' : Expr) → IsRow M r start k e → IsRow M r start' k' e' → (start ≡ start') × (k ≡ k') × (e ≡ e')
one_row M r start start' k k' e e' R R' =
    let (a, b) = split_once R.earlier R'.earlier R.later R'.later e e' (sym R.rows ∙ R'.rows) (sym R.number ∙ R'.number) in (
      R.begins ∙ ap (λ x. length (part_words 10 0 0 M.shared) + length (part_words 11 0 (at_rows M) x) + 1) a ∙ sym R'.begins,
      R.first ∙ ap (λ x. at_rows M + length (constants_of x)) a ∙ sym R'.first,
      b,
    )

-- the finder's answer, by whether there is such a row
pub data Answer (ws cs : List ℕ) (columns r : ℕ) (M : Model) : Type 0 where
  row_at : (start k : ℕ) (e : Expr) → IsRow M r start k e → r < count M.rows → find ws (length cs) columns r ≡ found start (start + length (words k e)) → Answer ws cs columns r M
  no_such : count M.rows ≤ r → find ws (length cs) columns r ≡ refused reason.Row (count M.rows) → Answer ws cs columns r M

pub answer : (ws cs : List ℕ) (columns r : ℕ) (M : Model) → StandsFor ws cs columns M → Answer ws cs columns r M
answer ws cs columns r M S = go (ltb r (count M.rows)) refl
  where
    go : (b : Bool) → ltb r (count M.rows) ≡ b → Answer ws cs columns r M
    go true h =
        let lt = ltb-true r (count M.rows) h in
        let (start, k, e, R) = has_row M r lt in
        row_at start k e R lt (answers ws cs columns M S r start k e R)
    go false h = let le = ltb-false r (count M.rows) h in no_such le (past ws cs columns M S r le)

-- the finder says 17 of no file that stands for a model
pub never_17 : (ws cs : List ℕ) (columns r : ℕ) (M : Model) → StandsFor ws cs columns M → (fault_of (find ws (length cs) columns r)).number ≡ MODEL → ⊥
never_17 ws cs columns r M S e = go (answer ws cs columns r M S)
  where
    go : Answer ws cs columns r M → ⊥
    go (row_at start k x R lt f) = omega (arith, ap (λ y. (fault_of y).number) f)
    go (no_such le f) = omega (arith, ap (λ y. (fault_of y).number) f)

-- a row that is not there is not refused with 17
pub never_both : (x : Option Span) (rows : ℕ) → (fault_of (or_absent x rows)).number ≡ MODEL → ⊥
never_both (Some s) rows e = omega arith
never_both None rows e = omega arith

-- what the finder answers lies inside the words
module _ (ws : List ℕ) (constants columns r : ℕ) where
  abbrev Inside : Result Span Refusal → Type 0
  Inside f = ((span_of f).start ≤ (span_of f).end) × ((span_of f).end ≤ length ws)

  nowhere : (reason : Reason) (p : ℕ) → find ws constants columns r ≡ refused reason p → Inside (find ws constants columns r)
  nowhere reason p q = let z = ap span_of q in (omega (arith, ap (λ y. y.start) z, ap (λ y. y.end) z), omega (arith, ap (λ y. y.end) z))

  by_answer : (cs : List ℕ) (M : Model) → constants ≡ length cs → StandsFor ws cs columns M → Answer ws cs columns r M → Inside (find ws constants columns r)
  by_answer cs M len S (row_at start k x R lt q) =
      let z = ap span_of (ap (λ n. find ws n columns r) len ∙ q) in
      (omega (arith, ap (λ y. y.start) z, ap (λ y. y.end) z), omega (arith, ap (λ y. y.end) z, row_inside ws cs columns M S r start k x R))
  by_answer cs M len S (no_such le q) = nowhere reason.Row (count M.rows) (ap (λ n. find ws n columns r) len ∙ q)

  by_outcome : (cs : List ℕ) → constants ≡ length cs → Outcome ws constants columns r → Inside (find ws constants columns r)
  by_outcome cs len (in_shared p q g) = nowhere reason.Model p g
  by_outcome cs len (in_rows s a b u p q q' g) = nowhere reason.Model p g
  by_outcome cs len (in_end s a b u n c d x p q q' q'' g) = nowhere reason.Model p g
  by_outcome cs len (passed s a b u n c d x i j first second third g) =
      let (M, S) = file_sound ws cs columns r (λ z. never_both x n (ap (λ w. (fault_of w).number) (sym g) ∙ ap (λ m. (fault_of (find ws m columns r)).number) len ∙ z)) in
      by_answer cs M len S (answer ws cs columns r M S)

  pub inside_words : (s : Span) → s ≡ span_of (find ws constants columns r) → (s.start ≤ s.end) × (s.end ≤ length ws)
  inside_words s e = rw e (by_outcome (replicate constants 0) (sym (length-replicate {A = ℕ} constants 0)) (outcome ws constants columns r))
