-- Condition 3 of document 00: the model file can be read one way only.
use mathlib.Core.Path.{◌≡◌, ap, sym, ◌∙◌, subst₂}
use mathlib.Core.Logic.{◌↔◌}
use mathlib.Core.List.{List, [], ◌++◌}
use Prim.Native.Nat.{ℕ, suc, ◌+◌, ◌-◌, ◌≤◌, ◌<◌}
use native.Mathlib.Omega.{arith}
use lib.ListN.{length, get_or, take, drop, length-append, get_or-append}
use lib.Seq.{length-take-le, get_or-take}
use Rattle.std.specs.Prelude.{Option, Some, None}
use Rattle.nl.specs.Expr.{Expr, count, words, HasWords}
use Rattle.nl.specs.File.{Model, model_words, model_constants, StandsWithin, StandsFor, IsRow}
use Rattle.base.specs.Refusal.{MODEL, ROW}
use Rattle.base.specs.declared.refusal.Reason.{Reason}
use Rattle.base.specs.declared.refusal.Reason.TheVariants as reason
use Rattle.base.specs.Fault.{fault, clear, fault_of}
use Rattle.nl.specs.declared.reader.Span.{Span}
use Rattle.nl.specs.Finder.{refused, span_of, or_absent, find, row_start, row_length, row_words}
use Rattle.nl.proofs.Words.{no_proper_beginning}
use Rattle.nl.proofs.PartSound.{Outcome, in_shared, in_rows, in_end, passed, outcome, file_sound}
use Rattle.nl.proofs.Unique.{model_unique}
use Rattle.nl.proofs.Finds.{answers, row_is, past, has_row, one_row, Answer, row_at, no_such, answer, never_17, never_both}
use Rattle.nl.proofs.Alike.{refused_alike, refused_any_row}
use Rattle.nl.proofs.Begun.{begun_file}

-- 1. "they stand for at most one choice of shared parts, rows and objective", whatever words, constants' patterns and number of columns.
pub at_most_one : (ws cs : List ℕ) (columns : ℕ) (M N : Model) → StandsFor ws cs columns M → StandsFor ws cs columns N → M ≡ N
at_most_one ws cs columns M N s t = model_unique ws cs columns columns M N s t

-- 2. "and for one exactly when the finder does not say 17", whichever row r it is asked for.
pub exactly_when : (ws cs : List ℕ) (columns r : ℕ) → ((M : Model) × StandsFor ws cs columns M) ↔ ¬ ((fault_of (find ws (length cs) columns r)).number ≡ MODEL)
exactly_when ws cs columns r = (λ s. never_17 ws cs columns r s.0 s.1, file_sound ws cs columns r)

-- 3. "it then answers for row r, from 0, the words of that row's expression where they stand": a number below the count has one row, and of that row
-- the finder refuses nothing and the part is its words, from where they start on.
pub each_row : (M : Model) (r : ℕ) → r < count M.rows → (start : ℕ) × (k : ℕ) × (e : Expr) × IsRow M r start k e
each_row = has_row

pub only_row : (M : Model) (r start start' k k' : ℕ) (e e' : Expr) → IsRow M r start k e → IsRow M r start' k' e' → (start ≡ start') × (k ≡ k') × (e ≡ e')
only_row = one_row

pub row_found : (ws cs : List ℕ) (columns : ℕ) (M : Model) → StandsFor ws cs columns M → (r start k : ℕ) (e : Expr) → IsRow M r start k e
    → ((fault_of (find ws (length cs) columns r)) ≡ clear) × (row_start ws (length cs) columns r ≡ start) × (row_length ws (length cs) columns r ≡ length (words k e)) × (row_words ws (length cs) columns r ≡ words k e)
unfolding row_start row_length
row_found ws cs columns M S r start k e R =
    let a = answers ws cs columns M S r start k e R in
    let z : start + length (words k e) - start ≡ length (words k e) = omega arith in
    (ap (λ f. fault_of f) a, ap (λ f. (span_of f).start) a, ap (λ f. (span_of f).end - (span_of f).start) a ∙ z, row_is ws cs columns M S r start k e R)

-- "and 18 exactly when there is no such row", with the row count.
pub no_row : (ws cs : List ℕ) (columns : ℕ) (M : Model) → StandsFor ws cs columns M → (r : ℕ)
    → (((fault_of (find ws (length cs) columns r)).number ≡ ROW) ↔ (count M.rows ≤ r)) × (count M.rows ≤ r → (fault_of (find ws (length cs) columns r)) ≡ fault ROW (count M.rows))
no_row ws cs columns M S r = ((to (answer ws cs columns r M S), λ h. ap (λ f. (fault_of f).number) (past ws cs columns M S r h)), λ h. ap (λ f. fault_of f) (past ws cs columns M S r h))
  where
    to : Answer ws cs columns r M → (fault_of (find ws (length cs) columns r)).number ≡ ROW → count M.rows ≤ r
    to (row_at start k x R lt f) e = absurd (omega (arith, ap (λ y. (fault_of y).number) f, e))
    to (no_such le f) e = le

-- The part "is empty when refused", of any words at all.
pub refused_empty : (ws : List ℕ) (constants columns r : ℕ) → ¬ ((fault_of (find ws constants columns r)).number ≡ 0)
    → (row_start ws constants columns r ≡ 0) × (row_length ws constants columns r ≡ 0) × (row_words ws constants columns r ≡ [])
unfolding row_start row_length row_words
refused_empty ws constants columns r h = go (outcome ws constants columns r)
  where
    nothing : (n : Reason) (p : ℕ) → find ws constants columns r ≡ refused n p
        → ((span_of (find ws constants columns r)).start ≡ 0) × ((span_of (find ws constants columns r)).end - (span_of (find ws constants columns r)).start ≡ 0)
        × (take ((span_of (find ws constants columns r)).end - (span_of (find ws constants columns r)).start) (drop (span_of (find ws constants columns r)).start ws) ≡ [])
    nothing n p g = (ap (λ f. (span_of f).start) g, ap (λ f. (span_of f).end - (span_of f).start) g, ap (λ f. take ((span_of f).end - (span_of f).start) (drop (span_of f).start ws)) g)

    by_row : (x : Option Span) (n : ℕ) → find ws constants columns r ≡ or_absent x n
        → ((span_of (find ws constants columns r)).start ≡ 0) × ((span_of (find ws constants columns r)).end - (span_of (find ws constants columns r)).start ≡ 0)
        × (take ((span_of (find ws constants columns r)).end - (span_of (find ws constants columns r)).start) (drop (span_of (find ws constants columns r)).start ws) ≡ [])
    by_row (Some s) n g = absurd (h (ap (λ f. (fault_of f).number) g))
    by_row None n g = nothing reason.Row n g

    go : Outcome ws constants columns r
        → ((span_of (find ws constants columns r)).start ≡ 0) × ((span_of (find ws constants columns r)).end - (span_of (find ws constants columns r)).start ≡ 0)
        × (take ((span_of (find ws constants columns r)).end - (span_of (find ws constants columns r)).start) (drop (span_of (find ws constants columns r)).start ws) ≡ [])
    go (in_shared p q g) = nothing reason.Model p g
    go (in_rows s a b u p q q' g) = nothing reason.Model p g
    go (in_end s a b u n c d x p q q' q'' g) = nothing reason.Model p g
    go (passed s a b u n c d x i j first second third g) = by_row x n g

-- 4. "Any two files that pass reading, whoever wrote them and whatever their numbers of columns, have equal words and bitwise equal constants exactly when they
-- stand for the same shared parts, rows and objective, term by term in order."
pub same_files : (ws cs ws' cs' : List ℕ) (columns columns' : ℕ) (M N : Model) → StandsFor ws cs columns M → StandsFor ws' cs' columns' N → ((ws ≡ ws') × (cs ≡ cs')) ↔ (M ≡ N)
same_files ws cs ws' cs' columns columns' M N s t = (
  λ h. model_unique ws cs columns columns' M N s (subst₂ (λ x y. StandsFor x y columns' N) (sym h.0) (sym h.1) t),
  λ e. (s.its_words ∙ ap model_words e ∙ sym t.its_words, s.its_constants ∙ ap model_constants e ∙ sym t.its_constants),
)

-- 5. "Whichever two expressions that have words are taken, the words of neither are a proper beginning of the other's", whichever running numbers their constants carry.
pub prefix_free : (e e' : Expr) (k k' : ℕ) (xs : List ℕ) → HasWords k e → HasWords k' e' → words k e ++ xs ≡ words k' e' → xs ≡ []
prefix_free = no_proper_beginning

-- a refusal with 17 has no part
pub seventeen : (ws : List ℕ) (constants columns r p : ℕ) → (fault_of (find ws constants columns r)) ≡ fault MODEL p → find ws constants columns r ≡ refused reason.Model p
seventeen ws constants columns r p e = go (outcome ws constants columns r)
  where
    at_place : (p' : ℕ) → find ws constants columns r ≡ refused reason.Model p' → find ws constants columns r ≡ refused reason.Model p
    at_place p' g = let z : p' ≡ p = sym (ap (λ f. (fault_of f).place) g) ∙ ap (λ f. f.place) e in g ∙ ap (refused reason.Model) z

    go : Outcome ws constants columns r → find ws constants columns r ≡ refused reason.Model p
    go (in_shared p' q g) = at_place p' g
    go (in_rows s a b u p' q q' g) = at_place p' g
    go (in_end s a b u n c d x p' q q' q'' g) = at_place p' g
    go (passed s a b u n c d x i j first second third g) = absurd (never_both x n (ap (λ f. (fault_of f).number) (sym g) ∙ ap (λ f. f.number) e))

-- 17 and its place are the same "whichever row is asked for".
pub any_row : (ws : List ℕ) (constants columns r r' p : ℕ) → (fault_of (find ws constants columns r)) ≡ fault MODEL p → (fault_of (find ws constants columns r')) ≡ fault MODEL p
any_row ws constants columns r r' p e = ap (λ f. fault_of f) (refused_any_row ws constants columns r r' p (seventeen ws constants columns r p e))

-- 6. The place of 17 is "first wrong word left to right, length if they run out, the end word if constants are left over". Said without the reader:
-- (a) The word at the place is wrong whatever follows: no file of as many constants and columns that passes begins with the words up to and with it.
pub wrong_word : (ws cs : List ℕ) (columns r p : ℕ) → (fault_of (find ws (length cs) columns r)) ≡ fault MODEL p → p < length ws
    → (rest cs' : List ℕ) (M : Model) → length cs' ≡ length cs → StandsFor (take (suc p) ws ++ rest) cs' columns M → ⊥
wrong_word ws cs columns r p e h rest cs' M n S =
    let l : length (take (suc p) ws) ≡ suc p = length-take-le (suc p) ws h in
    let l' = length-append (take (suc p) ws) rest in
    let like : (i : ℕ) → i < suc p → get_or (take (suc p) ws ++ rest) i 0 ≡ get_or ws i 0 = λ i lt. get_or-append (take (suc p) ws) rest 0 i (omega arith) ∙ get_or-take (suc p) ws i 0 lt in
    let f = refused_alike ws (take (suc p) ws ++ rest) (suc p) h (omega arith) like (length cs) columns r p (omega arith) (seventeen ws (length cs) columns r p e) in
    never_17 (take (suc p) ws ++ rest) cs' columns r M S (ap (λ x. (fault_of (find (take (suc p) ws ++ rest) x columns r)).number) n ∙ ap (λ y. (fault_of y).number) f)

-- (b) The words before the place are right: some file begins with them. It keeps all rules but three, and for each the smallest file shows that it can't always be kept:
-- it may have fewer constants (C0000000 10000000 with 1 constant, place 2: only D0000000 can follow, and then a constant is left over);
-- it may nest 9 deep, since an operator 8 deep is taken and the word after it is the wrong one (C0000000 and eight times 60000000, place 9);
-- it has a column, since without columns and constants there is no leaf (no words, place 0: no file passes).
pub right_before : (ws cs : List ℕ) (columns columns' r p : ℕ) → (fault_of (find ws (length cs) columns r)) ≡ fault MODEL p → columns ≤ columns' → 1 ≤ columns'
    → (p ≤ length ws) × ((M : Model) × (rest : List ℕ) × (cs' : List ℕ) × StandsWithin 9 (take p ws ++ rest) cs' columns' M × (length cs' ≤ length cs))
right_before ws cs columns columns' r p e le some =
    let B = begun_file ws cs columns columns' r p le some (seventeen ws (length cs) columns r p e) in
    (B.inside, (B.model, B.rest, B.values, B.stands, B.few))
