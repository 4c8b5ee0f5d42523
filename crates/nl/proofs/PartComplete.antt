-- Whatever parts stand at a place, the reader goes past them, and marks part r.
use mathlib.Core.Path.{◌≡◌, refl, ap, ◌∙◌}
use mathlib.Core.List.{List, [], ◌∷◌, ◌++◌, append_assoc}
use mathlib.Core.Bool.{true, false, cond}
use Prim.Native.Nat.{ℕ, zero, suc, ◌+◌, ◌≤◌, ◌<◌}
use native.Mathlib.Omega.{arith}
use native.Mathlib.Nat.{add-zero}
use lib.ListN.{length, drop, length-append}
use lib.Dec.{eqb}
use borrow.Author.Tests.{lt-ltb, eq-eqb, ne_eqb}
use Rattle.std.specs.Prelude.{Option}
use Rattle.base.specs.Word.{word, kind_of, load_of}
use Rattle.nl.specs.Finder.{found}
use Rattle.nl.specs.Expr.{load_limit, Expr, Terms, none, more, count, constants, constants_of, next, words}
use Rattle.nl.specs.File.{part_words, PartsRuled, depth_limit, join}
use Rattle.nl.specs.declared.reader.Span.{Span}
use Rattle.nl.specs.Reader.{stop, span, is_mark, read_parts}
use Rattle.nl.proofs.Words.{kind_word, load_word}
use Rattle.nl.proofs.Build.{drop_past, get_d_here}
use Rattle.nl.proofs.Complete.{inside, complete}

pub mark_here : (ws : List ℕ) (kind load at : ℕ) (rest : List ℕ) → load < load_limit → drop at ws ≡ word kind load ∷ rest → is_mark ws kind load at ≡ true
unfolding is_mark
mark_here ws kind load at rest h p =
    let w = get_d_here at ws (word kind load) rest p in
    rw (lt-ltb at (length ws) (inside at ws (word kind load) rest p), eq-eqb _ kind (ap kind_of w ∙ kind_word kind load h), eq-eqb _ load (ap load_of w ∙ load_word kind load h))

-- where the expression of a part stands that begins at `at`
abbrev pub span_at : ℕ → ℕ → Expr → Option Span
span_at at k e = span (at + 1) (at + 1 + length (words k e))

-- the same of part r, among parts from part i on that start at `at`; found where it is not among them
abbrev pub mark_in : ℕ → ℕ → ℕ → ℕ → Terms → Option Span → Option Span
mark_in r i at k none found = found
mark_in r i at k (more e ts) found = mark_in r (i + 1) (at + 1 + length (words k e)) (next k e) ts (cond (eqb i r) (span_at at k e) found)

module _ (kind r : ℕ) where
  pub mark_past : (ts : Terms) (i at k : ℕ) (found : Option Span) → r < i → mark_in r i at k ts found ≡ found
  mark_past none i at k found h = refl
  mark_past (more e ts) i at k found h =
      mark_past ts (i + 1) (at + 1 + length (words k e)) (next k e) (cond (eqb i r) (span_at at k e) found) (omega arith)
      ∙ ap (λ t. cond t (span_at at k e) found) (ne_eqb i r (λ z. omega arith))

  pub mark_beyond : (ts : Terms) (i at k : ℕ) (found : Option Span) → i + count ts ≤ r → mark_in r i at k ts found ≡ found
  mark_beyond none i at k found h = refl
  mark_beyond (more e ts) i at k found h =
      mark_beyond ts (i + 1) (at + 1 + length (words k e)) (next k e) (cond (eqb i r) (span_at at k e) found) (omega arith)
      ∙ ap (λ t. cond t (span_at at k e) found) (ne_eqb i r (λ z. omega arith))

  pub mark_at : (ps us : Terms) (e : Expr) (i at k : ℕ) (found : Option Span) → r ≡ i + count ps
      → mark_in r i at k (join ps (more e us)) found ≡ span_at (at + length (part_words kind i k ps)) (k + length (constants_of ps)) e
  unfolding part_words constants_of
  mark_at none us e i at k found h =
      mark_past us (i + 1) (at + 1 + length (words k e)) (next k e) (cond (eqb i r) (span_at at k e) found) (omega arith)
      ∙ ap (λ t. cond t (span_at at k e) found) (eq-eqb i r (omega arith)) ∙ rw (add-zero at, add-zero k)
  mark_at (more x ps) us e i at k found h =
      let a : at + 1 + length (words k x) + length (part_words kind (i + 1) (next k x) ps) ≡ at + length (word kind i ∷ words k x ++ part_words kind (i + 1) (next k x) ps) = omega (arith, length-append (words k x) (part_words kind (i + 1) (next k x) ps)) in
      let b : next k x + length (constants_of ps) ≡ k + length (constants x ++ constants_of ps) = omega (arith, length-append (constants x) (constants_of ps)) in
      rw (a, b) at (mark_at ps us e (i + 1) (at + 1 + length (words k x)) (next k x) (cond (eqb i r) (span_at at k x) found) (omega arith))

module _ (ws cs : List ℕ) (columns : ℕ) (named : ℕ → ℕ) (kind r : ℕ) where
  pub parts_complete : (ts : Terms) (n i at k : ℕ) (found : Option Span) (rest rest' : List ℕ) → PartsRuled depth_limit columns named i k ts → count ts ≤ n → drop at ws ≡ part_words kind i k ts ++ rest → drop k cs ≡ constants_of ts ++ rest'
      → (count ts < n → is_mark ws kind (i + count ts) (at + length (part_words kind i k ts)) ≡ false)
      → read_parts ws (length cs) columns named kind r n i at k found
      ≡ stop (i + count ts) (at + length (part_words kind i k ts)) (k + length (constants_of ts)) (mark_in r i at k ts found)
  unfolding part_words PartsRuled constants_of read_parts
  parts_complete none zero i at k found rest rest' h le p q last = rw (add-zero i, add-zero at, add-zero k)
  parts_complete none (suc n) i at k found rest rest' h le p q last =
      let s : is_mark ws kind i at ≡ false = rw (add-zero i, add-zero at) at (last (omega arith)) in
      rw (s, add-zero i, add-zero at, add-zero k)
  parts_complete (more e ts) zero i at k found rest rest' h le p q last = absurd (omega arith)
  parts_complete (more e ts) (suc n) i at k found rest rest' h le p q last =
      let p' : drop at ws ≡ word kind i ∷ words k e ++ (part_words kind (i + 1) (next k e) ts ++ rest) = p ∙ ap (λ x. word kind i ∷ x) (append_assoc (words k e) (part_words kind (i + 1) (next k e) ts) rest) in
      let q' : drop k cs ≡ constants e ++ (constants_of ts ++ rest') = q ∙ append_assoc (constants e) (constants_of ts) rest' in
      let m = mark_here ws kind i at _ h.0 p' in
      let p'' = drop_past at ws (word kind i ∷ []) _ p' in
      let r' = complete ws cs columns (named i) e depth_limit (at + 1) k _ _ h.1.loads h.1.names h.1.deep p'' q' in
      let la : at + 1 + length (words k e) + length (part_words kind (i + 1) (next k e) ts) ≡ at + length (word kind i ∷ words k e ++ part_words kind (i + 1) (next k e) ts) = omega (arith, length-append (words k e) (part_words kind (i + 1) (next k e) ts)) in
      let lc : next k e + length (constants_of ts) ≡ k + length (constants e ++ constants_of ts) = omega (arith, length-append (constants e) (constants_of ts)) in
      let li : i + 1 + count ts ≡ i + suc (count ts) = omega arith in
      let next-parts = parts_complete ts n (i + 1) (at + 1 + length (words k e)) (next k e) (cond (eqb i r) (span_at at k e) found) rest rest' h.2 (omega arith)
      (drop_past (at + 1) ws (words k e) _ p'') (drop_past k cs (constants e) _ q')
      (λ lt. rw (li, la) (last (omega arith))) in
      rw (m, r') (rw (li, la, lc) at next-parts)
