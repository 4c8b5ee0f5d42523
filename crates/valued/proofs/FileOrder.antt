-- "14 and 19 come in file order": such a refusal is that of the first part that has one, with its beginning word as the place.
use mathlib.Core.Path.{◌≡◌, refl, ap, sym, subst, ◌∙◌}
use mathlib.Core.List.{List, [], ◌∷◌, ◌++◌, append_assoc}
use mathlib.Core.Bool.{Bool, true, false}
use Prim.Native.Nat.{ℕ, ◌+◌}
use lib.ListN.{get_or, drop}
use lib.Dec.{eqb}
use lib.Ieee.{Float}
use borrow.Author.Tests.{eqb-true, eqb-false}
use Rattle.base.specs.Fault.{Fault}
use Rattle.base.specs.Fault.{clear, or_else}
use Rattle.base.specs.Order.{member}
use Rattle.base.specs.Refusal.{SWING, VALUE}
use Rattle.base.specs.Word.{word}
use Rattle.base.proofs.Firsts.{Clear, or_go, or_stop}
use Rattle.base.proofs.Scans.{or_none, or_assoc}
use Rattle.base.proofs.Order.{other_number}
use Rattle.nl.specs.Expr.{Expr, Terms, none, more, count, next, words}
use Rattle.nl.specs.File.{Model, part_words, at_rows, model_words, StandsFor}
use Rattle.nl.proofs.Build.{drop_past, get_d_here}
use Rattle.nl.proofs.Finds.{past_rows}
use Rattle.model_reading.specs.Place.{size, place_of, rows_at, objective_at}
use Rattle.model_reading.specs.Reading.{yields, reading}
use Rattle.model_reading.proofs.Standing.{size_any}
use Rattle.model_reading.proofs.Reading.{yields_exactly}
use Rattle.expression.specs.Value.{value, patterns}
use Rattle.row_values.specs.Answer.{value_fault, shared_values, shared_fault, rows_fault, values_fault, refusal, refused_by}
use Rattle.row_values.proofs.Answers.{value_proper}
use Rattle.valued.specs.FileParts.{Part, part, All, shared_parts_from, row_parts_from, parts_of, fault_of, FirstPart, Begins}
use Rattle.valued.proofs.Laws.{says_none}
use Rattle.valued.proofs.Order.{refusal_first}

all_append : (P : Part → Type 0) (ps qs : List Part) → All P ps → All P qs → All P (ps ++ qs)
all_append P [] qs h k = k
all_append P (p ∷ ps) qs h k = (h.0, all_append P ps qs h.1 k)

all_at : (P : Part → Type 0) (before after : List Part) (p : Part) → All P (before ++ (p ∷ after)) → P p
all_at P [] after p h = h.0
all_at P (q ∷ before) after p h = all_at P before after p h.1

module _ (point : List Float) where
  abbrev first_fault : List Part → Fault
  first_fault [] = clear
  first_fault (p ∷ ps) = or_else (fault_of point p) (first_fault ps)

  first_part : (ps : List Part) → (Clear (first_fault ps) → ⊥) → FirstPart point ps (first_fault ps)
  first_part [] c = absurd (c refl)
  first_part (p ∷ ps) c = go (eqb (fault_of point p).number 0) refl (first_part ps)
    where
      go : (b : Bool) → eqb (fault_of point p).number 0 ≡ b → ((Clear (first_fault ps) → ⊥) → FirstPart point ps (first_fault ps)) → FirstPart point (p ∷ ps) (or_else (fault_of point p) (first_fault ps))
      go true e k =
          let z : Clear (fault_of point p) = eqb-true _ 0 e in
          let o = or_go (fault_of point p) (first_fault ps) z in
          let r = k (λ y. c (rw o y)) in
          let s = (says_none point p.named p.at p.expr).0 z in
          record {
            before = p ∷ r.before;
            its = r.its;
            after = r.after;
            splits = ap (λ l. p ∷ l) r.splits;
            spared = (record { ranges = s.0; finite = s.1 }, r.spared);
            answer = o ∙ r.answer;
          }
      go false e k = record {
        before = [];
        its = p;
        after = ps;
        splits = refl;
        spared = tt;
        answer = or_stop (fault_of point p) (first_fault ps) (eqb-false _ 0 e);
      }

  shared_first : (ts : Terms) (i at : ℕ) (values : List Float) (later : List Part) → first_fault (shared_parts_from point i at values ts ++ later) ≡ or_else (shared_fault point at values ts) (first_fault later)
  shared_first none i at values later = sym (or_go clear (first_fault later) refl)
  shared_first (more e ts) i at values later =
      ap (or_else (value_fault point values at e)) (shared_first ts (i + 1) (at + 1 + size e) (values ++ (value point values e ∷ [])) later)
      ∙ sym (or_assoc (value_fault point values at e) (shared_fault point (at + 1 + size e) (values ++ (value point values e ∷ [])) ts) (first_fault later))

  rows_first : (values : List Float) (ts : Terms) (i at : ℕ) (later : List Part) → first_fault (row_parts_from point i at values ts ++ later) ≡ or_else (rows_fault point at values ts) (first_fault later)
  rows_first values none i at later = sym (or_go clear (first_fault later) refl)
  rows_first values (more e ts) i at later =
      ap (or_else (value_fault point values at e)) (rows_first values ts (i + 1) (at + 1 + size e) later)
      ∙ sym (or_assoc (value_fault point values at e) (rows_fault point (at + 1 + size e) values ts) (first_fault later))

  values_are : (M : Model) → values_fault point M ≡ first_fault (parts_of point M)
  unfolding values_fault
  values_are M =
      let values = shared_values point [] M.shared in
      let last = part 12 0 (objective_at M) values M.objective in
      sym (shared_first M.shared 0 0 [] _
      ∙ ap (or_else (shared_fault point 0 [] M.shared)) (rows_first values M.rows 0 (rows_at M) (last ∷ [])
      ∙ ap (or_else (rows_fault point (rows_at M) values M.rows)) (or_none (fault_of point last) (value_proper point values (objective_at M) M.objective))))

  pub values_first : (M : Model) → (Clear (values_fault point M) → ⊥) → FirstPart point (parts_of point M) (values_fault point M)
  values_first M c =
      let e = values_are M in
      rw e (first_part (parts_of point M) (λ z. c (rw e z)))

  -- 14 or 19 of a file
  pub part_refused : (columns lent_shared lent_rows : ℕ) (M : Model) → member (refusal columns point lent_shared lent_rows (yields M)).number (SWING ∷ VALUE ∷ []) ≡ true
      → FirstPart point (parts_of point M) (refusal columns point lent_shared lent_rows (yields M))
  part_refused columns lent_shared lent_rows M h =
      let f = refusal columns point lent_shared lent_rows (yields M) in
      let c : Clear f → ⊥ = other_number f.number 0 (SWING ∷ VALUE ∷ []) h refl in
      let e : f ≡ values_fault point M = (refusal_first columns point lent_shared lent_rows (yields M) c).says.2.2.2.0 h in
      rw e (values_first M (λ z. c (rw e z)))

-- ---- the places

module _ (ws : List ℕ) where
  module _ (kind i at k : ℕ) (e : Expr) (ts : Terms) (rest : List ℕ) (p : drop at ws ≡ part_words kind i k (more e ts) ++ rest) where
    begins_here : get_or ws at 0 ≡ word kind i
    unfolding part_words
    begins_here = get_d_here at ws (word kind i) _ p

    begins_next : drop (at + 1 + size e) ws ≡ part_words kind (i + 1) (next k e) ts ++ rest
    unfolding part_words
    begins_next =
        ap (λ n. drop (at + 1 + n) ws) (size_any e 0 k)
        ∙ drop_past (at + 1) ws (words k e) _ (drop_past at ws (word kind i ∷ []) _ p ∙ append_assoc (words k e) (part_words kind (i + 1) (next k e) ts) rest)

  after_parts_is : (kind : ℕ) (ts : Terms) (i at k : ℕ) (rest : List ℕ) → drop at ws ≡ part_words kind i k ts ++ rest → drop (place_of (count ts) at ts) ws ≡ rest
  unfolding part_words
  after_parts_is kind none i at k rest p = p
  after_parts_is kind (more e ts) i at k rest p = after_parts_is kind ts (i + 1) (at + 1 + size e) (next k e) rest (begins_next kind i at k e ts rest p)

  module _ (point : List Float) where
    shared_begin : (ts : Terms) (i at k : ℕ) (values : List Float) (rest : List ℕ) → drop at ws ≡ part_words 10 i k ts ++ rest → All (Begins ws) (shared_parts_from point i at values ts)
    shared_begin none i at k values rest p = tt
    shared_begin (more e ts) i at k values rest p =
        (begins_here 10 i at k e ts rest p, shared_begin ts (i + 1) (at + 1 + size e) (next k e) (values ++ (value point values e ∷ [])) rest (begins_next 10 i at k e ts rest p))

    rows_begin : (values : List Float) (ts : Terms) (i at k : ℕ) (rest : List ℕ) → drop at ws ≡ part_words 11 i k ts ++ rest → All (Begins ws) (row_parts_from point i at values ts)
    rows_begin values none i at k rest p = tt
    rows_begin values (more e ts) i at k rest p =
        (begins_here 11 i at k e ts rest p, rows_begin values ts (i + 1) (at + 1 + size e) (next k e) rest (begins_next 11 i at k e ts rest p))

    parts_begin : (cs : List ℕ) (columns : ℕ) (M : Model) → StandsFor ws cs columns M → All (Begins ws) (parts_of point M)
    unfolding model_words
    parts_begin cs columns M S =
        let values = shared_values point [] M.shared in
        let shared_part = shared_parts_from point 0 0 [] M.shared in
        let row_part = row_parts_from point 0 (rows_at M) values M.rows in
        let after = after_parts_is 10 M.shared 0 0 0 (part_words 11 0 (at_rows M) M.rows ++ past_rows M) S.its_words in
        let last = after_parts_is 11 M.rows 0 (rows_at M) (at_rows M) (past_rows M) after in
        all_append (Begins ws) shared_part _ (shared_begin M.shared 0 0 0 [] _ S.its_words)
        (all_append (Begins ws) row_part _ (rows_begin values M.rows 0 (rows_at M) (at_rows M) (past_rows M) after) (get_d_here (objective_at M) ws (word 12 0) _ last, tt))

module _ (ws : List ℕ) (xs : List Float) (columns : ℕ) (point : List Float) (lent_shared lent_rows : ℕ) (M : Model) (e : reading ws (patterns xs) columns ≡ yields M) where
  -- 14 or 19 is the first part's that has one, and its place is that of a word that begins a shared part, a row or the objective
  pub refused_part : member (refused_by ws xs columns point lent_shared lent_rows).number (SWING ∷ VALUE ∷ []) ≡ true
      → (p : FirstPart point (parts_of point M) (refused_by ws xs columns point lent_shared lent_rows)) × Begins ws p.its
  refused_part h =
      let f : refused_by ws xs columns point lent_shared lent_rows ≡ refusal columns point lent_shared lent_rows (yields M) = ap (refusal columns point lent_shared lent_rows) e in
      let p = part_refused point columns lent_shared lent_rows M (ap (λ x. member x.number (SWING ∷ VALUE ∷ [])) (sym f) ∙ h) in
      let stands = (yields_exactly ws (patterns xs) columns M).0 e in
      (rw f p, all_at (Begins ws) p.before p.after p.its (subst (All (Begins ws)) p.splits (parts_begin ws point (patterns xs) columns M stands)))
