-- Reading yields M exactly where the file stands for M, and is wrong exactly where the finder says 17, at the same place.
use mathlib.Core.Path.{◌≡◌, refl, ap, ap₂, sym, ◌∙◌, subst}
use mathlib.Core.List.{List, [], ◌++◌, append-nil}
use mathlib.Core.Logic.{◌↔◌}
use mathlib.Core.Bool.{Bool, true, false, cond}
use Prim.Native.Nat.{ℕ, suc, ◌+◌, ◌-◌, ◌≤◌, ◌<◌}
use native.Mathlib.Omega.{arith}
use native.Mathlib.Nat.{add-zero, zero-add}
use lib.ListN.{length, drop, length-append}
use lib.Dec.{eqb}
use borrow.Author.Tests.{eqb-true, eqb-false}
use Rattle.std.specs.Prelude.{Option, None, Ok, Err}
use Rattle.base.specs.declared.refusal.Reason.TheVariants as reason
use Rattle.base.specs.Fault.{fault, fault_of}
use Rattle.base.specs.Refusal.{MODEL}
use Rattle.nl.specs.declared.reader.Span.{Span}
use Rattle.nl.specs.Expr.{Terms, none, more, count, constants, constants_of, next, words}
use Rattle.nl.specs.File.{Model, part_words, at_rows, at_objective, model_words, model_constants, StandsFor}
use Rattle.nl.specs.Finder.{refused, find}
use Rattle.nl.specs.Reader.{Read, span, read_after, read_file}
use Rattle.nl.specs.Reader as reader
use Rattle.nl.proofs.Build.{drop_past}
use Rattle.nl.proofs.Condition3.{any_row, seventeen}
use Rattle.nl.proofs.Finds.{all, end_complete, rows_words, rows_values, rows_from, past_rows, never_both}
use Rattle.nl.proofs.PartComplete.{span_at, mark_in, mark_past, mark_beyond}
use Rattle.nl.proofs.PartSound.{Outcome, in_shared, in_rows, in_end, passed, outcome, file_sound}
use Rattle.nl.proofs.Steps.{same_place}
use Rattle.nl.proofs.Unique.{other_shared, other_objective}
use Rattle.model_reading.specs.declared.FileLayout.{FileLayout}
use Rattle.model_reading.specs.Parse.{part}
use Rattle.model_reading.specs.Place.{size, place_of, rows_at, objective_at}
use Rattle.model_reading.specs.Reading.{shared_limit, file_layout, model_at, read_as, yields, wrong, reading}
use Rattle.model_reading.proofs.Standing.{size_any, part_words_is, Standing, parts_stand, parse_parts}

-- the model that is parsed at a layout's numbers and places
abbrev pub model_of : List ℕ → List ℕ → FileLayout → Model
model_of ws cs l = model_at ws cs l.shared l.rows l.rows_at l.objective_at

-- the first shared part too many begins at that place
abbrev pub BeginsAt : Option Span → ℕ → Type 0
BeginsAt extra at = (end : ℕ) × (extra ≡ span (at + 1) end)

-- a layout is that of a file that stands for the model that is parsed there
pub record ParsedAs (ws cs : List ℕ) (columns : ℕ) (l : FileLayout) : Type 0 where
  pub stands : StandsFor ws cs columns (model_of ws cs l)
  pub shared_count : count (model_of ws cs l).shared ≡ l.shared
  pub rows_count : count (model_of ws cs l).rows ≡ l.rows
  pub shared_stand : Standing ws cs 0 (model_of ws cs l).shared
  pub rows_stand : Standing ws cs l.rows_at (model_of ws cs l).rows
  pub rows_at_is : l.rows_at ≡ place_of l.shared 0 (model_of ws cs l).shared
  pub objective_at_is : l.objective_at ≡ place_of l.rows l.rows_at (model_of ws cs l).rows
  pub extra_at : shared_limit < l.shared → BeginsAt l.extra (place_of shared_limit 0 (model_of ws cs l).shared)

-- where parts end, by their words
end_place : (kind : ℕ) (ts : Terms) (i at k : ℕ) → at + length (part_words kind i k ts) ≡ place_of (count ts) at ts
unfolding part_words
end_place kind none i at k = add-zero at
end_place kind (more e ts) i at k =
    let l : at + suc (length (words k e ++ part_words kind (i + 1) (next k e) ts)) ≡ at + 1 + size e + length (part_words kind (i + 1) (next k e) ts) =
    omega (arith, length-append (words k e) (part_words kind (i + 1) (next k e) ts), size_any e k 0) in
    l ∙ end_place kind ts (i + 1) (at + 1 + size e) (next k e)

-- the reader finds part r where it is
mark_place : (r : ℕ) (ts : Terms) (i at k : ℕ) (found : Option Span) → i ≤ r → r < i + count ts → BeginsAt (mark_in r i at k ts found) (place_of (r - i) at ts)
mark_place r none i at k found h l = absurd (omega arith)
mark_place r (more e ts) i at k found h l = go (mark_place r ts (i + 1) (at + 1 + length (words k e)) (next k e) found) (eqb i r) refl
  where
    go : (i + 1 ≤ r → r < i + 1 + count ts → BeginsAt (mark_in r (i + 1) (at + 1 + length (words k e)) (next k e) ts found) (place_of (r - (i + 1)) (at + 1 + length (words k e)) ts))
        → (b : Bool) → eqb i r ≡ b
        → BeginsAt (mark_in r (i + 1) (at + 1 + length (words k e)) (next k e) ts (cond b (span_at at k e) found)) (place_of (r - i) at (more e ts))
    go rec true q =
        let z : r - i ≡ 0 = omega (arith, eqb-true i r q) in
        let place : at ≡ place_of (r - i) at (more e ts) = ap (λ x. place_of x at (more e ts)) (sym z) in
        (at + 1 + length (words k e), rw (← place) (mark_past 0 r ts (i + 1) (at + 1 + length (words k e)) (next k e) (span_at at k e) (omega (arith, eqb-true i r q))))
    go rec false q =
        let ne = eqb-false i r q in
        let z : r - i ≡ suc (r - (i + 1)) = omega arith in
        let place : place_of (r - (i + 1)) (at + 1 + length (words k e)) ts ≡ place_of (r - i) at (more e ts) =
        ap (λ x. place_of (r - (i + 1)) (at + 1 + x) ts) (size_any e k 0) ∙ ap (λ x. place_of x at (more e ts)) (sym z) in
        let (end, its) = rec (omega arith) (omega arith) in
        (end, rw (← place) its)

-- ---- a file that stands for M

-- what the layout has for the first shared part too many: its expression where there is one, and nothing else
abbrev pub extra_place : Model → Option Span
extra_place M = mark_in shared_limit 0 0 0 M.shared None

pub extra_place_is : (M : Model) → shared_limit < count M.shared → BeginsAt (extra_place M) (place_of shared_limit 0 M.shared)
extra_place_is M h = mark_place shared_limit M.shared 0 0 0 None (omega arith) (omega arith)

pub no_extra_place : (M : Model) → count M.shared ≤ shared_limit → extra_place M ≡ None
no_extra_place M h = mark_beyond 10 shared_limit M.shared 0 0 0 None (omega arith)

-- where it has its parts
abbrev pub layout_of : Model → FileLayout
layout_of M = record { shared = count M.shared; rows = count M.rows; rows_at = rows_at M; objective_at = objective_at M; extra = extra_place M }

module _ (ws cs : List ℕ) (columns : ℕ) (M : Model) (S : StandsFor ws cs columns M) where
  from : rows_from M ≡ rows_at M
  from = sym (zero-add (rows_from M)) ∙ end_place 10 M.shared 0 0 0

  to : rows_from M + length (part_words 11 0 (at_rows M) M.rows) ≡ objective_at M
  to = end_place 11 M.rows 0 (rows_from M) (at_rows M) ∙ ap (λ x. place_of (count M.rows) x M.rows) from

  objective_words_is : drop (rows_from M + length (part_words 11 0 (at_rows M) M.rows)) ws ≡ past_rows M
  objective_words_is = drop_past (rows_from M) ws (part_words 11 0 (at_rows M) M.rows) _ (rows_words ws cs columns M S)

  objective_values : drop (at_objective M) cs ≡ constants M.objective ++ []
  objective_values = drop_past (at_rows M) cs (constants_of M.rows) _ (rows_values ws cs columns M S) ∙ sym (append-nil _)

  pub layout_is : file_layout ws (length cs) columns ≡ Ok (layout_of M)
  unfolding model_words model_constants file_layout read_file read_after
  layout_is =
      let sh = M.shared in
      let rs = M.rows in
      let words-after = part_words 11 0 (at_rows M) rs ++ past_rows M in
      let a =
      rw (zero-add (rows_from M), zero-add (at_rows M)) at
      (all ws cs columns (λ i. i) 10 shared_limit 0 0 sh _ _ S.shared_ruled (omega arith) S.its_words S.its_constants (other_shared _ rs _)) in
      let le : rows_from M ≤ length ws = omega (arith, ap length S.its_words, length-append (part_words 10 0 0 sh) words-after) in
      let b = all ws cs columns (λ i. count sh) 11 shared_limit (rows_from M) (at_rows M) rs _ _ S.rows_ruled le (rows_words ws cs columns M S) (rows_values ws cs columns M S) (other_objective []) in
      let c1 = length-append (constants_of sh) (constants_of rs ++ constants M.objective) in
      let kl : at_objective M ≤ length cs = omega (arith, ap length S.its_constants, c1, length-append (constants_of rs) (constants M.objective)) in
      let end = rows_from M + length (part_words 11 0 (at_rows M) rs) in
      let e = end_complete ws cs columns (count sh) end (at_objective M) M.objective S.objective_ruled objective_words_is objective_values kl in
      rw (a, b, e) (ap₂ (λ x y. Ok (record { shared = count sh; rows = count rs; rows_at = x; objective_at = y; extra = extra_place M })) from to)

  shared_stands : Standing ws cs 0 M.shared
  unfolding model_words model_constants
  shared_stands = parts_stand ws cs columns (λ i. i) 10 M.shared 0 0 0 _ _ S.shared_ruled S.its_words S.its_constants

  rows_stands : Standing ws cs (rows_at M) M.rows
  rows_stands =
      subst (λ x. Standing ws cs x M.rows) from
      (parts_stand ws cs columns (λ i. count M.shared) 11 M.rows 0 (rows_from M) (at_rows M) _ _ S.rows_ruled (rows_words ws cs columns M S) (rows_values ws cs columns M S))

  objective_stands : (part ws cs (objective_at M)).expr ≡ M.objective
  objective_stands =
      ap (λ x. (part ws cs x).expr) (sym to)
      ∙ ap (λ x. x.expr) (part_words_is ws cs M.objective 12 0 _ (at_objective M) _ _ S.objective_ruled.loads S.objective_ruled.deep objective_words_is objective_values)

  model_is : model_at ws cs (count M.shared) (count M.rows) (rows_at M) (objective_at M) ≡ M
  model_is =
      let a = ap (λ x. x.terms) (parse_parts ws cs M.shared 0 shared_stands) in
      let b = ap (λ x. x.terms) (parse_parts ws cs M.rows (rows_at M) rows_stands) in
      λ i. record { shared = a i; rows = b i; objective = objective_stands i }

  yields_it : reading ws cs columns ≡ yields M
  unfolding reading
  yields_it = rw layout_is (ap yields model_is)

  reads_as : ParsedAs ws cs columns (layout_of M)
  reads_as = record {
    stands = subst (StandsFor ws cs columns) (sym model_is) S;
    shared_count = ap (λ N. count N.shared) model_is;
    rows_count = ap (λ N. count N.rows) model_is;
    shared_stand = subst (λ N. Standing ws cs 0 N.shared) (sym model_is) shared_stands;
    rows_stand = subst (λ N. Standing ws cs (rows_at M) N.rows) (sym model_is) rows_stands;
    rows_at_is = ap (λ N. place_of (count M.shared) 0 N.shared) (sym model_is);
    objective_at_is = ap (λ N. place_of (count M.rows) (rows_at M) N.rows) (sym model_is);
    extra_at = λ h. subst (λ N. BeginsAt (extra_place M) (place_of shared_limit 0 N.shared)) (sym model_is) (extra_place_is M h);
  }

-- ---- a file whose layout is read stands for a model

pub layout_stands : (ws cs : List ℕ) (columns : ℕ) (l : FileLayout) → file_layout ws (length cs) columns ≡ Ok l → (M : Model) × StandsFor ws cs columns M
unfolding file_layout read_file read_after
layout_stands ws cs columns l e = file_sound ws cs columns shared_limit (go (outcome ws (length cs) columns shared_limit))
  where
    clash : {A : Type 0} (p : ℕ) → file_layout ws (length cs) columns ≡ reader.wrong p → A
    clash p q = let r : reader.wrong p ≡ Ok l = sym q ∙ e in absurd (cc)

    go : Outcome ws (length cs) columns shared_limit → ¬ ((fault_of (find ws (length cs) columns shared_limit)).number ≡ MODEL)
    go (in_shared p q f) = clash p (rw q)
    go (in_rows s a b u p q q' f) = clash p (rw (q, q'))
    go (in_end s a b u m c d x p q q' q'' f) = clash p (rw (q, q', q''))
    go (passed s a b u m c d x i j first second third g) = λ h. never_both x m (sym (ap (λ f. (fault_of f).number) g) ∙ h)

abbrev LayoutReads : List ℕ → List ℕ → ℕ → Read FileLayout → Type 0
LayoutReads ws cs columns (Ok l) = ParsedAs ws cs columns l
LayoutReads ws cs columns (Err w) = Unit {0}

pub layout_sound : (ws cs : List ℕ) (columns : ℕ) (l : FileLayout) → file_layout ws (length cs) columns ≡ Ok l → ParsedAs ws cs columns l
layout_sound ws cs columns l e =
    let (M, S) = layout_stands ws cs columns l e in
    subst (LayoutReads ws cs columns) (sym (layout_is ws cs columns M S) ∙ e) (reads_as ws cs columns M S)

-- ---- the laws of reading

yields_same : (M N : Model) → yields M ≡ yields N → M ≡ N
yields_same M N e = cc

-- it yields M exactly where the file stands for M
pub yields_exactly : (ws cs : List ℕ) (columns : ℕ) (M : Model) → (reading ws cs columns ≡ yields M) ↔ StandsFor ws cs columns M
unfolding reading
yields_exactly ws cs columns M = (back (file_layout ws (length cs) columns) refl, yields_it ws cs columns M)
  where
    back : (l : Read FileLayout) → file_layout ws (length cs) columns ≡ l → reading ws cs columns ≡ yields M → StandsFor ws cs columns M
    back (Ok l) q e =
        let r : yields (model_of ws cs l) ≡ yields M = sym (rw q) ∙ e in
        subst (StandsFor ws cs columns) (yields_same _ M r) (layout_sound ws cs columns l q).stands
    back (Err w) q e = let r : wrong w.place ≡ yields M = sym (rw q) ∙ e in absurd (cc)

module _ (ws : List ℕ) (constants columns p : ℕ) where
  -- a layout fails where the finder, asked for that row, says 17
  failed_as : (file_layout ws constants columns ≡ reader.wrong p) ↔ (find ws constants columns shared_limit ≡ refused reason.Model p)
  unfolding file_layout read_file read_after
  failed_as = by (outcome ws constants columns shared_limit)
    where
      at_place : (q : ℕ) → file_layout ws constants columns ≡ reader.wrong q → find ws constants columns shared_limit ≡ refused reason.Model q
          → (file_layout ws constants columns ≡ reader.wrong p) ↔ (find ws constants columns shared_limit ≡ refused reason.Model p)
      at_place q l f = (
        λ e. let z : q ≡ p = same_place q p (sym l ∙ e) in f ∙ ap (refused reason.Model) z,
        λ e. let z : q ≡ p = sym (ap (λ x. (fault_of x).place) f) ∙ ap (λ x. (fault_of x).place) e in l ∙ ap reader.wrong z,
      )

      by : Outcome ws constants columns shared_limit → (file_layout ws constants columns ≡ reader.wrong p) ↔ (find ws constants columns shared_limit ≡ refused reason.Model p)
      by (in_shared q a f) = at_place q (rw a) f
      by (in_rows s a b u q c c' f) = at_place q (rw (c, c')) f
      by (in_end s a b u m c d x q g g' g'' f) = at_place q (rw (g, g', g'')) f
      by (passed s a b u m c d x i j first second third g) = (
        λ e.
            let l : file_layout ws constants columns ≡ Ok (record { shared = s; rows = m; rows_at = a; objective_at = c; extra = u }) = rw (first, second, third) in
            let r : Ok _ ≡ reader.wrong p = sym l ∙ e in absurd (cc),
        λ e. absurd (never_both x m (ap (λ f. (fault_of f).number) (sym g) ∙ ap (λ f. (fault_of f).number) e)),
      )

wrong_layout : (ws cs : List ℕ) (p : ℕ) (l : Read FileLayout) → (read_as ws cs l ≡ wrong p) ↔ (l ≡ reader.wrong p)
wrong_layout ws cs p (Ok l) = (λ e. absurd (cc), λ e. absurd (cc))
wrong_layout ws cs p (Err w) = (
  λ e. let z : w.place ≡ p = cc in ap reader.wrong z,
  λ e. ap wrong (same_place w.place p e),
)

-- it is wrong at p exactly where the layout fails there
pub wrong_failed : (ws cs : List ℕ) (columns p : ℕ) → (reading ws cs columns ≡ wrong p) ↔ (file_layout ws (length cs) columns ≡ reader.wrong p)
unfolding reading
wrong_failed ws cs columns p = wrong_layout ws cs p (file_layout ws (length cs) columns)

-- and exactly where the finder says 17 with that place, "whichever row is asked for"
pub wrong_exactly : (ws cs : List ℕ) (columns r p : ℕ) → (reading ws cs columns ≡ wrong p) ↔ (fault_of (find ws (length cs) columns r) ≡ fault MODEL p)
wrong_exactly ws cs columns r p =
    let w = wrong_failed ws cs columns p in
    let o = failed_as ws (length cs) columns p in (
      λ e. any_row ws (length cs) columns shared_limit r p (ap (λ f. fault_of f) (o.0 (w.0 e))),
      λ e. w.1 (o.1 (seventeen ws (length cs) columns shared_limit p (any_row ws (length cs) columns r shared_limit p e))),
    )
