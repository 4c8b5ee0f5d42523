-- From places to the model: a file that was gone through has the values, the faults and the refusal that Answer says.
use mathlib.Core.Path.{◌≡◌, refl, ap, ap₂, sym, ◌∙◌}
use mathlib.Core.List.{List, [], ◌∷◌, ◌++◌}
use mathlib.Core.Bool.{Bool, true, false}
use Prim.Native.Nat.{ℕ, suc, ◌+◌, ◌≤◌}
use native.Mathlib.Omega.{arith}
use lib.ListN.{length, length-map}
use lib.Dec.{leb}
use lib.Ieee.{Float, binary64, to_bits}
use borrow.Author.Tests.{leb-true, leb-false}
use Rattle.std.specs.Prelude.{None, Result, Ok, Err}
use Rattle.base.specs.declared.refusal.Reason.TheVariants as reason
use Rattle.base.specs.declared.refusal.Refusal.{Refusal}
use Rattle.base.specs.Fault.{Fault, clear, unless, or_else, shown, fault_of}
use Rattle.base.proofs.Firsts.{Proper, or_go, or_stop, or_proper}
use Rattle.base.proofs.Refusals.{shown_number, link_err, link_ok}
use Rattle.nl.specs.declared.reader.WrongWord.{WrongWord}
use Rattle.nl.specs.Expr.{Expr, Terms, none, more, count}
use Rattle.nl.specs.File.{Model}
use Rattle.nl.specs.Finder.{refusal_of}
use Rattle.lists.specs.Finite.{point_fault}
use Rattle.lists.proofs.Point.{length_place}
use Rattle.model_reading.specs.declared.Counts.{Counts}
use Rattle.model_reading.specs.declared.FileLayout.{FileLayout}
use Rattle.model_reading.specs.Place.{size, place_of, rows_at, objective_at}
use Rattle.model_reading.specs.Reading.{shared_limit, file_layout, Reading, yields, wrong, reading}
use Rattle.model_reading.specs.Counts.{counts_of, row_counts, counts_or_none}
use Rattle.model_reading.proofs.Standing.{Standing}
use Rattle.model_reading.proofs.Reading.{model_of, ParsedAs, layout_sound}
use Rattle.model_reading.proofs.RowCounts.{counts_wrong, counts_yield, counts_size}
use Rattle.expression.specs.Value.{value, values_of, in_range, patterns}
use Rattle.row_values.specs.declared.scan.File.{File}
use Rattle.row_values.specs.Answer.{value_fault, shared_values, shared_fault, rows_fault, values_fault, size_fault, room_of, room_fault, refusal, all_shared, all_rows, objective_value}
use Rattle.row_values.specs.internal.Run.{part_value, part_fault, shared_pass, rows_pass, rows_of, FileRun, first_refusal, Accepted}
use Rattle.row_values.proofs.Passes.{refused_proper}
use Rattle.row_values.proofs.Room.{has_room}

-- ---- how many

pub length_values : (point values : List Float) (ts : Terms) → length (values_of point values ts) ≡ count ts
unfolding values_of
length_values point values none = refl
length_values point values (more e ts) = ap suc (length_values point values ts)

module _ (ws : List ℕ) (xs point : List Float) where
  -- ---- faults by places are the model's

  shared_standing : (ts : Terms) (at : ℕ) (values : List Float) → Standing ws (patterns xs) at ts
      → shared_pass ws xs point (count ts) at values ≡ shared_fault point at values ts
  unfolding shared_pass
  shared_standing none at values h = refl
  shared_standing (more e ts) at values h = rw h.0 (ap (or_else (value_fault point values at e)) (shared_standing ts (at + 1 + size e) (values ++ (value point values e ∷ [])) h.1))

  rows_standing : (values : List Float) (ts : Terms) (at : ℕ) → Standing ws (patterns xs) at ts → rows_pass ws xs point values (count ts) at ≡ rows_fault point at values ts
  unfolding rows_pass
  rows_standing values none at h = refl
  rows_standing values (more e ts) at h = rw h.0 (ap (or_else (value_fault point values at e)) (rows_standing values ts (at + 1 + size e) h.1))

  module _ (columns : ℕ) (l : FileLayout) (P : ParsedAs ws (patterns xs) columns l) where
    abbrev M : Model
    M = model_of ws (patterns xs) l

    abbrev values : List Float
    values = shared_values point [] M.shared

    rows_place : l.rows_at ≡ rows_at M
    rows_place = P.rows_at_is ∙ ap (λ k. place_of k 0 M.shared) (sym P.shared_count)

    objective_place : l.objective_at ≡ objective_at M
    objective_place = P.objective_at_is ∙ ap₂ (λ k p. place_of k p M.rows) (sym P.rows_count) rows_place

    faults_are : or_else (shared_pass ws xs point l.shared 0 []) (or_else (rows_pass ws xs point values l.rows l.rows_at) (part_fault ws xs point values l.objective_at)) ≡ values_fault point M
    unfolding values_fault
    faults_are =
        let a = ap (λ k. shared_pass ws xs point k 0 []) (sym P.shared_count) ∙ shared_standing M.shared 0 [] P.shared_stand in
        let b = ap (λ k. rows_pass ws xs point values k l.rows_at) (sym P.rows_count) ∙ rows_standing values M.rows l.rows_at P.rows_stand ∙ ap (λ p. rows_fault point p values M.rows) rows_place in
        let c = ap (λ p. value_fault point values p M.objective) objective_place in
        ap₂ or_else a (ap₂ or_else b c)

  -- ---- the refusal, by what reading without a point tells

  module _ (columns : ℕ) where
    abbrev R : Reading
    R = reading ws (patterns xs) columns

    abbrev counts : Result Counts Refusal
    counts = row_counts ws (length xs) columns

    as_many : length (patterns xs) ≡ length xs
    as_many = length-map xs (to_bits binary64)

    read_passed : (l : FileLayout) → file_layout ws (length xs) columns ≡ Ok l → R ≡ yields (model_of ws (patterns xs) l)
    unfolding reading
    read_passed l e = rw (as_many, e)

    module _ (lent : Counts) where
      abbrev refuses : Fault
      refuses = first_refusal ws xs columns point lent

      -- 14 and 19 of what is read
      abbrev values_of_read : Reading → Fault
      values_of_read (wrong p) = clear
      values_of_read (yields N) = values_fault point N

      abbrev after_counts : Counts → Reading → Fault
      after_counts c r = or_else (room_of c.shared c.rows lent.shared lent.rows) (or_else (point_fault point columns) (values_of_read r))

      by_counts : refuses ≡ or_else (fault_of counts) (after_counts (counts_or_none counts) R)
      unfolding refusal or_else unless
      by_counts = go R refl
        where
          same : row_counts ws (length (patterns xs)) columns ≡ counts
          same = ap (λ k. row_counts ws k columns) as_many

          go : (r : Reading) → R ≡ r → refuses ≡ or_else (fault_of counts) (after_counts (counts_or_none counts) R)
          go (wrong p) e = rw (← same, e, counts_wrong ws (patterns xs) columns p e)
          go (yields N) e = sized (leb (count N.shared) shared_limit) refl
            where
              sized : (b : Bool) → leb (count N.shared) shared_limit ≡ b → refuses ≡ or_else (fault_of counts) (after_counts (counts_or_none counts) R)
              sized true h = rw (← same, e, counts_yield ws (patterns xs) columns N e (leb-true (count N.shared) shared_limit h), h)
              sized false h = rw (← same, e, counts_size ws (patterns xs) columns N e (leb-false (count N.shared) shared_limit h), h)

      -- 17 and 2
      pub counts_refuse : (r : Refusal) → counts ≡ Err r → shown r ≡ refuses
      counts_refuse r e = sym (by_counts ∙ rw e (or_stop (shown r) _ (shown_number r)))

      pub wrong_refuses : (w : WrongWord) → file_layout ws (length xs) columns ≡ Err w → shown (refusal_of w) ≡ refuses
      unfolding counts_of
      wrong_refuses w e = counts_refuse (refusal_of w) (ap counts_of e)

      module _ (c : Counts) (e : counts ≡ Ok c) where
        passed_counts : refuses ≡ after_counts c R
        passed_counts = by_counts ∙ rw e (or_go clear _ refl)

        -- 12
        pub room_refuses : (r : Refusal) → shown r ≡ room_of c.shared c.rows lent.shared lent.rows → shown r ≡ refuses
        room_refuses r h = link_err refuses _ _ r passed_counts h

        module _ (h : clear ≡ room_of c.shared c.rows lent.shared lent.rows) where
          passed_room : refuses ≡ or_else (point_fault point columns) (values_of_read R)
          passed_room = link_ok refuses _ _ passed_counts h

          -- 13
          pub point_refuses : (r : Refusal) → shown r ≡ point_fault point columns → shown r ≡ refuses
          point_refuses r k = link_err refuses _ _ r passed_room k

          pub length_refuses : (length point ≡ columns → ⊥) → shown (record { reason = reason.Point; place = columns }) ≡ refuses
          length_refuses n = point_refuses (record { reason = reason.Point; place = columns }) (sym (length_place point columns n))

          pub passed_point : clear ≡ point_fault point columns → refuses ≡ values_of_read R
          passed_point k = link_ok refuses _ _ passed_room k

-- ---- a file that was gone through

module _ (ws : List ℕ) (xs : List Float) (columns : ℕ) (point : List Float) (lent : Counts) (array before kept : List Float) (l : length point ≡ columns)
    (f : File) (F : FileRun ws xs point array before kept f) where
  abbrev layout : FileLayout
  layout = record { shared = f.counts.shared; rows = f.counts.rows; rows_at = f.rows_from.at; objective_at = F.objective_at; extra = None }

  reads : file_layout ws (length xs) columns ≡ Ok layout
  reads = rw l at F.reads

  pub counts_pass : row_counts ws (length xs) columns ≡ Ok f.counts
  unfolding counts_of
  counts_pass = ap counts_of reads

  its_reading : reading ws (patterns xs) columns ≡ yields (model_of ws (patterns xs) layout)
  its_reading = read_passed ws xs point columns layout reads

  verdict_is : fault_of f.verdict ≡ values_of_read ws xs point columns lent (reading ws (patterns xs) columns)
  verdict_is =
      let parsed = layout_sound ws (patterns xs) columns layout (ap (λ k. file_layout ws k columns) (as_many ws xs point columns) ∙ reads) in
      F.faults
      ∙ ap (λ v. or_else (shared_pass ws xs point f.counts.shared 0 []) (or_else (rows_pass ws xs point v f.counts.rows f.rows_from.at) (part_fault ws xs point v F.objective_at))) F.shared_are
      ∙ faults_are ws xs point columns layout parsed ∙ ap (values_of_read ws xs point columns lent) (sym its_reading)

  module _ (room : clear ≡ room_of f.counts.shared f.counts.rows lent.shared lent.rows) (finite : clear ≡ point_fault point columns) where
    all_refuses : first_refusal ws xs columns point lent ≡ fault_of f.verdict
    all_refuses = passed_point ws xs point columns lent f.counts counts_pass room finite ∙ sym verdict_is

    pub verdict_refuses : (r : Refusal) → f.verdict ≡ Err r → shown r ≡ first_refusal ws xs columns point lent
    verdict_refuses r e = sym (all_refuses ∙ ap (λ v. fault_of v) e)

    pub accepts : f.verdict ≡ Ok tt
        → (clear ≡ first_refusal ws xs columns point lent) × (f.counts.shared ≤ lent.shared) × Accepted ws xs columns point array kept lent.rows f
    accepts e =
        let fits = has_room f.counts.shared f.counts.rows lent.shared lent.rows (ap (λ (x : Fault). x.number) (sym room)) in
        let w = F.rows_are in (
          sym (all_refuses ∙ ap (λ v. fault_of v) e),
          fits.0,
          record {
            fits = F.fits;
            shared_are = F.shared_are ∙ sym (ap (all_shared point) its_reading);
            rows_are = ap (λ v. rows_of ws xs point v f) F.shared_are ∙ sym (ap (all_rows point) its_reading);
            writable = record { fits = fits.1; its_kept = w.its_kept; end = w.end; found = w.found; reads = w.reads };
            is = F.is ∙ ap (λ v. part_value ws xs point v F.objective_at) F.shared_are ∙ sym (ap (objective_value point) its_reading);
          },
        )

-- ---- the answer

-- a refusal whose number is 0 has place 0
pub value_proper : (point values : List Float) (at : ℕ) (e : Expr) → Proper (value_fault point values at e)
unfolding value_fault
value_proper point values at e = refused_proper (in_range point values e) (value point values e) at

pub refusal_proper : (columns : ℕ) (point : List Float) (lent_shared lent_rows : ℕ) (r : Reading) → Proper (refusal columns point lent_shared lent_rows r)
unfolding refusal values_fault
refusal_proper columns point lent_shared lent_rows (wrong p) = λ z. absurd (omega arith)
refusal_proper columns point lent_shared lent_rows (yields M) =
    let values = shared_values point [] M.shared in
    or_proper (size_fault M) _ (or_proper (room_fault lent_shared lent_rows M) _ (or_proper (point_fault point columns) _
    (or_proper (shared_fault point 0 [] M.shared) _ (or_proper (rows_fault point _ values M.rows) _ (value_proper point values _ M.objective)))))
