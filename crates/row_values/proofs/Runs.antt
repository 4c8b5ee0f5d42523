-- Reading and working out shared parts and rows in one go, a step at a time, as the code does. A loop's count is not known at its start:
-- what holds of any n more parts holds of all.
use mathlib.Core.Path.{◌≡◌, refl, ap, sym, ◌∙◌}
use mathlib.Core.List.{List, [], ◌∷◌, ◌++◌, append_assoc, append-nil}
use mathlib.Core.Bool.{Bool, true, false, cond}
use Prim.Native.Nat.{ℕ, suc, ◌+◌, ◌-◌, ◌≤◌, ◌<◌}
use native.Mathlib.Omega.{arith}
use native.Mathlib.Nat.{add-zero, zero-add}
use native.Mathlib.Numerals.{add-one}
use lib.ListN.{length, take, drop, set, length-set, take-append-drop}
use lib.Seq.{take-suc-set, drop-set-lt, drop-drop, length-take-le}
use lib.Dec.{eqb}
use lib.Ieee.{Float}
use borrow.Author.Tests.{ne_eqb}
use Rattle.std.specs.Prelude.{Option, None, Ok, Err}
use Rattle.base.specs.Fault.{or_else, fault_of}
use Rattle.base.proofs.Scans.{or_assoc, or_none, none_or}
use Rattle.nl.specs.declared.reader.Span.{Span}
use Rattle.nl.specs.declared.reader.WrongWord.{WrongWord}
use Rattle.nl.specs.File.{depth_limit}
use Rattle.nl.specs.Reader.{span, is_mark, read_expr, read_parts}
use Rattle.nl.proofs.Sound.{went_on}
use Rattle.nl.proofs.PartSteps.{mark_inside, from_start, no_more, part_more, part_bad}
use Rattle.model_reading.specs.Reading.{shared_limit}
use Rattle.expression.specs.declared.Scanned.{Scanned}
use Rattle.expression.specs.Value.{values_of}
use Rattle.expression.specs.internal.Scan.{Reads}
use Rattle.row_values.specs.Answer.{shared_values}
use Rattle.row_values.specs.internal.Run.{scanned_fault, terms_at, part_value, shared_pass, rows_pass, read_shared, SharedRun, TooMany, read_rows, RowsRun}
use Rattle.row_values.proofs.Passes.{part_value_is, part_end, part_fault_is, Verdict, verdict_proper, too_many}

module _ (ws : List ℕ) (xs point : List Float) where
  -- ---- shared parts

  -- i of them are scanned, the array has their values, and this is their first refusal
  pub record SharedSoFar (array : List Float) (at next : ℕ) (v : Verdict) (i : ℕ) : Type 0 where
    pub fits : i ≤ length array
    pub least : i ≤ at
    pub reads : read_shared ws xs point ≡ read_parts ws (length xs) (length point) (λ j. j) 10 shared_limit (length ws - i) i at next None
    pub are : (n : ℕ) → shared_values point [] (terms_at ws xs point (i + n) 0) ≡ shared_values point (take i array) (terms_at ws xs point n at)
    pub faults : (n : ℕ) → shared_pass ws xs point (i + n) 0 [] ≡ or_else (fault_of v) (shared_pass ws xs point n at (take i array))

  pub shared_none : (array : List Float) → SharedSoFar array 0 0 (Ok tt) 0
  shared_none array = record {
    fits = omega arith;
    least = omega arith;
    reads = from_start ws (length xs) (length point) (λ j. j) 10 shared_limit (length ws) 0 0 None;
    are = λ n. rw (zero-add n);
    faults = λ n. rw (zero-add n) (sym (none_or (shared_pass ws xs point n 0 [])));
  }

  -- a shared part begins, and may be worked out
  module _ (array : List Float) (at next : ℕ) (v : Verdict) (i : ℕ) (ok : Bool) (g : SharedSoFar array at next v i) (l : i < length array) (m : ok ≡ is_mark ws 10 i at) (t : ok ≡ true) where
    shared_inside : at < length ws
    shared_inside = mark_inside ws 10 i at ok m t

    pub shared_wrong : (w : WrongWord) → read_expr ws (length xs) (length point) (length (take i array)) depth_limit (at + 1) next ≡ Err w → read_shared ws xs point ≡ Err w
    shared_wrong w p =
        sym (part_bad ws (length xs) (length point) (λ j. j) 10 shared_limit (length ws) i at next None (length (take i array)) ok _ _ (omega (arith, g.least, shared_inside)) m t
        (length-take-le i array g.fits) refl g.reads w.place p)

    module _ (s : Scanned) (found : Reads ws xs point (take i array) depth_limit (at + 1) next s) where
      shared_front : take (i + 1) (set array i s.value) ≡ take i array ++ (part_value ws xs point (take i array) at ∷ [])
      shared_front = rw (add-one i) (take-suc-set array i s.value l) ∙ ap (λ x. take i array ++ (x ∷ [])) (part_value_is ws xs point (take i array) at next s shared_inside found)

      pub shared_goes_on : (at + 1 < s.end.at) × (s.end.at ≤ length ws)
      shared_goes_on = went_on ws (length xs) (length point) (length (take i array)) depth_limit (at + 1) next s.end.at s.end.next _ refl found.went

      pub shared_more : (v' : Verdict) → length array ≡ shared_limit → fault_of v' ≡ or_else (fault_of v) (scanned_fault s at)
          → SharedSoFar (set array i s.value) s.end.at s.end.next v' (i + 1)
      unfolding shared_pass
      shared_more v' small e =
          let far = shared_goes_on in
          let end = part_end ws xs point (take i array) at next s shared_inside found in
          let its = part_fault_is ws xs point (take i array) at next s shared_inside found in
          let ne : i ≡ 4352 → ⊥ = λ z. omega arith in
          record {
            fits = omega (arith, length-set array i s.value);
            least = omega (arith, g.least, far.0);
            reads = part_more ws (length xs) (length point) (λ j. j) 10 shared_limit (length ws) i at next None (length (take i array)) ok _ _ (omega (arith, g.least, shared_inside)) m t
                (length-take-le i array g.fits) refl g.reads s.end.at s.end.next None found.went (rw (ne_eqb i 4352 ne));
            are = λ n.
                let z : i + 1 + n ≡ i + suc n = omega arith in
                rw z (g.are (suc n) ∙ rw (shared_front, end));
            faults = λ n.
                let z : i + 1 + n ≡ i + suc n = omega arith in
                rw z (g.faults (suc n) ∙ rw (e, its, shared_front, end) (sym (or_assoc (fault_of v) _ _)));
          }

  pub shared_full : (array : List Float) (at next : ℕ) (v : Verdict) (i : ℕ) (ok : Bool) → SharedSoFar array at next v i → length array ≡ shared_limit → length array ≤ i → ok ≡ is_mark ws 10 i at → ok ≡ true
      → TooMany ws xs point (read_shared ws xs point)
  shared_full array at next v i ok g small l m t = too_many ws xs point i at next None ok _ g.least (omega arith) m t g.reads

  pub shared_all : (array : List Float) (at next : ℕ) (v : Verdict) (i : ℕ) (ok : Bool) → SharedSoFar array at next v i → length array ≡ shared_limit → ok ≡ is_mark ws 10 i at → ok ≡ false
      → SharedRun ws xs point array (record { count = i; end = record { at = at; next = next }; verdict = v })
  unfolding shared_pass
  shared_all array at next v i ok g small m t = record {
    reads = g.reads ∙ no_more ws (length xs) (length point) (λ j. j) 10 shared_limit (length ws - i) i at next None ok m t;
    fits = omega (arith, g.fits);
    are = sym (rw (add-zero i) at (g.are 0));
    faults = sym (rw (add-zero i) at (g.faults 0) ∙ or_none (fault_of v) (verdict_proper v));
  }

  -- ---- rows

  module _ (values : List Float) (from first : ℕ) (before : List Float) where
    -- i of them are scanned, the list has their values as far as it reaches, and this is their first refusal
    pub record RowsSoFar (now : List Float) (at next : ℕ) (v : Verdict) (i : ℕ) : Type 0 where
      pub same_length : length now ≡ length before
      pub least : i ≤ at
      pub found : Option Span
      pub reads : read_rows ws xs point values from first ≡ read_parts ws (length xs) (length point) (λ j. length values) 11 shared_limit (length ws - i) i at next found
      pub front : (n : ℕ) → i ≤ length before → values_of point values (terms_at ws xs point (i + n) from) ≡ take i now ++ values_of point values (terms_at ws xs point n at)
      pub back : drop i now ≡ drop i before
      pub faults : (n : ℕ) → rows_pass ws xs point values (i + n) from ≡ or_else (fault_of v) (rows_pass ws xs point values n at)

    pub rows_none : RowsSoFar before from first (Ok tt) 0
    rows_none = record {
      same_length = refl;
      least = omega arith;
      found = None;
      reads = from_start ws (length xs) (length point) (λ j. length values) 11 shared_limit (length ws) from first None;
      front = λ n h. rw (zero-add n);
      back = refl;
      faults = λ n. rw (zero-add n) (sym (none_or (rows_pass ws xs point values n from)));
    }

    -- a row begins
    module _ (now : List Float) (at next : ℕ) (v : Verdict) (i : ℕ) (ok : Bool) (g : RowsSoFar now at next v i) (m : ok ≡ is_mark ws 11 i at) (t : ok ≡ true) where
      row_inside : at < length ws
      row_inside = mark_inside ws 11 i at ok m t

      pub rows_wrong : (w : WrongWord) → read_expr ws (length xs) (length point) (length values) depth_limit (at + 1) next ≡ Err w → read_rows ws xs point values from first ≡ Err w
      rows_wrong w p =
          sym (part_bad ws (length xs) (length point) (λ j. length values) 11 shared_limit (length ws) i at next g.found (length values) ok _ _ (omega (arith, g.least, row_inside)) m t
          refl refl g.reads w.place p)

      module _ (s : Scanned) (row_found : Reads ws xs point values depth_limit (at + 1) next s) where
        row_front : i < length now → (rest : List Float) → take (i + 1) (set now i s.value) ++ rest ≡ take i now ++ (part_value ws xs point values at ∷ rest)
        row_front l rest =
            let its : take (i + 1) (set now i s.value) ≡ take i now ++ (s.value ∷ []) = rw (add-one i) (take-suc-set now i s.value l) in
            ap (λ x. x ++ rest) (its ∙ ap (λ x. take i now ++ (x ∷ [])) (part_value_is ws xs point values at next s row_inside row_found))
            ∙ append_assoc (take i now) (part_value ws xs point values at ∷ []) rest

        pub row_goes_on : (at + 1 < s.end.at) × (s.end.at ≤ length ws)
        row_goes_on = went_on ws (length xs) (length point) (length values) depth_limit (at + 1) next s.end.at s.end.next _ refl row_found.went

        pub rows_more : (v' : Verdict) → fault_of v' ≡ or_else (fault_of v) (scanned_fault s at) → RowsSoFar (set now i s.value) s.end.at s.end.next v' (i + 1)
        unfolding rows_pass values_of
        rows_more v' e =
            let far = row_goes_on in
            let its_end = part_end ws xs point values at next s row_inside row_found in
            let its = part_fault_is ws xs point values at next s row_inside row_found in
            record {
              same_length = length-set now i s.value ∙ g.same_length;
              least = omega (arith, g.least, far.0);
              found = cond (eqb i shared_limit) (span (at + 1) s.end.at) g.found;
              reads = part_more ws (length xs) (length point) (λ j. length values) 11 shared_limit (length ws) i at next g.found (length values) ok _ _
                  (omega (arith, g.least, row_inside)) m t refl refl g.reads s.end.at s.end.next _ row_found.went refl;
              front = λ n h.
                  let z : i + 1 + n ≡ i + suc n = omega arith in
                  rw z (g.front (suc n) (omega arith) ∙ rw its_end (sym (row_front (omega (arith, g.same_length)) _)));
              back = drop-set-lt (i + 1) now i s.value (omega arith) ∙ sym (drop-drop 1 i now) ∙ ap (drop 1) g.back ∙ drop-drop 1 i before;
              faults = λ n.
                  let z : i + 1 + n ≡ i + suc n = omega arith in
                  rw z (g.faults (suc n) ∙ rw (e, its, its_end) (sym (or_assoc (fault_of v) _ _)));
            }

    pub rows_all : (now : List Float) (at next : ℕ) (v : Verdict) (i : ℕ) (ok : Bool) → RowsSoFar now at next v i → ok ≡ is_mark ws 11 i at → ok ≡ false
        → RowsRun ws xs point values from first before now (record { count = i; end = record { at = at; next = next }; verdict = v })
    unfolding rows_pass values_of
    rows_all now at next v i ok g m t = record {
      found = g.found;
      reads = g.reads ∙ no_more ws (length xs) (length point) (λ j. length values) 11 shared_limit (length ws - i) i at next g.found ok m t;
      same_length = g.same_length;
      are = λ h.
          let its : values_of point values (terms_at ws xs point i from) ≡ take i now = rw (add-zero i) at (g.front 0 h) ∙ append-nil (take i now) in
          sym (take-append-drop i now) ∙ ap (λ x. take i now ++ x) g.back ∙ ap (λ x. x ++ drop i before) (sym its);
      faults = sym (rw (add-zero i) at (g.faults 0) ∙ or_none (fault_of v) (verdict_proper v));
    }
