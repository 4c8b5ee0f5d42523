-- Reading and working out the objective and the end, and then the whole file, as the code does.
use mathlib.Core.Path.{◌≡◌, refl, ap, sym, ◌∙◌}
use mathlib.Core.List.{List, ◌++◌}
use mathlib.Core.Bool.{Bool, true, false}
use Prim.Native.Nat.{ℕ, zero, suc, ◌+◌}
use native.Mathlib.Omega.{arith}
use lib.ListN.{length, take, drop}
use lib.Seq.{length-take-le, take-append_seam}
use lib.Ieee.{Float}
use Rattle.std.specs.Prelude.{Ok, Err, IsErr}
use Rattle.std.specs.Result.{result_and}
use Rattle.base.specs.Fault.{or_else, fault_of}
use Rattle.base.proofs.Scans.{or_assoc}
use Rattle.nl.specs.declared.reader.Cursor.{Cursor}
use Rattle.nl.specs.declared.reader.WrongWord.{WrongWord}
use Rattle.nl.specs.File.{depth_limit}
use Rattle.nl.specs.Reader.{Read, wrong, is_mark, read_expr, read_last, read_after, read_file}
use Rattle.nl.proofs.PartSteps.{mark_inside, no_objective, objective, objective_wrong}
use Rattle.model_reading.specs.Reading.{shared_limit, file_layout}
use Rattle.model_reading.specs.Counts.{row_counts}
use Rattle.model_reading.proofs.RowCounts.{too_many}
use Rattle.expression.specs.declared.Scanned.{Scanned}
use Rattle.expression.specs.Value.{values_of}
use Rattle.expression.specs.internal.Scan.{Reads}
use Rattle.row_values.specs.declared.scan.Run.{Run}
use Rattle.row_values.specs.declared.scan.ScanError.{ScanError}
use Rattle.row_values.specs.declared.scan.ScanError.TheVariants as error
use Rattle.row_values.specs.internal.Run.{scanned_fault, terms_at, read_shared, SharedRun, TooMany, SharedScanned, read_rows, RowsRun, read_last_parts, Ends, FileRun, FileScanned}
use Rattle.row_values.proofs.Passes.{part_value_is, part_fault_is, Verdict, then_fault}

module _ (ws : List ℕ) (xs point : List Float) where
  -- ---- the end

  module _ (values : List Float) (at k : ℕ) (ok : Bool) (m : ok ≡ is_mark ws 12 0 at) where
    pub no_end : ok ≡ false → read_last_parts ws xs point values at k ≡ wrong at
    no_end t = sym (no_objective ws (length xs) (length point) (length values) at k ok m t)

    module _ (t : ok ≡ true) where
      pub objective_bad : (w : WrongWord) → read_expr ws (length xs) (length point) (length values) depth_limit (at + 1) k ≡ Err w → read_last_parts ws xs point values at k ≡ Err w
      objective_bad w p = sym (objective_wrong ws (length xs) (length point) (length values) at k ok m _ w.place t refl p)

      module _ (s : Scanned) (found : Reads ws xs point values depth_limit (at + 1) k s) (last : Read Cursor) (l : last ≡ read_last ws (length xs) s.end.at s.end.next) where
        pub last_read : last ≡ read_last_parts ws xs point values at k
        last_read = objective ws (length xs) (length point) (length values) at k ok m _ last s.end.at s.end.next t refl found.went l

        pub ends : (c : Cursor) → last ≡ Ok c → Ends ws xs point values at k s
        ends c e =
            let h = mark_inside ws 12 0 at ok m t in
            record {
              end = c;
              reads = sym last_read ∙ e;
              is = part_value_is ws xs point values at k s h found;
              faults = part_fault_is ws xs point values at k s h found;
            }

  -- ---- the file

  length_rows : (values : List Float) (n at : ℕ) → length (values_of point values (terms_at ws xs point n at)) ≡ n
  unfolding values_of
  length_rows values zero at = refl
  length_rows values (suc n) at = ap suc (length_rows values n _)

  -- more shared parts than may be worked out are refused, if no word is
  file_full : TooMany ws xs point (read_shared ws xs point) → IsErr (row_counts ws (length xs) (length point))
  file_full h = too_many ws (length xs) (length point) (λ p e. rw e at h)

  shared_failed : (w : WrongWord) → read_shared ws xs point ≡ Err w → file_layout ws (length xs) (length point) ≡ Err w
  unfolding file_layout read_file
  shared_failed w e = rw e

  pub shared_exit : (array before after : List Float) (e : ScanError) → SharedScanned ws xs point array (Err e) → FileScanned ws xs point array before after (Err e)
  shared_exit array before after (error.Wrong w) h = shared_failed w h
  shared_exit array before after error.Full h = file_full h

  module _ (array : List Float) (run : Run) (S : SharedRun ws xs point array run) (small : length array ≡ shared_limit) where
    abbrev values : List Float
    values = take run.count array

    named : length values ≡ run.count
    named = length-take-le run.count array (omega (arith, S.fits))

    pub rows_failed : (w : WrongWord) → read_rows ws xs point values run.end.at run.end.next ≡ Err w → file_layout ws (length xs) (length point) ≡ Err w
    unfolding file_layout read_file read_after
    rows_failed w e = rw (S.reads, rw named at e)

    module _ (before after : List Float) (rows : Run) (R : RowsRun ws xs point values run.end.at run.end.next before after rows) where
      pub end_failed : (w : WrongWord) → read_last_parts ws xs point values rows.end.at rows.end.next ≡ Err w → file_layout ws (length xs) (length point) ≡ Err w
      unfolding file_layout read_file read_after
      end_failed w e = rw (S.reads, rw named at R.reads, rw named at e)

      pub file_run : (s : Scanned) (earlier v : Verdict) → Ends ws xs point values rows.end.at rows.end.next s
          → earlier ≡ result_and run.verdict rows.verdict → fault_of v ≡ or_else (fault_of earlier) (scanned_fault s rows.end.at)
          → FileRun ws xs point array before after
          (record { counts = record { shared = run.count; rows = rows.count }; rows_from = run.end; objective = s.value; verdict = v })
      unfolding file_layout read_file read_after
      file_run s earlier v E w f = record {
        objective_at = rows.end.at;
        reads = rw (S.reads, rw named at R.reads, rw named at E.reads);
        fits = S.fits;
        shared_are = S.are;
        rows_are = record {
          fits = omega arith;
          its_kept = λ h.
              let n = length_rows values rows.count run.end.at in
              ap (take rows.count) (R.are (omega (arith, R.same_length)))
              ∙ ap (λ i. take i (values_of point values (terms_at ws xs point rows.count run.end.at) ++ drop rows.count before)) (sym n)
              ∙ take-append_seam (values_of point values (terms_at ws xs point rows.count run.end.at)) (drop rows.count before);
          end = rows.end;
          found = R.found;
          reads = R.reads;
        };
        same_length = R.same_length;
        is = E.is;
        faults =
            let both = then_fault earlier run.verdict rows.verdict _ w refl in
            f ∙ rw (both, S.faults, R.faults, E.faults) (or_assoc _ _ _);
      }
