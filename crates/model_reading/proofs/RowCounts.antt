-- What a file's counts and their refusal are, by what reading yields.
use mathlib.Core.Path.{◌≡◌, ap, sym, ◌∙◌}
use mathlib.Core.List.{List}
use Prim.Native.Nat.{ℕ, ◌+◌, ◌-◌, ◌≤◌, ◌<◌}
use native.Mathlib.Omega.{arith}
use lib.ListN.{length, replicate, length-replicate}
use Rattle.std.specs.Prelude.{None, Ok, Err, IsErr}
use Rattle.base.specs.declared.refusal.Reason.{Reason}
use Rattle.base.specs.declared.refusal.Reason.TheVariants as reason
use Rattle.base.specs.declared.refusal.Refusal.{Refusal}
use Rattle.nl.specs.declared.reader.Parts.{Parts}
use Rattle.nl.specs.Expr.{count}
use Rattle.nl.specs.File.{Model}
use Rattle.nl.specs.Reader.{Read, read_parts, read_after, read_file}
use Rattle.nl.proofs.PartSound.{Outcome, in_shared, in_rows, in_end, passed, outcome}
use Rattle.model_reading.specs.declared.FileLayout.{FileLayout}
use Rattle.model_reading.specs.Place.{place_of}
use Rattle.model_reading.specs.Reading.{shared_limit, file_layout, yields, wrong, reading}
use Rattle.model_reading.specs.Counts.{counts_of, row_counts}
use Rattle.model_reading.proofs.Reading.{extra_place_is, no_extra_place, layout_is, layout_of, layout_stands, yields_exactly, wrong_failed}

abbrev count_in : Read FileLayout → ℕ
count_in (Ok l) = l.shared
count_in (Err w) = 0

abbrev pub refused : Reason → ℕ → Refusal
refused reason place = record { reason = reason; place = place }

module _ (ws cs : List ℕ) (columns : ℕ) where
  -- 17 and the place of the first wrong word, of a file that does not pass reading
  pub counts_wrong : (p : ℕ) → reading ws cs columns ≡ wrong p → row_counts ws (length cs) columns ≡ Err (refused reason.Model p)
  unfolding counts_of
  counts_wrong p e = ap counts_of ((wrong_failed ws cs columns p).0 e)

  -- the numbers of M's shared parts and rows
  pub counts_yield : (M : Model) → reading ws cs columns ≡ yields M → count M.shared ≤ shared_limit
      → row_counts ws (length cs) columns ≡ Ok (record { shared = count M.shared; rows = count M.rows })
  unfolding counts_of
  counts_yield M e h = ap counts_of (layout_is ws cs columns M ((yields_exactly ws cs columns M).0 e)) ∙ rw (no_extra_place M h)

  -- 2, with "the first beginning word too many"
  pub counts_size : (M : Model) → reading ws cs columns ≡ yields M → shared_limit < count M.shared
      → row_counts ws (length cs) columns ≡ Err (refused reason.Size (place_of shared_limit 0 M.shared))
  unfolding counts_of
  counts_size M e h =
      let (end, its) = extra_place_is M h in
      let place : place_of shared_limit 0 M.shared + 1 - 1 ≡ place_of shared_limit 0 M.shared = omega arith in
      ap counts_of (layout_is ws cs columns M ((yields_exactly ws cs columns M).0 e)) ∙ rw its (ap (λ x. Err (refused reason.Size x)) place)

-- where more than 4,352 shared parts are read, or a wrong word, the file is refused whatever follows: a caller that has no room for more need not read on
pub too_many : (ws : List ℕ) (constants columns : ℕ)
    → ((p : Parts) → read_parts ws constants columns (λ i. i) 10 shared_limit (length ws) 0 0 0 None ≡ Ok p → shared_limit < p.count)
    → IsErr (row_counts ws constants columns)
unfolding counts_of file_layout read_file read_after
too_many ws constants columns h =
    let l : length {A = ℕ} (replicate constants 0) ≡ constants = length-replicate constants 0 in
    rw l at (go (replicate constants 0) (rw l h))
  where
    go : (cs : List ℕ) → ((p : Parts) → read_parts ws (length cs) columns (λ i. i) 10 shared_limit (length ws) 0 0 0 None ≡ Ok p → shared_limit < p.count)
        → IsErr (row_counts ws (length cs) columns)
    go cs h = by (outcome ws (length cs) columns shared_limit)
      where
        by : Outcome ws (length cs) columns shared_limit → IsErr (row_counts ws (length cs) columns)
        by (in_shared p q f) = rw q
        by (in_rows s a b u p q q' f) = rw (q, q')
        by (in_end s a b u m c d x p q q' q'' f) = rw (q, q', q'')
        by (passed s a b u m c d x i j first second third g) =
            let (M, S) = layout_stands ws cs columns (record { shared = s; rows = m; rows_at = a; objective_at = c; extra = u }) (rw (first, second, third)) in
            let same : Ok (layout_of M) ≡ Ok (record { shared = s; rows = m; rows_at = a; objective_at = c; extra = u }) = sym (layout_is ws cs columns M S) ∙ rw (first, second, third) in
            let n : count M.shared ≡ s = ap count_in same in
            rw (counts_size ws cs columns M ((yields_exactly ws cs columns M).1 S) (omega (arith, h _ first)))
