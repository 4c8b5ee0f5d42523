-- One turn of the loop over branches, and the three sections one after the other.
use Prim.Native.Nat.{ℕ, ◌+◌, ◌*◌, ◌≤◌}
use native.Mathlib.Numerals.{add-one}
use native.Mathlib.Omega.{arith}
use mathlib.Core.Path.{◌≡◌, sym}
use mathlib.Core.Bool.{cond}
use mathlib.Core.List.{List, ◌++◌}
use lib.Ieee.{Float}
use lib.ListN.{length, length-append, length-replicate, drop, replicate}
use Rattle.base.specs.Loop.{keep, tally}
use Rattle.base.specs.internal.Section.{Added}
use Rattle.base.specs.declared.section.ListWriter.{ListWriter}
use Rattle.base.proofs.Loops.{length_kept, tally_bit}
use Rattle.base.proofs.Sections.{each_none, added_each, added_front, added_then}
use Rattle.float.specs.Number.{zero64}
use Rattle.network.specs.declared.layout.Layout.{Layout}
use Rattle.network.specs.declared.records.Branch.{Branch}
use Rattle.network.specs.Layout.{Laid, branch_record}
use Rattle.network.specs.internal.Records.{BranchRead}
use Rattle.network.specs.Network.{angled}
use Rattle.acopf.specs.Rows.{rows}
use Rattle.acopf.specs.Tallies.{Tallied}
use Rattle.acopf.specs.declared.tallies.Tallies.{Tallies}
use Rattle.acopf.proofs.Sizes.{count_rows}
use Rattle.rows.specs.internal.Bounds.{angle_bounds, row_bounds}

module _ {ws : List ℕ} {xs : List Float} {layout : Layout} {b : ℕ} {branch : Branch} (B : BranchRead ws xs layout b branch) where
  -- one place more where the bound is active
  pub angles_place : tally b (angled ws) + cond branch.angled 1 0 ≡ tally (b + 1) (angled ws)
  angles_place = rw (B.is, add-one) (sym (tally_bit b (angled ws)))

  pub angles_turn : {p q r : ListWriter Float} {bound : Float} (angle : Branch → Float) → bound ≡ angle branch
      → Added p (angle_bounds ws xs angle b) q → Added q (keep branch.angled bound) r → Added p (angle_bounds ws xs angle (b + 1)) r
  unfolding angle_bounds
  angles_turn angle e before turn = added_each (λ i. keep (angled ws i) (angle (branch_record ws xs i))) b before (rw (e, B.is) at turn)

pub angles_none : (ws : List ℕ) (xs : List Float) (angle : Branch → Float) (p : ListWriter Float) → Added p (angle_bounds ws xs angle 0) p
unfolding angle_bounds
angles_none ws xs angle p = each_none p (λ b. keep (angled ws b) (angle (branch_record ws xs b)))

module _ {ws : List ℕ} {xs : List Float} {layout : Layout} {tallies : Tallies} (L : Laid ws xs layout) (T : Tallied ws xs tallies) where
  -- balances and references, angles, margins
  pub rows_are : length (rows ws xs)
      ≡ 2 * layout.buses + layout.references + tally layout.branches (angled ws) + (2 * tallies.rated + tallies.segments)
  rows_are = rw L.words.is (omega (arith, count_rows ws xs, T.of_rated, T.of_segments))

  pub bounds_done : {p q r s : ListWriter Float} (angle : Branch → Float) (free : Float) → p.at ≡ 0 → length (rows ws xs) ≤ length p.out.now
      → Added p (replicate (2 * layout.buses + layout.references) zero64) q → Added q (angle_bounds ws xs angle layout.branches) r
      → Added r (replicate (2 * tallies.rated + tallies.segments) free) s
      → s.out.now ≡ row_bounds ws xs angle layout tallies free ++ drop (length (row_bounds ws xs angle layout tallies free)) p.out.now
  unfolding row_bounds angle_bounds
  bounds_done angle free at h balances angles margins =
      let z = replicate (2 * layout.buses + layout.references) zero64 in
      let a = angle_bounds ws xs angle layout.branches in
      let f = replicate (2 * tallies.rated + tallies.segments) free in
      added_front at (added_then (added_then balances angles) margins) (omega (
        arith,
        rows_are,
        h,
        length-append (z ++ a) f,
        length-append z a,
        length-replicate (2 * layout.buses + layout.references) zero64,
        length-replicate (2 * tallies.rated + tallies.segments) free,
        length_kept layout.branches (angled ws) (λ b. angle (branch_record ws xs b)),
      ))
