-- One of the two bounds of all rows, by section. That row lower and row upper are of this form is a law of proofs/Sides.
use Rattle.std.specs.Prelude.{ℕ, ◌+◌, ◌*◌, List, ◌++◌, replicate, Float}
use Rattle.base.specs.Loop.{each, keep}
use Rattle.float.specs.Number.{zero64}
use Rattle.network.specs.declared.layout.Layout.{Layout}
use Rattle.network.specs.declared.records.Branch.{Branch}
use Rattle.network.specs.Layout.{branch_record}
use Rattle.network.specs.Network.{angled}
use Rattle.acopf.specs.declared.tallies.Tallies.{Tallies}

module _ (ws : List ℕ) (xs : List Float) (angle : Branch → Float) where
  -- those of the first m branches, where they are active
  unfoldable pub angle_bounds : ℕ → List Float
  angle_bounds m = each m (λ b. keep (angled ws b) (angle (branch_record ws xs b)))

  -- balances and references have 0; thermal rows and segments have `free`
  unfoldable pub row_bounds : Layout → Tallies → Float → List Float
  row_bounds layout tallies free =
      replicate (2 * layout.buses + layout.references) zero64 ++ angle_bounds layout.branches
      ++ replicate (2 * tallies.rated + tallies.segments) free
