-- What the lengths of compile's lists are sums of, beside the layout's own counts.
use Rattle.std.specs.Prelude.{ℕ, ◌+◌, ◌*◌, ◌≤◌, ◌≡◌, cond, List, Float}
use Rattle.base.specs.Loop.{loop, tally}
use Rattle.network.specs.Limits.{most_points, most_generators, most_branches}
use Rattle.network.specs.Network.{generators, branches, curved, segments, angled, rated, epigraphs_before}
use Rattle.network.specs.declared.layout.Layout.{Layout}
use Rattle.acopf.specs.declared.tallies.Tallies.{Tallies}

module _ (ws : List ℕ) where
  -- a curve's segments have rows under header 1
  abbrev pub row_segments : ℕ → ℕ
  row_segments g = cond (curved ws g) (segments ws g) 0

  -- those of the generators before g
  unfoldable pub segments_before : ℕ → ℕ
  segments_before g = loop (λ count j. count + row_segments j) 0 g

-- t counts the network's active angle bounds, its active limits above 0, its segments with rows and its epigraph columns
pub record Tallied (ws : List ℕ) (xs : List Float) (t : Tallies) : Type 0 where
  pub of_angles : t.angles ≡ tally (branches ws) (angled ws)
  pub of_rated : t.rated ≡ tally (branches ws) (rated ws xs)
  pub of_segments : t.segments ≡ segments_before ws (generators ws)
  pub of_epigraphs : t.epigraphs ≡ epigraphs_before ws (generators ws)
  -- each is small
  pub few_angles : t.angles ≤ branches ws
  pub few_rated : t.rated ≤ branches ws
  pub few_segments : t.segments ≤ most_points * generators ws
  pub few_epigraphs : t.epigraphs ≤ generators ws

-- so that sums of the counts fit
pub record Few (l : Layout) (t : Tallies) : Type 0 where
  pub angles : t.angles ≤ most_branches
  pub rated : t.rated ≤ most_branches
  pub segments : t.segments ≤ most_points * most_generators
  pub epigraphs : t.epigraphs ≤ l.generators
