-- Document 01, "The network file": where the words and numbers of each kind stand, a branch by value, and what a network has that
-- refusals 1 to 3 do not refuse.
use Rattle.std.specs.Prelude.{ℕ, ◌+◌, ◌*◌, ◌≤◌, ◌<◌, ◌≡◌, Bool, List, length, Float}
use Rattle.float.specs.Doubles.{Doubles}
use Rattle.network.specs.declared.layout.Layout.{Layout}
use Rattle.network.specs.declared.records.Branch.{Branch}
use Rattle.network.specs.Limits.{bus_numbers, generator_numbers, point_numbers, branch_numbers, most_buses}
use Rattle.network.specs.Limits.{most_generators, most_branches, most_references, most_points, most_numbers}
use Rattle.network.specs.Network.{number, buses, generators, branches, references, costs, bus_of, points}
use Rattle.network.specs.Network.{from, to, angled, limited, referred, bus_at, generator_at, branch_at}

-- of n buses, k generators, m branches and r references, where the branches' numbers start at `end`
abbrev pub layout_from : ℕ → ℕ → ℕ → ℕ → ℕ → Bool → Layout
layout_from n k m r end costs = record {
  buses = n;
  generators = k;
  branches = m;
  references = r;
  generator_words = 1 + n;
  branch_words = 1 + n + k;
  reference_words = 1 + n + k + m;
  generator_numbers = bus_numbers * n;
  branch_numbers = end;
  costs = costs;
}

abbrev pub layout_of : List ℕ → Layout
layout_of ws = layout_from (buses ws) (generators ws) (branches ws) (references ws) (generator_at ws (generators ws)) (costs ws)

-- a branch by what its word says and the place of its first number
abbrev pub branch_at_place : List Float → ℕ → ℕ → ℕ → Bool → Bool → Branch
branch_at_place xs at from to angled limited = record {
  from = from;
  to = to;
  angled = angled;
  limited = limited;
  g = number xs at;
  b = number xs (at + 1);
  g_fr = number xs (at + 2);
  b_fr = number xs (at + 3);
  g_to = number xs (at + 4);
  b_to = number xs (at + 5);
  tap = number xs (at + 6);
  shift = number xs (at + 7);
  angle_min = number xs (at + 8);
  angle_max = number xs (at + 9);
  s_max = number xs (at + 10);
}

-- branch b of the network
abbrev pub branch_record : List ℕ → List Float → ℕ → Branch
branch_record ws xs b = branch_at_place xs (branch_at ws b) (from ws b) (to ws b) (angled ws b) (limited ws b)

-- the network's layout is l, and its words are right: what refusals 1 and 2 leave
pub record LaidWords (ws : List ℕ) (l : Layout) : Type 0 where
  pub is : l ≡ layout_of ws
  -- the limits
  pub some_bus : 1 ≤ l.buses
  pub few_buses : l.buses ≤ most_buses
  pub few_generators : l.generators ≤ most_generators
  pub few_branches : l.branches ≤ most_branches
  pub few_references : l.references ≤ most_references
  pub few_points : (g : ℕ) → g < l.generators → points ws g ≤ most_points
  pub no_single : (g : ℕ) → g < l.generators → points ws g ≡ 1 → ⊥
  -- where the words of each kind stand, and how many there are
  pub generator_words : l.generator_words ≡ 1 + l.buses
  pub branch_words : l.branch_words ≡ 1 + l.buses + l.generators
  pub reference_words : l.reference_words ≡ 1 + l.buses + l.generators + l.branches
  pub count : length ws ≡ 1 + l.buses + l.generators + l.branches + l.references
  -- bus numbers
  pub generator_bus_is : (g : ℕ) → g < l.generators → bus_of ws g < l.buses
  pub branch_from_is : (b : ℕ) → b < l.branches → from ws b < l.buses
  pub branch_to_is : (b : ℕ) → b < l.branches → to ws b < l.buses
  pub reference_bus_is : (r : ℕ) → r < l.references → referred ws r < l.buses
  -- where the numbers of each kind stand: the buses', the generators', the branches'
  pub generator_numbers_is : l.generator_numbers ≡ bus_numbers * l.buses
  pub bus_ends : l.generator_numbers ≤ l.branch_numbers
  pub generator_ends : (g : ℕ) → g < l.generators
      → generator_at ws g + generator_numbers + point_numbers * points ws g ≤ l.branch_numbers
  pub few_needed : l.branch_numbers + branch_numbers * l.branches ≤ most_numbers

-- the list of numbers is right too, and each record's numbers lie in it: what refusal 3 leaves
pub record Laid (ws : List ℕ) (xs : List Float) (l : Layout) : Type 0 where
  pub words : LaidWords ws l
  pub numbers : length xs ≡ l.branch_numbers + branch_numbers * l.branches
  pub few_numbers : length xs ≤ most_numbers
  pub bus_fits : (i : ℕ) → i < l.buses → bus_at ws i + bus_numbers ≤ length xs
  pub generator_fits : (g : ℕ) → g < l.generators → generator_at ws g + generator_numbers + point_numbers * points ws g ≤ length xs
  pub branch_fits : (b : ℕ) → b < l.branches → branch_at ws b + branch_numbers ≤ length xs
  pub doubles : Doubles xs
