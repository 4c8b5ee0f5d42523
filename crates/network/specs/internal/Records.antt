-- A bus and a generator by value, where a loop over the generators stands, and what reading a record gives.
use Rattle.std.specs.Prelude.{ℕ, ◌+◌, ◌*◌, ◌≤◌, ◌<◌, ◌≡◌, Bool, List, length, Float, Option, Some, None}
use Rattle.std.specs.Bool.{then_some}
use Rattle.network.specs.declared.layout.Layout.{Layout}
use Rattle.network.specs.declared.records.Bus.{Bus}
use Rattle.network.specs.declared.records.Generator.{Generator}
use Rattle.network.specs.declared.records.Branch.{Branch}
use Rattle.network.specs.declared.layout.Cursor.{Cursor}
use Rattle.network.specs.declared.sizes.Sizes.{Sizes}
use Rattle.network.specs.Limits.{generator_numbers, point_numbers, most_points}
use Rattle.network.specs.Network.{number, buses, generators, branches, references, vm_bounded, bus_of, capable, points, curved, bus_at, generator_at, epigraph_column}
use Rattle.network.specs.Layout.{branch_record}

-- a bus or generator by what its word says and the place of its first number
abbrev pub bus_at_place : List Float → ℕ → Bool → Bus
bus_at_place xs at bounded = record {
  bounded = bounded;
  p_d = number xs at;
  q_d = number xs (at + 1);
  g_s = number xs (at + 2);
  b_s = number xs (at + 3);
  vm_min = number xs (at + 4);
  vm_max = number xs (at + 5);
  va = number xs (at + 6);
  vm = number xs (at + 7);
}

abbrev pub generator_at_place : List Float → ℕ → ℕ → Bool → ℕ → Option ℕ → Generator
generator_at_place xs at bus bounded points epigraph = record {
  bus = bus;
  bounded = bounded;
  points = points;
  epigraph = epigraph;
  curve = at + generator_numbers;
  p_min = number xs at;
  p_max = number xs (at + 1);
  q_min = number xs (at + 2);
  q_max = number xs (at + 3);
  cost_q = number xs (at + 4);
  cost_c = number xs (at + 5);
  cost_0 = number xs (at + 6);
  pg = number xs (at + 7);
  qg = number xs (at + 8);
}

-- bus i, generator g of the network
abbrev pub bus_record : List ℕ → List Float → ℕ → Bus
bus_record ws xs i = bus_at_place xs (bus_at ws i) (vm_bounded ws i)

-- generator g's epigraph column, where it has one
abbrev pub epigraph_of : List ℕ → ℕ → Option ℕ
epigraph_of ws g = then_some (curved ws g) (epigraph_column ws g)

abbrev pub generator_record : List ℕ → List Float → ℕ → Generator
generator_record ws xs g = generator_at_place xs (generator_at ws g) (bus_of ws g) (capable ws g) (points ws g) (epigraph_of ws g)

-- the same, with `column` as the number of its epigraph column, where it has one
abbrev pub generator_with : List ℕ → List Float → ℕ → ℕ → Generator
generator_with ws xs g column =
    generator_at_place xs (generator_at ws g) (bus_of ws g) (capable ws g) (points ws g) (then_some (curved ws g) column)

-- these are how many words of each kind there are
pub record SizesOf (ws : List ℕ) (s : Sizes) : Type 0 where
  pub buses : s.buses ≡ buses ws
  pub generators : s.generators ≡ generators ws
  pub branches : s.branches ≡ branches ws
  pub references : s.references ≡ references ws

-- the cursor stands at a generator, or at the generators' end
pub record Standing (ws : List ℕ) (l : Layout) (c : Cursor) : Type 0 where
  pub within : c.index ≤ l.generators
  pub at : c.at ≡ generator_at ws c.index

-- what reading a record gives, and the bounds that its user needs
pub record GeneratorRead (ws : List ℕ) (xs : List Float) (l : Layout) (g : ℕ) (r : Generator) : Type 0 where
  pub is : r ≡ generator_record ws xs g
  pub bus : r.bus < l.buses
  pub points : r.points ≤ most_points
  pub curve : r.curve + point_numbers * r.points ≤ length xs

pub record BranchRead (ws : List ℕ) (xs : List Float) (l : Layout) (b : ℕ) (r : Branch) : Type 0 where
  pub is : r ≡ branch_record ws xs b
  pub from : r.from < l.buses
  pub to : r.to < l.buses

-- one step over the generators, from generator i on: generator i with its number, and on to the next; after the last, nothing
abbrev pub GeneratorStep : List ℕ → List Float → Layout → ℕ → Option (ℕ × Generator) → ℕ → Type 0
GeneratorStep ws xs l i None next = (l.generators ≤ i) × (next ≡ i)
GeneratorStep ws xs l i (Some (g, generator)) next = (i < l.generators) × (g ≡ i) × GeneratorRead ws xs l i generator × (next ≡ i + 1)
