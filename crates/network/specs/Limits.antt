-- Document 01, "The network file": how many numbers a record has, and the limits of refusal 2.
use Rattle.std.specs.Prelude.{ℕ, ◌+◌, ◌*◌}

-- the numbers of a bus, of a generator before its curve, of a point of a curve, of a branch
abbrev pub bus_numbers : ℕ
bus_numbers = 8

abbrev pub generator_numbers : ℕ
generator_numbers = 9

abbrev pub point_numbers : ℕ
point_numbers = 2

abbrev pub branch_numbers : ℕ
branch_numbers = 11

-- "1-256 buses, 256 generators, 512 branches, 256 references"
abbrev pub most_buses : ℕ
most_buses = 256

abbrev pub most_generators : ℕ
most_generators = 256

abbrev pub most_branches : ℕ
most_branches = 512

abbrev pub most_references : ℕ
most_references = 256

-- points a curve; document 02 (b): "Nine becomes the limit in place of 16"
abbrev pub most_points : ℕ
most_points = 9

-- so no list of numbers is longer than 14,592
abbrev pub most_numbers : ℕ
most_numbers = bus_numbers * most_buses + (generator_numbers + point_numbers * most_points) * most_generators + branch_numbers * most_branches
