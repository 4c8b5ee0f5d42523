-- Document 01, "The network file": how many words of each kind, where each one's word and numbers stand, and the numbers by name.
-- ws are the words, xs the numbers.
use Rattle.std.specs.Prelude.{ℕ, ◌+◌, ◌-◌, ◌*◌, Bool, not, ◌&&◌, List, length, get_or, eqb, Float}
use Rattle.std.specs.Float.{nan}
use Rattle.std.specs.Float.Ieee.{lt}
use Rattle.base.specs.Word.{kind_of}
use Rattle.base.specs.Loop.{loop, tally}
use Rattle.float.specs.Number.{zero64}
use Rattle.network.specs.Limits.{bus_numbers, generator_numbers, point_numbers, branch_numbers}
use Rattle.network.specs.Word.{header_costs, bus_bounded, generator_bus, generator_bounded, generator_points}
use Rattle.network.specs.Word.{branch_from, branch_to, branch_angled, branch_limited, reference_bus}

module _ (ws : List ℕ) where
  -- how many of the first `count` words have that kind
  unfoldable pub kind_before : ℕ → ℕ → ℕ
  kind_before kind count = tally count (λ i. eqb (kind_of (get_or ws i 0)) kind)

  -- n, k, m and the number of references
  unfoldable pub buses : ℕ
  buses = kind_before 2 (length ws)

  unfoldable pub generators : ℕ
  generators = kind_before 3 (length ws)

  unfoldable pub branches : ℕ
  branches = kind_before 4 (length ws)

  unfoldable pub references : ℕ
  references = kind_before 5 (length ws)

  -- where the word of bus i, generator g, branch b, reference r stands
  abbrev pub bus_place : ℕ → ℕ
  bus_place i = 1 + i

  abbrev pub generator_place : ℕ → ℕ
  generator_place g = 1 + buses + g

  abbrev pub branch_place : ℕ → ℕ
  branch_place b = 1 + buses + generators + b

  abbrev pub reference_place : ℕ → ℕ
  reference_place r = 1 + buses + generators + branches + r

  -- what the words say
  abbrev pub costs : Bool
  costs = header_costs (get_or ws 0 0)

  abbrev pub vm_bounded : ℕ → Bool
  vm_bounded i = bus_bounded (get_or ws (bus_place i) 0)

  abbrev pub bus_of : ℕ → ℕ
  bus_of g = generator_bus (get_or ws (generator_place g) 0)

  abbrev pub capable : ℕ → Bool
  capable g = generator_bounded (get_or ws (generator_place g) 0)

  abbrev pub points : ℕ → ℕ
  points g = generator_points (get_or ws (generator_place g) 0)

  abbrev pub from : ℕ → ℕ
  from b = branch_from (get_or ws (branch_place b) 0)

  abbrev pub to : ℕ → ℕ
  to b = branch_to (get_or ws (branch_place b) 0)

  abbrev pub angled : ℕ → Bool
  angled b = branch_angled (get_or ws (branch_place b) 0)

  abbrev pub limited : ℕ → Bool
  limited b = branch_limited (get_or ws (branch_place b) 0)

  abbrev pub referred : ℕ → ℕ
  referred r = reference_bus (get_or ws (reference_place r) 0)

  -- where the numbers of bus i, generator g, branch b start: buses, generators each with its curve, branches
  abbrev pub bus_at : ℕ → ℕ
  bus_at i = bus_numbers * i

  unfoldable pub generator_at : ℕ → ℕ
  generator_at g = loop (λ at j. at + generator_numbers + point_numbers * points j) (bus_numbers * buses) g

  abbrev pub curve_at : ℕ → ℕ
  curve_at g = generator_at g + generator_numbers

  unfoldable pub branch_at : ℕ → ℕ
  branch_at b = generator_at generators + branch_numbers * b

  -- the needed length of the number list
  unfoldable pub needed : ℕ
  needed = branch_at branches

  -- generator g's curve has a segment from each point to the next
  abbrev pub segments : ℕ → ℕ
  segments g = points g - 1

  -- under header 1, a generator with a curve has an epigraph column
  abbrev pub curved : ℕ → Bool
  curved g = costs && not (eqb (points g) 0)

  unfoldable pub epigraphs_before : ℕ → ℕ
  epigraphs_before g = tally g curved

  -- columns: va, vm, pg, qg, epigraphs
  abbrev pub va_column : ℕ → ℕ
  va_column i = i

  abbrev pub vm_column : ℕ → ℕ
  vm_column i = buses + i

  abbrev pub pg_column : ℕ → ℕ
  pg_column g = 2 * buses + g

  abbrev pub qg_column : ℕ → ℕ
  qg_column g = 2 * buses + generators + g

  abbrev pub epigraph_column : ℕ → ℕ
  epigraph_column g = 2 * buses + 2 * generators + epigraphs_before g

  unfoldable pub columns : ℕ
  columns = 2 * buses + 2 * generators + epigraphs_before generators

-- number j of the list
abbrev pub number : List Float → ℕ → Float
number xs j = get_or xs j nan

-- point j of a curve whose numbers start at `at`: power, value
abbrev pub power : List Float → ℕ → ℕ → Float
power xs at j = number xs (at + point_numbers * j)

abbrev pub value : List Float → ℕ → ℕ → Float
value xs at j = number xs (at + point_numbers * j + 1)

-- the numbers by their names, "per bus p_d, q_d, g_s, b_s, vm_min, vm_max, angle start, vm start; per generator .."
module _ (ws : List ℕ) (xs : List Float) where
  -- bus i
  abbrev pub p_d : ℕ → Float
  p_d i = number xs (bus_at ws i)

  abbrev pub q_d : ℕ → Float
  q_d i = number xs (bus_at ws i + 1)

  abbrev pub g_s : ℕ → Float
  g_s i = number xs (bus_at ws i + 2)

  abbrev pub b_s : ℕ → Float
  b_s i = number xs (bus_at ws i + 3)

  abbrev pub vm_min : ℕ → Float
  vm_min i = number xs (bus_at ws i + 4)

  abbrev pub vm_max : ℕ → Float
  vm_max i = number xs (bus_at ws i + 5)

  abbrev pub va_given : ℕ → Float
  va_given i = number xs (bus_at ws i + 6)

  abbrev pub vm_given : ℕ → Float
  vm_given i = number xs (bus_at ws i + 7)

  -- generator g
  abbrev pub p_min : ℕ → Float
  p_min g = number xs (generator_at ws g)

  abbrev pub p_max : ℕ → Float
  p_max g = number xs (generator_at ws g + 1)

  abbrev pub q_min : ℕ → Float
  q_min g = number xs (generator_at ws g + 2)

  abbrev pub q_max : ℕ → Float
  q_max g = number xs (generator_at ws g + 3)

  abbrev pub cost_q : ℕ → Float
  cost_q g = number xs (generator_at ws g + 4)

  abbrev pub cost_c : ℕ → Float
  cost_c g = number xs (generator_at ws g + 5)

  abbrev pub cost0 : ℕ → Float
  cost0 g = number xs (generator_at ws g + 6)

  abbrev pub pg_given : ℕ → Float
  pg_given g = number xs (generator_at ws g + 7)

  abbrev pub qg_given : ℕ → Float
  qg_given g = number xs (generator_at ws g + 8)

  -- branch b
  abbrev pub line_g : ℕ → Float
  line_g b = number xs (branch_at ws b)

  abbrev pub line_b : ℕ → Float
  line_b b = number xs (branch_at ws b + 1)

  abbrev pub g_fr : ℕ → Float
  g_fr b = number xs (branch_at ws b + 2)

  abbrev pub b_fr : ℕ → Float
  b_fr b = number xs (branch_at ws b + 3)

  abbrev pub g_to : ℕ → Float
  g_to b = number xs (branch_at ws b + 4)

  abbrev pub b_to : ℕ → Float
  b_to b = number xs (branch_at ws b + 5)

  abbrev pub tap : ℕ → Float
  tap b = number xs (branch_at ws b + 6)

  abbrev pub shift : ℕ → Float
  shift b = number xs (branch_at ws b + 7)

  abbrev pub angle_min : ℕ → Float
  angle_min b = number xs (branch_at ws b + 8)

  abbrev pub angle_max : ℕ → Float
  angle_max b = number xs (branch_at ws b + 9)

  abbrev pub s_max : ℕ → Float
  s_max b = number xs (branch_at ws b + 10)

  -- an active thermal limit with s_max above 0 gives rows
  abbrev pub rated : ℕ → Bool
  rated b = limited ws b && lt zero64 (s_max b)
