-- Document 01, "The network file": the fields of each kind of word, and when a word's form is right.
use Rattle.std.specs.Prelude.{ℕ, ◌^◌, Bool, false, cond, not, ◌&&◌, eqb, ltb}
use Rattle.base.specs.Word.{kind_of, load_of, field, flag}

-- 1 header: load 1 for NetworkGeneratorCost, else 0
abbrev pub header_costs : ℕ → Bool
header_costs w = flag 0 w

-- 2 bus: bit 0 voltage bound active
abbrev pub bus_bounded : ℕ → Bool
bus_bounded w = flag 0 w

-- 3 generator: bits 0-11 bus, bit 12 capability active, bits 13-17 curve points
abbrev pub generator_bus : ℕ → ℕ
generator_bus w = field 0 12 w

abbrev pub generator_bounded : ℕ → Bool
generator_bounded w = flag 12 w

abbrev pub generator_points : ℕ → ℕ
generator_points w = field 13 5 w

-- 4 branch: bits 0-11 from bus, 12-23 to bus, bit 24 angle bound active, bit 25 thermal limit active
abbrev pub branch_from : ℕ → ℕ
branch_from w = field 0 12 w

abbrev pub branch_to : ℕ → ℕ
branch_to w = field 12 12 w

abbrev pub branch_angled : ℕ → Bool
branch_angled w = flag 24 w

abbrev pub branch_limited : ℕ → Bool
branch_limited w = flag 25 w

-- 5 reference: bits 0-11 bus
abbrev pub reference_bus : ℕ → ℕ
reference_bus w = field 0 12 w

-- "unnamed load bits are 0", a curve of "1 is a fault", and a bus number is below the count of bus words before
unfoldable pub load_right : ℕ → ℕ → Bool
load_right buses_before w =
    let kind = kind_of w in
    let load = load_of w in
    cond (eqb kind 1) (ltb load (2 ^ 1))
    (cond (eqb kind 2) (ltb load (2 ^ 1))
    (cond (eqb kind 3) (ltb load (2 ^ 18) && ltb (generator_bus w) buses_before && not (eqb (generator_points w) 1))
    (cond (eqb kind 4) (ltb load (2 ^ 26) && ltb (branch_from w) buses_before && ltb (branch_to w) buses_before)
    (cond (eqb kind 5) (ltb load (2 ^ 12) && ltb (reference_bus w) buses_before)
    false))))
