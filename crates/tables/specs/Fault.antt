-- Document 01, "Numbers a controller shows": refusals 4 to 10 of a network, each with its place, and the order of 1 to 10.
use Rattle.std.specs.Prelude.{ℕ, ◌+◌, ◌*◌, not, ◌||◌, List, [], ◌∷◌, Float}
use Rattle.std.specs.Float.Ieee.{lt}
use Rattle.base.specs.Fault.{Fault}
use Rattle.base.specs.Fault.{fault, unless, or_else, first, Section, section, first_of}
use Rattle.base.specs.Refusal.{WORDS, SIZE, COUNT, BLANK, CURVE, SHIFT, BOUNDS, SPREAD, RATING, SQUARE}
use Rattle.float.specs.Number.{◌⊗◌, zero64, is_finite}
use Rattle.network.specs.Limits.{point_numbers}
use Rattle.network.specs.Network.{buses, generators, branches, points, bus_at, generator_at, curve_at, branch_at, segments, number, power}
use Rattle.network.specs.Network.{vm_bounded, capable, angled, limited, vm_column, pg_column, qg_column}
use Rattle.network.specs.Network.{vm_min, vm_max, p_min, p_max, q_min, q_max, shift, angle_min, angle_max, s_max}
use Rattle.bounds.specs.Bounds.{bounds_right, angle_right}
use Rattle.network.specs.Fault.{fault_words, fault_size, fault_count}

-- 4 blank: `count` numbers from `at` on are required
unfoldable pub blanks : List Float → ℕ → ℕ → Fault
blanks xs at count = first count (λ j. unless (is_finite (number xs (at + j))) (fault BLANK (at + j)))

module _ (ws : List ℕ) (xs : List Float) where
  -- 4 blank: p_d to b_s of a bus; q, c, c0 and the curve of a generator; g to shift of a branch
  unfoldable pub fault_blank : Fault
  fault_blank =
      or_else (first (buses ws) (λ i. blanks xs (bus_at ws i) 4))
      (or_else (first (generators ws) (λ g.
      or_else (blanks xs (generator_at ws g + 4) 3) (blanks xs (curve_at ws g) (point_numbers * points ws g))))
      (first (branches ws) (λ b. blanks xs (branch_at ws b) 8)))

  -- 5 curve: a power not above the one before
  unfoldable pub fault_curve : Fault
  fault_curve =
      first (generators ws) (λ g. first (segments ws g) (λ s.
      unless (lt (power xs (curve_at ws g) s) (power xs (curve_at ws g) (s + 1))) (fault CURVE (curve_at ws g + point_numbers * (s + 1)))))

  -- 6 shift
  unfoldable pub fault_shift : Fault
  fault_shift = first (branches ws) (λ b. unless (angle_right (shift ws xs b)) (fault SHIFT (branch_at ws b + 7)))

  -- 7 bounds: buses, then pg, qg by generator; the column
  unfoldable pub fault_bounds : Fault
  fault_bounds =
      or_else
      (first (buses ws) (λ i. unless (not (vm_bounded ws i) || bounds_right (vm_min ws xs i) (vm_max ws xs i)) (fault BOUNDS (vm_column ws i))))
      (first (generators ws) (λ g.
      or_else (unless (not (capable ws g) || bounds_right (p_min ws xs g) (p_max ws xs g)) (fault BOUNDS (pg_column ws g)))
      (unless (not (capable ws g) || bounds_right (q_min ws xs g) (q_max ws xs g)) (fault BOUNDS (qg_column ws g)))))

  -- 8 spread, 9 rating, 10 square, each of branch b
  unfoldable pub fault_spread : ℕ → Fault
  fault_spread b = unless (not (angled ws b) || bounds_right (angle_min ws xs b) (angle_max ws xs b)) (fault SPREAD b)

  unfoldable pub fault_rating : ℕ → Fault
  fault_rating b = unless (not (limited ws b) || bounds_right zero64 (s_max ws xs b)) (fault RATING b)

  unfoldable pub fault_square : ℕ → Fault
  fault_square b = unless (not (limited ws b) || is_finite (s_max ws xs b ⊗ s_max ws xs b)) (fault SQUARE b)

  abbrev pub branch_sections : ℕ → List Section
  branch_sections b =
      section (SPREAD ∷ []) (fault_spread b) ∷ section (RATING ∷ []) (fault_rating b) ∷ section (SQUARE ∷ []) (fault_square b) ∷ []

  unfoldable pub branch_fault : ℕ → Fault
  branch_fault b = first_of (branch_sections b)

  -- "8, 9, 10 are taken branch by branch"
  unfoldable pub fault_branches : Fault
  fault_branches = first (branches ws) branch_fault

  -- 1 to 10 in their order
  abbrev pub table_sections : List Section
  table_sections =
      section (WORDS ∷ []) (fault_words ws) ∷ section (SIZE ∷ []) (fault_size ws) ∷ section (COUNT ∷ []) (fault_count ws xs)
      ∷ section (BLANK ∷ []) fault_blank ∷ section (CURVE ∷ []) fault_curve ∷ section (SHIFT ∷ []) fault_shift
      ∷ section (BOUNDS ∷ []) fault_bounds ∷ section (SPREAD ∷ RATING ∷ SQUARE ∷ []) fault_branches ∷ []

  -- the first of them
  unfoldable pub fault_tables : Fault
  fault_tables = first_of table_sections
