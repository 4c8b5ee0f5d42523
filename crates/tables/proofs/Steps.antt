-- A fault that is clear has place 0; what the code looks at for a blank.
use mathlib.Core.Path.{◌≡◌}
use mathlib.Core.List.{List}
use Prim.Native.Nat.{ℕ, ◌+◌, ◌-◌, ◌*◌, ◌≤◌}
use lib.ListN.{length, take, drop, length-drop}
use Rattle.std.proofs.lemmas.List.{get_or-drop}
use lib.Seq.{get_or-take, length-take-le}
use Rattle.base.specs.Fault.{or_else}
use Rattle.base.specs.Refusal.{BLANK}
use Rattle.base.proofs.Scans.{first_same}
use Rattle.lists.specs.internal.From.{non_finite_from}
use Rattle.network.specs.Limits.{generator_numbers, point_numbers}
use Rattle.network.specs.Network.{points, generator_at, curve_at}
use native.Mathlib.Omega.{arith}
use lib.Ieee.{Float, nan}
use Rattle.base.proofs.Firsts.{Proper, or_proper, unless_proper, first_proper}
use Rattle.tables.specs.Fault.{blanks, fault_square, branch_fault}

pub blanks_proper : (xs : List Float) (at count : ℕ) → Proper (blanks xs at count)
unfolding blanks
blanks_proper xs at count = first_proper count _ (λ j. unless_proper _ 4 _ (omega arith))

pub branch_proper : (ws : List ℕ) (xs : List Float) (b : ℕ) → Proper (branch_fault ws xs b)
unfolding branch_fault fault_square
branch_proper ws xs b = or_proper _ _ (or_proper _ _ (unless_proper _ 10 b (omega arith)))

-- the numbers looked at are a part of the list
pub blanks_are : (xs : List Float) (at count : ℕ) → at + count ≤ length xs → non_finite_from BLANK at (take (at + count - at) (drop at xs)) ≡ blanks xs at count
unfolding blanks non_finite_from
blanks_are xs at count h =
    let e : at + count - at ≡ count = omega arith in
    let n : length (take count (drop at xs)) ≡ count = length-take-le count (drop at xs) (omega (arith, length-drop at xs)) in
    rw (e, n) (first_same count _ _ (λ i l. rw (get_or-take count (drop at xs) i nan l, get_or-drop at xs i nan)))

-- q, c and c0 of a generator, counted from its curve
pub costs_are : (ws : List ℕ) (xs : List Float) (g : ℕ)
    → or_else (blanks xs (generator_at ws g + generator_numbers - generator_numbers + 4) 3) (blanks xs (generator_at ws g + generator_numbers) (point_numbers * points ws g))
    ≡ or_else (blanks xs (generator_at ws g + 4) 3) (blanks xs (curve_at ws g) (point_numbers * points ws g))
costs_are ws xs g = let e : generator_at ws g + generator_numbers - generator_numbers + 4 ≡ generator_at ws g + 4 = omega arith in rw e
