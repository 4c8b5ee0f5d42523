-- Where the numbers of generators and branches stand.
use mathlib.Core.Path.{◌≡◌, refl}
use mathlib.Core.List.{List}
use Prim.Native.Nat.{ℕ, zero, suc, ◌+◌, ◌-◌, ◌*◌, ◌≤◌, ◌<◌}
use native.Mathlib.Nat.{add-zero}
use native.Mathlib.Numerals.{add-one}
use native.Mathlib.Omega.{arith}
use Rattle.base.specs.Loop.{loop}
use Rattle.network.specs.Limits.{bus_numbers, generator_numbers, point_numbers, most_points}
use Rattle.network.specs.Network.{buses, generators, points, generator_at, branch_at}

module _ (ws : List ℕ) where
  pub generator_zero : generator_at ws 0 ≡ 8 * buses ws
  unfolding generator_at loop
  generator_zero = refl

  pub generator_next : (g : ℕ) → generator_at ws (g + 1) ≡ generator_at ws g + 9 + 2 * points ws g
  unfolding generator_at loop
  generator_next g = rw add-one

  generator_up : (g d : ℕ) → generator_at ws g ≤ generator_at ws (g + d)
  generator_up g zero = rw add-zero (omega arith)
  generator_up g (suc d) =
      let e : g + suc d ≡ g + d + 1 = omega arith in
      rw e (omega (arith, generator_up g d, generator_next (g + d)))

  -- one generator's numbers end where the next one's start, and all of them before the branches'
  pub generator_fits : (g k : ℕ) → g < k → generator_at ws g + 9 + 2 * points ws g ≤ generator_at ws k
  generator_fits g k h =
      let e : g + 1 + (k - (g + 1)) ≡ k = omega arith in
      let up : generator_at ws (g + 1) ≤ generator_at ws k = rw e at (generator_up (g + 1) (k - (g + 1))) in
      omega (arith, generator_next g)

  pub generator_start : (g : ℕ) → 8 * buses ws ≤ generator_at ws g
  generator_start g =
      let e : 0 + g ≡ g = omega arith in
      let up : generator_at ws 0 ≤ generator_at ws g = rw e at (generator_up 0 g) in
      omega (arith, generator_zero)

  -- with at most so many points a curve
  pub generator_high : ((g : ℕ) → g < generators ws → points ws g ≤ most_points) → (g : ℕ) → g ≤ generators ws
      → generator_at ws g ≤ bus_numbers * buses ws + (generator_numbers + point_numbers * most_points) * g
  generator_high l zero h = omega (arith, generator_zero)
  generator_high l (suc g) h =
      let e : suc g ≡ g + 1 = omega arith in
      rw e (omega (arith, generator_next g, generator_high l g (omega arith), l g (omega arith)))

  pub branch_first : branch_at ws 0 ≡ generator_at ws (generators ws)
  unfolding branch_at
  branch_first = omega arith

  pub branch_next : (b : ℕ) → branch_at ws (b + 1) ≡ branch_at ws b + 11
  unfolding branch_at
  branch_next b = omega arith
