-- What a network that is not refused by 1 to 10 has: its words and sizes are right, and every active bound is finite.
use mathlib.Core.Path.{◌≡◌}
use mathlib.Core.List.{List}
use mathlib.Core.Bool.{Bool, true, not, ◌&&◌, ◌||◌}
use Prim.Native.Nat.{ℕ, ◌<◌}
use native.Mathlib.Omega.{arith}
use lib.Ieee.{Float}
use Rattle.base.proofs.Firsts.{Clear, or_left, or_right, unless_true, first_clear}
use Rattle.float.specs.Number.{◌⊗◌, zero64, is_finite}
use Rattle.bounds.specs.Bounds.{bounds_right}
use Rattle.network.specs.Fault.{fault_words, fault_size}
use Rattle.tables.specs.Fault.{fault_bounds, fault_spread, fault_rating, fault_square, branch_fault, fault_branches, fault_tables}
use Rattle.network.specs.Network.{buses, generators, branches, vm_bounded, capable, angled, limited, vm_min, vm_max, p_min, p_max, q_min, q_max, angle_min, angle_max, s_max}
use Rattle.network.proofs.Places.{and_left, and_right}

-- right bounds are finite
pub lower_right : (a b : Float) → bounds_right a b ≡ true → is_finite a ≡ true
unfolding bounds_right
lower_right a b h = and_left (is_finite a) (is_finite b) (and_left (is_finite a && is_finite b) _ h)

pub upper_right : (a b : Float) → bounds_right a b ≡ true → is_finite b ≡ true
unfolding bounds_right
upper_right a b h = and_right (is_finite a) (is_finite b) (and_left (is_finite a && is_finite b) _ h)

-- a test that is asked only where a flag is set
pub when_set : (flag test : Bool) → not flag || test ≡ true → flag ≡ true → test ≡ true
when_set flag test h e = rw e at h

module _ (ws : List ℕ) (xs : List Float) (accepted : Clear (fault_tables ws xs)) where
  pub words_clear : Clear (fault_words ws)
  unfolding fault_tables
  words_clear = or_left _ _ accepted

  pub size_clear : Clear (fault_size ws)
  unfolding fault_tables
  size_clear = or_left _ _ (or_right _ _ accepted)

  bounds_clear : Clear (fault_bounds ws xs)
  unfolding fault_tables
  bounds_clear = or_left _ _ (or_right _ _ (or_right _ _ (or_right _ _ (or_right _ _ (or_right _ _ (or_right _ _ accepted))))))

  branch_clear : (b : ℕ) → b < branches ws → Clear (branch_fault ws xs b)
  unfolding fault_tables fault_branches
  branch_clear b l =
      first_clear (branches ws) _ (or_right _ _ (or_right _ _ (or_right _ _ (or_right _ _ (or_right _ _ (or_right _ _ (or_right _ _ accepted))))))) b l

  -- 7: each active bound of vm, pg and qg
  pub vm_right : (i : ℕ) → i < buses ws → vm_bounded ws i ≡ true → bounds_right (vm_min ws xs i) (vm_max ws xs i) ≡ true
  unfolding fault_bounds
  vm_right i l on = when_set (vm_bounded ws i) _ (unless_true _ 7 _ (omega arith) (first_clear (buses ws) _ (or_left _ _ bounds_clear) i l)) on

  pub pg_right : (g : ℕ) → g < generators ws → capable ws g ≡ true → bounds_right (p_min ws xs g) (p_max ws xs g) ≡ true
  unfolding fault_bounds
  pg_right g l on = when_set (capable ws g) _ (unless_true _ 7 _ (omega arith) (or_left _ _ (first_clear (generators ws) _ (or_right _ _ bounds_clear) g l))) on

  pub qg_right : (g : ℕ) → g < generators ws → capable ws g ≡ true → bounds_right (q_min ws xs g) (q_max ws xs g) ≡ true
  unfolding fault_bounds
  qg_right g l on = when_set (capable ws g) _ (unless_true _ 7 _ (omega arith) (or_right _ _ (first_clear (generators ws) _ (or_right _ _ bounds_clear) g l))) on

  -- 8, 9, 10: each active angle bound and rating of a branch
  pub angle_right_is : (b : ℕ) → b < branches ws → angled ws b ≡ true → bounds_right (angle_min ws xs b) (angle_max ws xs b) ≡ true
  unfolding branch_fault fault_spread
  angle_right_is b l on = when_set (angled ws b) _ (unless_true _ 8 b (omega arith) (or_left _ _ (branch_clear b l))) on

  pub rating_right : (b : ℕ) → b < branches ws → limited ws b ≡ true → bounds_right zero64 (s_max ws xs b) ≡ true
  unfolding branch_fault fault_rating
  rating_right b l on = when_set (limited ws b) _ (unless_true _ 9 b (omega arith) (or_left _ _ (or_right _ _ (branch_clear b l)))) on

  pub square_right : (b : ℕ) → b < branches ws → limited ws b ≡ true → is_finite (s_max ws xs b ⊗ s_max ws xs b) ≡ true
  unfolding branch_fault fault_square
  square_right b l on = when_set (limited ws b) _ (unless_true _ 10 b (omega arith) (or_right _ _ (or_right _ _ (branch_clear b l)))) on
