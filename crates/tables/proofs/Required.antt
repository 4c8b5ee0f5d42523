-- What refusal 4 leaves: every required number is finite.
use mathlib.Core.Path.{◌≡◌}
use mathlib.Core.List.{List}
use mathlib.Core.Bool.{true}
use Prim.Native.Nat.{ℕ, ◌+◌, ◌<◌}
use native.Mathlib.Nat.{add-zero}
use native.Mathlib.Omega.{arith}
use lib.Ieee.{Float}
use Rattle.base.proofs.Firsts.{Clear, or_left, or_right, unless_true, first_clear}
use Rattle.float.specs.Number.{is_finite}
use Rattle.tables.specs.Fault.{blanks, fault_blank, fault_tables}
use Rattle.network.specs.Network.{buses, generators, bus_at, generator_at, number, p_d, q_d, g_s, b_s, cost_q, cost_c}

finite_from : (xs : List Float) (at count j : ℕ) → Clear (blanks xs at count) → j < count → is_finite (number xs (at + j)) ≡ true
unfolding blanks
finite_from xs at count j h l = unless_true _ 4 _ (omega arith) (first_clear count _ h j l)

module _ (ws : List ℕ) (xs : List Float) (right : Clear (fault_tables ws xs)) where
  blank_clear : Clear (fault_blank ws xs)
  unfolding fault_tables
  blank_clear = or_left _ _ (or_right _ _ (or_right _ _ (or_right _ _ right)))

  bus_required : (i j : ℕ) → i < buses ws → j < 4 → is_finite (number xs (bus_at ws i + j)) ≡ true
  unfolding fault_blank
  bus_required i j l k = finite_from xs (bus_at ws i) 4 j (first_clear (buses ws) _ (or_left _ _ blank_clear) i l) k

  pub p_d_finite : (i : ℕ) → i < buses ws → is_finite (p_d ws xs i) ≡ true
  p_d_finite i l = rw add-zero at (bus_required i 0 l (omega arith))

  pub q_d_finite : (i : ℕ) → i < buses ws → is_finite (q_d ws xs i) ≡ true
  q_d_finite i l = bus_required i 1 l (omega arith)

  pub g_s_finite : (i : ℕ) → i < buses ws → is_finite (g_s ws xs i) ≡ true
  g_s_finite i l = bus_required i 2 l (omega arith)

  pub b_s_finite : (i : ℕ) → i < buses ws → is_finite (b_s ws xs i) ≡ true
  b_s_finite i l = bus_required i 3 l (omega arith)

  cost_required : (g j : ℕ) → g < generators ws → j < 3 → is_finite (number xs (generator_at ws g + 4 + j)) ≡ true
  unfolding fault_blank
  cost_required g j l k =
      finite_from xs (generator_at ws g + 4) 3 j (or_left _ _ (first_clear (generators ws) _ (or_left _ _ (or_right _ _ blank_clear)) g l)) k

  pub cost_q_finite : (g : ℕ) → g < generators ws → is_finite (cost_q ws xs g) ≡ true
  cost_q_finite g l = rw add-zero at (cost_required g 0 l (omega arith))

  pub cost_c_finite : (g : ℕ) → g < generators ws → is_finite (cost_c ws xs g) ≡ true
  cost_c_finite g l =
      let e : generator_at ws g + 4 + 1 ≡ generator_at ws g + 5 = omega arith in
      rw e at (cost_required g 1 l (omega arith))
