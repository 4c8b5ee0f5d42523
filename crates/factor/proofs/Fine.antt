-- Where refusals 1 to 10 are clear, all constants of the rows but the segments', and of the objective, are finite.
use mathlib.Core.Path.{◌≡◌, refl, ◌∙◌}
use mathlib.Core.List.{List}
use mathlib.Core.Bool.{Bool, true}
use Prim.Native.Nat.{ℕ}
use lib.ListN.{get_or}
use lib.Dec.{T}
use lib.Ieee.{Float, nan, binary64, of_bits, neg, lt, fits}
use lib.Ieee.Bits.{of_bits-fits}
use lib.Ieee.Fits.{neg-fits, mul-fits}
use Rattle.base.proofs.Firsts.{Clear}
use Rattle.base.proofs.Loops.{Every}
use Rattle.float.specs.Number.{zero64, one64, is_finite}
use Rattle.tables.specs.Fault.{fault_tables}
use Rattle.network.specs.Network.{limited, s_max, cost_q}
use Rattle.network.proofs.Places.{and_left}
use Rattle.tables.proofs.Right.{square_right}
use Rattle.tables.proofs.Required.{p_d_finite, q_d_finite, g_s_finite, b_s_finite, cost_q_finite, cost_c_finite}
use Rattle.acopf.specs.Model.{objective}
use Rattle.acopf.proofs.Sizes.{first_rows}
use Rattle.acopf.proofs.Constants.{Each, EachRow, Has, HaveNumbers, rows_each, objective_each}
use Rattle.factor.proofs.Numbers.{neg_finite, back_finite, half_finite}

-- the test of a constant, by its bits
abbrev pub finite_bits : ℕ → Bool
finite_bits b = is_finite (of_bits binary64 b)

abbrev pub FiniteBits : ℕ → ℕ → Type 0
FiniteBits i b = finite_bits b ≡ true

-- a number that fits 64 bits, and is finite
has_finite : {x : Float} → T (fits binary64 x) → is_finite x ≡ true → Has FiniteBits x
has_finite {x} fit finite = record { its = λ k. back_finite x fit ∙ finite }

has_zero : Has FiniteBits zero64
unfolding of_bits is_finite
has_zero = has_finite (of_bits-fits binary64 0) refl

one_finite : is_finite one64 ≡ true
unfolding of_bits is_finite
one_finite = refl

has_neg : (x : Float) → T (fits binary64 x) → is_finite x ≡ true → Has FiniteBits (neg x)
has_neg x fit finite = has_finite (neg-fits binary64 x fit) (neg_finite x finite)

module _ (ws : List ℕ) (xs : List Float) (right : Clear (fault_tables ws xs)) (F : (j : ℕ) → T (fits binary64 (get_or xs j nan))) where
  -- s_max squared is finite where it has a row
  numbers_finite : HaveNumbers FiniteBits ws xs
  numbers_finite = record {
    zero = has_zero;
    minus_one = has_neg one64 (of_bits-fits binary64 _) one_finite;
    p_demand_is = λ i l. has_neg _ (F _) (p_d_finite ws xs right i l);
    p_shunt = λ i l. has_neg _ (F _) (g_s_finite ws xs right i l);
    q_demand_is = λ i l. has_neg _ (F _) (q_d_finite ws xs right i l);
    q_shunt = λ i l. has_finite (F _) (b_s_finite ws xs right i l);
    rating = λ b l on. has_finite (mul-fits binary64 _ _) (square_right ws xs right b l (and_left (limited ws b) (lt zero64 (s_max ws xs b)) on));
    half_q = λ g l. has_finite (mul-fits binary64 _ _) (half_finite (cost_q ws xs g) (F _) (cost_q_finite ws xs right g l));
    linear = λ g l. has_finite (F _) (cost_c_finite ws xs right g l);
  }

  pub rows_fine : Every (EachRow FiniteBits) 0 (first_rows ws xs)
  rows_fine = rows_each ws xs numbers_finite

  pub objective_fine : Each FiniteBits (objective ws xs)
  objective_fine = objective_each ws xs numbers_finite
