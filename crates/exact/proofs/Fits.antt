-- The numbers that the check compares are doubles, where those of the network and of the point are.
use mathlib.Core.Path.{◌≡◌}
use mathlib.Core.Bool.{Bool, true, cond}
use mathlib.Core.List.{List}
use Prim.Native.Nat.{ℕ, ◌<◌}
use native.Mathlib.Omega.{arith}
use lib.Dec.{T, eqb}
use lib.ListN.{length, get_or}
use lib.Ieee.{Float, nan, inf, neg, binary64, fits}
use lib.Ieee.Bits.{of_bits-fits}
use lib.Ieee.Fits.{add-fits, sub-fits, neg-fits, inf-fits, cond-fits}
use Rattle.base.proofs.Loops.{Every, every_append, every_table, all_at, loop_keeps}
use Rattle.float.specs.Number.{◌⊖◌, zero64}
use Rattle.float.specs.Doubles.{Doubles}
use Rattle.network.specs.Network.{buses, generators, branches, costs, bus_of, from, to, vm_bounded, capable, epigraphs_before, columns, segments}
use Rattle.bounds.specs.Bounds.{huge64}
use Rattle.acopf.specs.Columns.{vm_lower, vm_upper, pg_lower, pg_upper, qg_lower, qg_upper, column_lower, column_upper}
use Rattle.piecewise_cost.specs.Curve.{evaluate, curve_value}
use Rattle.acopf.proofs.Counts.{lower_columns, upper_columns}
use Rattle.derived.specs.Outputs.{injected, withdrawn, p_injection, q_injection, own_objective}
use Rattle.residuals.specs.Residuals.{p_balance, q_balance}
use Rattle.accepted.proofs.Floats.{maximum_either}

abbrev Fits : ℕ → Float → Type 0
Fits j x = T (fits binary64 x)

all_fit : (l : List Float) (n : ℕ) → length l ≡ n → Every Fits 0 l → (j : ℕ) → j < n → T (fits binary64 (get_or l j nan))
all_fit l n e h j k = all_at Fits 0 l h.all j nan (omega arith)

huge_fits : T (fits binary64 huge64)
huge_fits = of_bits-fits binary64 _

low_fits : T (fits binary64 (neg huge64))
low_fits = neg-fits binary64 huge64 huge_fits

-- ---- the columns' bounds

module _ (ws : List ℕ) (xs : List Float) (D : Doubles xs) where
  pub lower_fits : (j : ℕ) → j < columns ws → T (fits binary64 (get_or (column_lower ws xs) j nan))
  unfolding column_lower vm_lower pg_lower qg_lower
  lower_fits =
      all_fit (column_lower ws xs) (columns ws) (lower_columns ws xs) (every_append (every_append (every_append (every_append
      (every_table (buses ws) _ (λ i l. low_fits))
      (every_table (buses ws) _ (λ i l. cond-fits binary64 (vm_bounded ws i) _ _ (D _) (of_bits-fits binary64 _))))
      (every_table (generators ws) _ (λ g l. cond-fits binary64 (capable ws g) _ _ (D _) low_fits)))
      (every_table (generators ws) _ (λ g l. cond-fits binary64 (capable ws g) _ _ (D _) low_fits)))
      (every_table (epigraphs_before ws (generators ws)) _ (λ e l. low_fits)))

  pub upper_fits : (j : ℕ) → j < columns ws → T (fits binary64 (get_or (column_upper ws xs) j nan))
  unfolding column_upper vm_upper pg_upper qg_upper
  upper_fits =
      all_fit (column_upper ws xs) (columns ws) (upper_columns ws xs) (every_append (every_append (every_append (every_append
      (every_table (buses ws) _ (λ i l. huge_fits))
      (every_table (buses ws) _ (λ i l. cond-fits binary64 (vm_bounded ws i) _ _ (D _) huge_fits)))
      (every_table (generators ws) _ (λ g l. cond-fits binary64 (capable ws g) _ _ (D _) huge_fits)))
      (every_table (generators ws) _ (λ g l. cond-fits binary64 (capable ws g) _ _ (D _) huge_fits)))
      (every_table (epigraphs_before ws (generators ws)) _ (λ e l. huge_fits)))

-- ---- balances and curves: what a sum, a difference or a maximum gives

injected_fits : (ws : List ℕ) (i : ℕ) (output : ℕ → Float) (start : Float) → T (fits binary64 start) → T (fits binary64 (injected ws i output start))
unfolding injected
injected_fits ws i output start h = loop_keeps (λ s. T (fits binary64 s)) _ start (generators ws) h (λ s g l k. cond-fits binary64 (eqb (bus_of ws g) i) _ s (add-fits binary64 _ _) k)

turn_fits : (a b : Bool) (s x y : Float) → T (fits binary64 s) → T (fits binary64 (cond b (cond a (s ⊖ x) s ⊖ y) (cond a (s ⊖ x) s)))
turn_fits a b s x y h = cond-fits binary64 b _ _ (sub-fits binary64 _ _) (cond-fits binary64 a _ s (sub-fits binary64 _ _) h)

withdrawn_fits : (ws : List ℕ) (i : ℕ) (at_from at_to : ℕ → Float) (start : Float) → T (fits binary64 start) → T (fits binary64 (withdrawn ws i at_from at_to start))
unfolding withdrawn
withdrawn_fits ws i at_from at_to start h =
    loop_keeps (λ s. T (fits binary64 s)) _ start (branches ws) h (λ s b l k. turn_fits (eqb (from ws b) i) (eqb (to ws b) i) s (at_from b) (at_to b) k)

module _ (ws : List ℕ) (xs x : List Float) (fs : List (List Float)) (i : ℕ) where
  pub p_balance_fits : T (fits binary64 (p_balance ws xs x fs i))
  unfolding p_balance p_injection
  p_balance_fits = withdrawn_fits ws i _ _ _ (injected_fits ws i _ _ (sub-fits binary64 _ _))

  pub q_balance_fits : T (fits binary64 (q_balance ws xs x fs i))
  unfolding q_balance q_injection
  q_balance_fits = withdrawn_fits ws i _ _ _ (injected_fits ws i _ _ (add-fits binary64 _ _))

pub curve_fits : (ws : List ℕ) (xs : List Float) (g : ℕ) (p : Float) → T (fits binary64 (curve_value ws xs g p))
unfolding evaluate
curve_fits ws xs g p =
    loop_keeps (λ s. T (fits binary64 s)) _ (inf true) (segments ws g) (inf-fits binary64 true) (λ most s k n. maximum_either (λ v. T (fits binary64 v)) most _ n (add-fits binary64 _ _))

pub own_fits : (ws : List ℕ) (xs x : List Float) → T (fits binary64 (own_objective ws xs x))
unfolding own_objective
own_fits ws xs x =
    let z = of_bits-fits binary64 _ in
    cond-fits binary64 (costs ws) _ zero64 (loop_keeps (λ s. T (fits binary64 s)) _ zero64 (generators ws) z (λ s g l k. add-fits binary64 _ _)) z
