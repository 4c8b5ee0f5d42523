-- An accepted point keeps its limits in exact numbers (KeptExactly), and so does one at which the check answers 0, in Rattle or across the C boundary.
use mathlib.Core.Path.{◌≡◌, refl, ap, sym, ◌∙◌}
use mathlib.Core.Bool.{true, false, false≢true}
use mathlib.Core.List.{List}
use Prim.Native.Nat.{ℕ, ◌+◌, ◌*◌, ◌^◌, ◌≤◌, ◌<◌}
use native.Mathlib.Omega.{arith}
use lib.Dec.{T, lit≤}
use lib.ListN.{length, get_or}
use lib.IntN.{◌-ℤ◌}
use lib.Ieee.{Float, nan, inf, fin, binary64, fits, lt, le, eq, of_bits, sub, add, neg}
use lib.Ieee.Fits.{sub-fits}
use Rattle.base.specs.Fault.{packed}
use Rattle.base.proofs.Loops.{Block, tally_counts}
use Rattle.float.specs.Number.{◌⊖◌, zero64, is_finite}
use Rattle.float.specs.Doubles.{Doubles}
use Rattle.float.proofs.Signs.{above_signed}
use Rattle.rounding.specs.Units.{units, size, above, excess}
use Rattle.rounding.proofs.Rounded.{sub_within}
use Rattle.rounding.proofs.AtMost.{at_most_units}
use Rattle.rounding.proofs.Excess.{excess_within, above_exact, below_exact}
use Rattle.hypot_error.proofs.Within.{hypot_within, hypot_within_unit}
use Rattle.fdlibm.specs.Hypot.{hypotenuse}
use Rattle.network.specs.Network.{buses, generators, branches, angled, limited, curved, epigraphs_before, columns, epigraph_column, angle_min, angle_max, s_max}
use Rattle.network.proofs.Places.{and_left, and_right}
use Rattle.tables.proofs.Right.{lower_right, upper_right, angle_right_is, rating_right}
use Rattle.acopf.specs.Columns.{column_lower, column_upper}
use Rattle.piecewise_cost.specs.Curve.{curve_value}
use Rattle.acopf.specs.Rows.{rated}
use Rattle.acopf.proofs.Counts.{lower_columns, upper_columns}
use Rattle.acopf.proofs.Right.{tables_clear, lower_finite, upper_finite}
use Rattle.derived.specs.Outputs.{va, pg, epigraph, own_objective, flows, p_from, q_from, p_to, q_to, outputs}
use Rattle.derived.proofs.Outputs.{outputs_at}
use Rattle.validate.specs.Tolerances.{tiny64}
use Rattle.validate.specs.Check.{checked}
use Rattle.validate.proofs.Tolerances.{tolerances_finite}
use Rattle.accepted.specs.Accepted.{Sound, Kept}
use Rattle.accepted.proofs.Kept.{flow_fits, answered_exactly_kept}
use Rattle.accepted.proofs.Obeyed.{obeyed_exactly}
use Rattle.exact.specs.Exactly.{UpTo, Rated, difference, exact_difference, KeptExactly, RatingsExact}
use Rattle.exact.proofs.Fits.{lower_fits, upper_fits, p_balance_fits, q_balance_fits, curve_fits, own_fits}
use Rattle.exact.proofs.Objective.{objective_within}

-- ---- between two finite bounds a number is finite

between : (a d b t : Float) → is_finite a ≡ true → is_finite b ≡ true → is_finite t ≡ true → le (a ⊖ d) t ≡ true → le (d ⊖ b) t ≡ true → is_finite d ≡ true
unfolding lt eq le is_finite sub add neg
between nan d b t ha hb ht l r = absurd (false≢true ha)
between (inf s) d b t ha hb ht l r = absurd (false≢true ha)
between (fin s m e) d nan t ha hb ht l r = absurd (false≢true hb)
between (fin s m e) d (inf u) t ha hb ht l r = absurd (false≢true hb)
between (fin s m e) d (fin u n f) nan ha hb ht l r = absurd (false≢true ht)
between (fin s m e) d (fin u n f) (inf v) ha hb ht l r = absurd (false≢true ht)
between (fin s m e) nan (fin u n f) (fin v k g) ha hb ht l r = absurd (false≢true l)
between (fin s m e) (inf true) (fin u n f) (fin v k g) ha hb ht l r = absurd (false≢true l)
between (fin s m e) (inf false) (fin u n f) (fin v k g) ha hb ht l r = absurd (false≢true r)
between (fin s m e) (fin w i h) (fin u n f) (fin v k g) ha hb ht l r = refl

-- ---- the accepted point

module _ (ws : List ℕ) (xs x : List Float) (solver : Float) (ts : List Float) (lent : ℕ) (D : Doubles xs) (P : Doubles x) (O : T (fits binary64 solver)) (E : Doubles ts) where
  abbrev F : List (List Float)
  F = flows ws xs x

  module _ (S : Sound ws xs x solver ts lent) (K : Kept ws xs x solver ts) where
    tolerance_finite : (i : ℕ) → i < 8 → is_finite (get_or ts i nan) ≡ true
    tolerance_finite = tolerances_finite ts S.tolerances_right

    -- what stands in the outputs is finite
    block_finite : {k n : ℕ} {f : ℕ → Float} → Block (outputs ws xs x F) k n f → (j : ℕ) → j < n → is_finite (f j) ≡ true
    block_finite {k} B j l = ap is_finite (sym (B.its j nan l)) ∙ S.outputs_finite (k + j) (omega (arith, B.fits))

    column_finite : (j : ℕ) → j < columns ws → is_finite (get_or x j nan) ≡ true
    column_finite j l = S.point_finite j (omega (arith, S.columns_given))

    va_finite : (i : ℕ) → i < buses ws → is_finite (va ws x i) ≡ true
    unfolding columns
    va_finite i l = column_finite i (omega arith)

    lower_kept : (j : ℕ) → j < columns ws → UpTo (excess (get_or (column_lower ws xs) j nan) (get_or x j nan)) (get_or ts 2 nan)
    lower_kept j l =
        let f = lower_finite ws xs (tables_clear ws xs S.network) j (omega (arith, lower_columns ws xs)) in
        excess_within _ _ (get_or ts 2 nan) (lower_fits ws xs D j l) (P j) (E 2) f (column_finite j l) (tolerance_finite 2 (omega arith)) (K.lower j l)

    upper_kept : (j : ℕ) → j < columns ws → UpTo (excess (get_or x j nan) (get_or (column_upper ws xs) j nan)) (get_or ts 2 nan)
    upper_kept j l =
        let f = upper_finite ws xs (tables_clear ws xs S.network) j (omega (arith, upper_columns ws xs)) in
        excess_within _ _ (get_or ts 2 nan) (P j) (upper_fits ws xs D j l) (E 2) (column_finite j l) f (tolerance_finite 2 (omega arith)) (K.upper j l)

    module _ (b : ℕ) (inside : b < branches ws) where
      module _ (on : angled ws b ≡ true) where
        lowest : is_finite (angle_min ws xs b) ≡ true
        lowest = lower_right _ _ (angle_right_is ws xs (tables_clear ws xs S.network) b inside on)

        highest : is_finite (angle_max ws xs b) ≡ true
        highest = upper_right _ _ (angle_right_is ws xs (tables_clear ws xs S.network) b inside on)

        difference_finite : is_finite (difference ws x b) ≡ true
        difference_finite = between _ _ _ (get_or ts 4 nan) lowest highest (tolerance_finite 4 (omega arith)) (K.angle_lower b inside on) (K.angle_upper b inside on)

        angle_low : UpTo (excess (angle_min ws xs b) (difference ws x b)) (get_or ts 4 nan)
        angle_low = excess_within _ _ (get_or ts 4 nan) (D _) (sub-fits binary64 _ _) (E 4) lowest difference_finite (tolerance_finite 4 (omega arith)) (K.angle_lower b inside on)

        angle_high : UpTo (excess (difference ws x b) (angle_max ws xs b)) (get_or ts 4 nan)
        angle_high = excess_within _ _ (get_or ts 4 nan) (sub-fits binary64 _ _) (D _) (E 4) difference_finite highest (tolerance_finite 4 (omega arith)) (K.angle_upper b inside on)

        angles_low : 2 ^ 53 * above (units (angle_min ws xs b) -ℤ exact_difference ws x b) ≤ (2 ^ 53 + 1) * size (get_or ts 4 nan) + size (difference ws x b)
        angles_low = above_exact (units (angle_min ws xs b)) (units (difference ws x b)) (exact_difference ws x b) _ _ (sub_within _ _ (P _) (P _) difference_finite) angle_low

        angles_high : 2 ^ 53 * above (exact_difference ws x b -ℤ units (angle_max ws xs b)) ≤ (2 ^ 53 + 1) * size (get_or ts 4 nan) + size (difference ws x b)
        angles_high = below_exact (units (angle_max ws xs b)) (units (difference ws x b)) (exact_difference ws x b) _ _ (sub_within _ _ (P _) (P _) difference_finite) angle_high

      module _ (on : rated ws xs b ≡ true) where
        finite_rating : is_finite (s_max ws xs b) ≡ true
        finite_rating = upper_right zero64 (s_max ws xs b) (rating_right ws xs (tables_clear ws xs S.network) b inside (and_left (limited ws b) (lt zero64 (s_max ws xs b)) on))

        -- p and q at one end
        end_rated : (p q : Float) → T (fits binary64 p) → T (fits binary64 q) → is_finite p ≡ true → is_finite q ≡ true → le (hypotenuse p q ⊖ s_max ws xs b) (get_or ts 5 nan) ≡ true → Rated p q (s_max ws xs b) (get_or ts 5 nan)
        end_rated p q fp fq hp hq l =
            let sign = above_signed (s_max ws xs b) (and_right (limited ws b) (lt zero64 (s_max ws xs b)) on) in
            record {
              usual = hypot_within p q (s_max ws xs b) (get_or ts 5 nan) fp fq (D _) (E 5) hp hq finite_rating (tolerance_finite 5 (omega arith)) sign l;
              least = hypot_within_unit p q (s_max ws xs b) (get_or ts 5 nan) fp fq (D _) (E 5) hp hq finite_rating (tolerance_finite 5 (omega arith)) sign l;
            }

        from_rated : Rated (p_from F b) (q_from F b) (s_max ws xs b) (get_or ts 5 nan)
        from_rated =
            let B = outputs_at ws xs x F in
            let f = flow_fits ws xs x b inside in
            end_rated (p_from F b) (q_from F b) f.p_from_is f.q_from_is (block_finite B.p_from_is b inside) (block_finite B.q_from_is b inside) (K.rating_from b inside on)

        to_rated : Rated (p_to F b) (q_to F b) (s_max ws xs b) (get_or ts 5 nan)
        to_rated =
            let B = outputs_at ws xs x F in
            let f = flow_fits ws xs x b inside in
            end_rated (p_to F b) (q_to F b) f.p_to_is f.q_to_is (block_finite B.p_to_is b inside) (block_finite B.q_to_is b inside) (K.rating_to b inside on)

    curve_kept : (g : ℕ) → g < generators ws → curved ws g ≡ true → is_finite (curve_value ws xs g (pg ws x g)) ≡ true → UpTo (excess (curve_value ws xs g (pg ws x g)) (epigraph ws x g)) (get_or ts 6 nan)
    unfolding columns epigraphs_before
    curve_kept g l c f =
        let e = column_finite (epigraph_column ws g) (omega (arith, tally_counts g (generators ws) (curved ws) c l)) in
        excess_within _ _ (get_or ts 6 nan) (curve_fits ws xs g (pg ws x g)) (P _) (E 6) f e (tolerance_finite 6 (omega arith)) (K.curve g l c)

    pub kept_exactly : KeptExactly ws xs x solver ts
    kept_exactly = record {
      active = λ i l. (at_most_units _ (get_or ts 0 nan) (p_balance_fits ws xs x F i) (E 0) (tolerance_finite 0 (omega arith)) (K.active i l)).1;
      reactive = λ i l. (at_most_units _ (get_or ts 1 nan) (q_balance_fits ws xs x F i) (E 1) (tolerance_finite 1 (omega arith)) (K.reactive i l)).1;
      lower = lower_kept;
      upper = upper_kept;
      reference = λ r l. (at_most_units _ (get_or ts 3 nan) (P _) (E 3) (tolerance_finite 3 (omega arith)) (K.reference r l)).1;
      angle_lower = angle_low;
      angle_upper = angle_high;
      angles_lower = angles_low;
      angles_upper = angles_high;
      rating_from = from_rated;
      rating_to = to_rated;
      curve = curve_kept;
      objective = objective_within solver (own_objective ws xs x) (get_or ts 7 nan) O (own_fits ws xs x) (E 7) S.own_finite (tolerance_finite 7 (omega arith)) K.objective;
    }

  -- ---- where the check answers 0

  pub answered_keeps_exactly : (checked ws xs x solver ts lent).fault.number ≡ 0 → KeptExactly ws xs x solver ts
  answered_keeps_exactly z = let h = (answered_exactly_kept ws xs x solver ts lent).0 z in kept_exactly h.0 h.1

  -- and the one number that the check gives across the C boundary
  pub obeyed_keeps_exactly : packed (checked ws xs x solver ts lent).fault ≡ 0 → KeptExactly ws xs x solver ts
  obeyed_keeps_exactly z = let h = (obeyed_exactly ws xs x solver ts lent).0 z in kept_exactly h.0 h.1

-- ---- the ratings

tiny_large : 2 ^ 52 < size tiny64
unfolding units of_bits
tiny_large = lit≤ tt

-- with a tolerance of 1e-6 any s_max will do
pub primal_large : (s : ℕ) → 2 ^ 52 < s + size tiny64
primal_large s = let t = tiny_large in omega arith

module _ (ws : List ℕ) (xs x : List Float) (solver : Float) (ts : List Float) where
  pub rating_exact : KeptExactly ws xs x solver ts → RatingsExact ws xs x (get_or ts 5 nan)
  rating_exact K b l on some = ((K.rating_from b l on).usual some, (K.rating_to b l on).usual some)

  module _ (lent : ℕ) (D : Doubles xs) (P : Doubles x) (O : T (fits binary64 solver)) (E : Doubles ts) where
    pub rating_answered : (checked ws xs x solver ts lent).fault.number ≡ 0 → RatingsExact ws xs x (get_or ts 5 nan)
    rating_answered z = rating_exact (answered_keeps_exactly ws xs x solver ts lent D P O E z)

    pub rating_obeyed : packed (checked ws xs x solver ts lent).fault ≡ 0 → RatingsExact ws xs x (get_or ts 5 nan)
    rating_obeyed z = rating_exact (obeyed_keeps_exactly ws xs x solver ts lent D P O E z)

  -- of a call: the clauses of the contract of `fervoulk_check`, with r its answer and `before` the output list at entry, and that r is 0
  pub check_keeps_exactly : (r : ℕ) (before : List Float)
      → r ≡ packed (checked ws xs x solver ts (length before)).fault
      → Doubles xs → Doubles x → T (fits binary64 solver) → Doubles ts → r ≡ 0
      → KeptExactly ws xs x solver ts × RatingsExact ws xs x (get_or ts 5 nan)
  check_keeps_exactly r before is D P O E z =
      let K = obeyed_keeps_exactly ws xs x solver ts (length before) D P O E (sym is ∙ z) in
      (K, rating_exact K)
