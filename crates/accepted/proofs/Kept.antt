-- At an accepted point every comparison holds as `at most`: no NaN hides behind a maximum that ignores it.
use mathlib.Core.Path.{◌≡◌, refl, ap, sym, ◌∙◌}
use mathlib.Core.List.{List, []}
use mathlib.Core.Logic.{◌↔◌}
use mathlib.Core.Bool.{Bool, true, false, cond}
use Prim.Native.Nat.{ℕ, ◌+◌, ◌<◌}
use native.Mathlib.Omega.{arith}
use lib.ListN.{get_or}
use lib.Dec.{T, eqb}
use lib.Ieee.{Float, nan, inf, binary64, fits, lt, of_bits}
use lib.Ieee.Fits.{add-fits, sub-fits}
use Rattle.base.specs.Fault.{clear}
use Rattle.base.proofs.Loops.{get_d_table, Block, loop_keeps, tally_counts}
use Rattle.float.specs.Number.{◌⊖◌, ◌⊘◌, zero64, one64, is_finite, absolute, maximum}
use Rattle.float.proofs.Really.{Number, cond_number, inf_number, finite_number, absolute_number, absolute_finite, plus_finite, less_finite, finite_less, times_finite}
use Rattle.float.proofs.Signs.{above_signed}
use Rattle.fdlibm.specs.Hypot.{hypotenuse}
use Rattle.fdlibm.proofs.HypotNumber.{hypotenuse_number}
use Rattle.network.specs.Network.{buses, generators, branches, from, to, angled, limited, curved, segments, curve_at, epigraphs_before, columns, pg_column, epigraph_column, angle_min, angle_max, s_max}
use Rattle.network.proofs.Places.{and_left, and_right, from_bus, to_bus, referred_bus}
use Rattle.tables.proofs.Right.{lower_right, upper_right, words_clear, angle_right_is, rating_right}
use Rattle.acopf.specs.Columns.{column_lower, column_upper}
use Rattle.piecewise_cost.specs.Curve.{slope, intercept, evaluate, curve_value}
use Rattle.acopf.specs.Factor.{network_fault}
use Rattle.pi_model.specs.Flow.{flow_at, flow_of, flow}
use Rattle.acopf.specs.Rows.{rated}
use Rattle.acopf.proofs.Counts.{lower_columns, upper_columns}
use Rattle.acopf.proofs.Right.{tables_clear, lower_finite, upper_finite, slope_finite, intercept_finite}
use Rattle.accepted.specs.Accepted.{Sound, Kept, Accepted, AtMost, NotAbove}
use Rattle.validate.specs.Check.{check_fault, checked}
use Rattle.validate.proofs.Tolerances.{tolerances_finite, tolerances_not_below}
use Rattle.derived.specs.Outputs.{va, pg, epigraph, withdrawn, p_injection, q_injection, own_objective, flows, p_from, q_from, p_to, q_to, outputs}
use Rattle.residuals.specs.Residuals.{p_balance, q_balance}
use Rattle.accepted.proofs.Accepts.{accepted_exactly, answered_exactly, within_violation, within_cut}
use Rattle.accepted.proofs.Floats.{at_most, most_not, maximum_either, maximum_not, less_kept, at_least_one, over_one}
use Rattle.derived.proofs.Outputs.{outputs_at}

one_finite : is_finite one64 ≡ true
unfolding of_bits is_finite
one_finite = refl

-- ---- balances

-- one turn of `withdrawn`
turn_number : (a b : Bool) (s x y : Float) → Number s → is_finite x ≡ true → is_finite y ≡ true → Number (cond b (cond a (s ⊖ x) s ⊖ y) (cond a (s ⊖ x) s))
turn_number a b s x y h f t =
    let r = cond_number a (s ⊖ x) s (less_finite s x h f) h in
    cond_number b (cond a (s ⊖ x) s ⊖ y) (cond a (s ⊖ x) s) (less_finite (cond a (s ⊖ x) s) y r t) r

pub withdrawn_number : (ws : List ℕ) (i : ℕ) (at_from at_to : ℕ → Float) (start : Float) → is_finite start ≡ true
    → ((b : ℕ) → b < branches ws → is_finite (at_from b) ≡ true) → ((b : ℕ) → b < branches ws → is_finite (at_to b) ≡ true) → Number (withdrawn ws i at_from at_to start)
unfolding withdrawn
withdrawn_number ws i at_from at_to start h f t =
    loop_keeps Number _ start (branches ws) (finite_number start h) (λ s b l k. turn_number (eqb (from ws b) i) (eqb (to ws b) i) s (at_from b) (at_to b) k (f b l) (t b l))

-- ---- flows: each is a sum or a difference, so f64 holds it

pub record FlowFits (fs : List (List Float)) (b : ℕ) : Type 0 where
  pub p_from_is : T (fits binary64 (p_from fs b))
  pub q_from_is : T (fits binary64 (q_from fs b))
  pub p_to_is : T (fits binary64 (p_to fs b))
  pub q_to_is : T (fits binary64 (q_to fs b))

pub flow_fits : (ws : List ℕ) (xs x : List Float) (b : ℕ) → b < branches ws → FlowFits (flows ws xs x) b
unfolding flows flow flow_of flow_at
flow_fits ws xs x b l =
    let e = get_d_table (branches ws) (flow ws xs x) [] b l in
    record {
      p_from_is = rw e (sub-fits binary64 _ _);
      q_from_is = rw e (add-fits binary64 _ _);
      p_to_is = rw e (sub-fits binary64 _ _);
      q_to_is = rw e (add-fits binary64 _ _);
    }

-- ---- curves

curve_number : (ws : List ℕ) (xs : List Float) → network_fault ws xs ≡ clear → (g : ℕ) (p : Float) → g < generators ws → curved ws g ≡ true → is_finite p ≡ true → Number (curve_value ws xs g p)
unfolding evaluate
curve_number ws xs A g p l c f =
    loop_keeps Number _ (inf true) (segments ws g) (inf_number true) (λ most s k n. maximum_either Number most _ n
    (plus_finite _ (intercept xs (curve_at ws g) s) (times_finite (slope xs (curve_at ws g) s) p (slope_finite ws xs A g s l c k) f) (intercept_finite ws xs A g s l c k)))

-- ---- a rating: two numbers, the larger of which is within s_max

rating_both : (t h k s : Float) → Number t → lt t zero64 ≡ false → Number h → Number k → is_finite s ≡ true → lt zero64 s ≡ true
    → NotAbove t (maximum (maximum h k ⊖ s) zero64) → AtMost t (h ⊖ s) × AtMost t (k ⊖ s)
rating_both t h k s nt z nh nk fs above w =
    let m = maximum_either Number h k nh nk in
    let v = (within_cut t z (maximum h k ⊖ s)).0 w in
    let g = above_signed s above in (
      at_most t (h ⊖ s) nt (less_finite h s nh fs) (less_kept t z h (maximum h k) s m fs g (maximum_not h k).0 v),
      at_most t (k ⊖ s) nt (less_finite k s nk fs) (less_kept t z k (maximum h k) s m fs g (maximum_not h k).1 v),
    )

-- ---- the accepted point

module _ (ws : List ℕ) (xs x : List Float) (solver : Float) (ts : List Float) (lent : ℕ) (A : Accepted ws xs x solver ts lent) where
  abbrev F : List (List Float)
  F = flows ws xs x

  -- each tolerance is a number and not below 0, so that what is not above it is at most it
  tolerance_number : (i : ℕ) → i < 8 → Number (get_or ts i nan)
  tolerance_number i l = finite_number _ (tolerances_finite ts A.sound.tolerances_right i l)

  zero_not : (i : ℕ) → i < 8 → lt (get_or ts i nan) zero64 ≡ false
  zero_not = tolerances_not_below ts A.sound.tolerances_right

  within_at_most : (i : ℕ) → i < 8 → (v : Float) → Number v → NotAbove (get_or ts i nan) v → AtMost (get_or ts i nan) v
  within_at_most i l v n w = at_most (get_or ts i nan) v (tolerance_number i l) n w

  -- what stands in the outputs is finite
  block_finite : {k n : ℕ} {f : ℕ → Float} → Block (outputs ws xs x F) k n f → (j : ℕ) → j < n → is_finite (f j) ≡ true
  block_finite {k} B j l = ap is_finite (sym (B.its j nan l)) ∙ A.sound.outputs_finite (k + j) (omega (arith, B.fits))

  column_finite : (j : ℕ) → j < columns ws → is_finite (get_or x j nan) ≡ true
  column_finite j l = A.sound.point_finite j (omega (arith, A.sound.columns_given))

  va_finite : (i : ℕ) → i < buses ws → is_finite (va ws x i) ≡ true
  unfolding columns
  va_finite i l = column_finite i (omega arith)

  in_bounds : (j : ℕ) → j < columns ws → AtMost (get_or ts 2 nan) (get_or (column_lower ws xs) j nan ⊖ get_or x j nan) × AtMost (get_or ts 2 nan) (get_or x j nan ⊖ get_or (column_upper ws xs) j nan)
  in_bounds j l =
      let v = get_or x j nan in
      let f = column_finite j l in
      let right = tables_clear ws xs A.sound.network in
      let lo = lower_finite ws xs right j (omega (arith, lower_columns ws xs)) in
      let hi = upper_finite ws xs right j (omega (arith, upper_columns ws xs)) in
      let w = (within_violation _ (zero_not 2 (omega arith)) v (get_or (column_lower ws xs) j nan) (get_or (column_upper ws xs) j nan)).0 (A.bounds j l) in
      (within_at_most 2 (omega arith) _ (less_finite _ v (finite_number _ lo) f) w.0, within_at_most 2 (omega arith) _ (less_finite v _ (finite_number _ f) hi) w.1)

  angles_kept : (b : ℕ) → b < branches ws → angled ws b ≡ true
      → AtMost (get_or ts 4 nan) (angle_min ws xs b ⊖ (va ws x (from ws b) ⊖ va ws x (to ws b))) × AtMost (get_or ts 4 nan) (va ws x (from ws b) ⊖ va ws x (to ws b) ⊖ angle_max ws xs b)
  angles_kept b l on =
      let right = tables_clear ws xs A.sound.network in
      let W = words_clear ws xs right in
      let d = va ws x (from ws b) ⊖ va ws x (to ws b) in
      let n : Number d = less_finite (va ws x (from ws b)) (va ws x (to ws b)) (finite_number _ (va_finite _ (from_bus ws W b l))) (va_finite _ (to_bus ws W b l)) in
      let r = angle_right_is ws xs right b l on in
      let w = (within_violation _ (zero_not 4 (omega arith)) d (angle_min ws xs b) (angle_max ws xs b)).0 (A.angle b l on) in
      (within_at_most 4 (omega arith) _ (finite_less (angle_min ws xs b) d (lower_right _ _ r) n) w.0, within_at_most 4 (omega arith) _ (less_finite d (angle_max ws xs b) n (upper_right _ _ r)) w.1)

  -- no branch is loaded above its rating, at neither end
  ratings_kept : (b : ℕ) → b < branches ws → rated ws xs b ≡ true
      → AtMost (get_or ts 5 nan) (hypotenuse (p_from F b) (q_from F b) ⊖ s_max ws xs b) × AtMost (get_or ts 5 nan) (hypotenuse (p_to F b) (q_to F b) ⊖ s_max ws xs b)
  ratings_kept b l on =
      let P = outputs_at ws xs x F in
      let f = flow_fits ws xs x b l in
      let s = s_max ws xs b in
      let active = and_left (limited ws b) (lt zero64 s) on in
      let finite = upper_right zero64 s (rating_right ws xs (tables_clear ws xs A.sound.network) b l active) in
      rating_both _ (hypotenuse (p_from F b) (q_from F b)) (hypotenuse (p_to F b) (q_to F b)) s (tolerance_number 5 (omega arith)) (zero_not 5 (omega arith))
      (hypotenuse_number (p_from F b) (q_from F b) f.p_from_is f.q_from_is (block_finite P.p_from_is b l) (block_finite P.q_from_is b l))
      (hypotenuse_number (p_to F b) (q_to F b) f.p_to_is f.q_to_is (block_finite P.p_to_is b l) (block_finite P.q_to_is b l))
      finite (and_right (limited ws b) (lt zero64 s) on) (A.rating b l on)

  curve_reached : (g : ℕ) → g < generators ws → curved ws g ≡ true → AtMost (get_or ts 6 nan) (curve_value ws xs g (pg ws x g) ⊖ epigraph ws x g)
  unfolding columns epigraphs_before
  curve_reached g l c =
      let p = column_finite (pg_column ws g) (omega arith) in
      let e = column_finite (epigraph_column ws g) (omega (arith, tally_counts g (generators ws) (curved ws) c l)) in
      within_at_most 6 (omega arith) _ (less_finite (curve_value ws xs g (pg ws x g)) (epigraph ws x g) (curve_number ws xs A.sound.network g (pg ws x g) l c p) e)
      ((within_cut _ (zero_not 6 (omega arith)) (curve_value ws xs g (pg ws x g) ⊖ epigraph ws x g)).0 (A.curve g l c))

  objective_met : AtMost (get_or ts 7 nan) (absolute (solver ⊖ own_objective ws xs x) ⊘ maximum (absolute (own_objective ws xs x)) one64)
  objective_met =
      let own = own_objective ws xs x in
      let d = maximum_either (λ v. is_finite v ≡ true) (absolute own) one64 (absolute_finite own A.sound.own_finite) one_finite in
      let n = absolute_number (solver ⊖ own) (less_finite solver own (finite_number solver A.sound.solver_finite) A.sound.own_finite) in
      within_at_most 7 (omega arith) _ (over_one (absolute (solver ⊖ own)) (maximum (absolute own) one64) n d (at_least_one (absolute own))) A.objective

  pub accepted_kept : Kept ws xs x solver ts
  unfolding p_balance q_balance
  accepted_kept =
      let P = outputs_at ws xs x F in
      record {
        active = λ i l. within_at_most 0 (omega arith) _ (absolute_number _ (withdrawn_number ws i (p_from F) (p_to F) (p_injection ws xs x i) (block_finite P.p_injections i l) (block_finite P.p_from_is) (block_finite P.p_to_is))) (A.active i l);
        reactive = λ i l. within_at_most 1 (omega arith) _ (absolute_number _ (withdrawn_number ws i (q_from F) (q_to F) (q_injection ws xs x i) (block_finite P.q_injections i l) (block_finite P.q_from_is) (block_finite P.q_to_is))) (A.reactive i l);
        lower = λ j l. (in_bounds j l).0;
        upper = λ j l. (in_bounds j l).1;
        reference = λ r l. within_at_most 3 (omega arith) _ (absolute_number _ (finite_number _ (va_finite _ (referred_bus ws (words_clear ws xs (tables_clear ws xs A.sound.network)) r l)))) (A.reference r l);
        angle_lower = λ b l on. (angles_kept b l on).0;
        angle_upper = λ b l on. (angles_kept b l on).1;
        rating_from = λ b l on. (ratings_kept b l on).0;
        rating_to = λ b l on. (ratings_kept b l on).1;
        curve = curve_reached;
        objective = objective_met;
      }

-- ---- and back

most_within : (t v : Float) → AtMost t v → NotAbove t v
most_within t v h = most_not v t (rw h tt)

module _ (ws : List ℕ) (xs x : List Float) (solver : Float) (ts : List Float) (lent : ℕ) where
  pub kept_accepted : Sound ws xs x solver ts lent → Kept ws xs x solver ts → Accepted ws xs x solver ts lent
  kept_accepted sound K =
      let z = tolerances_not_below ts sound.tolerances_right in
      record {
        sound = sound;
        active = λ i l. most_within _ _ (K.active i l);
        reactive = λ i l. most_within _ _ (K.reactive i l);
        bounds = λ j l. (within_violation _ (z 2 (omega arith)) _ _ _).1 (most_within _ _ (K.lower j l), most_within _ _ (K.upper j l));
        reference = λ r l. most_within _ _ (K.reference r l);
        angle = λ b l on. (within_violation _ (z 4 (omega arith)) _ _ _).1 (most_within _ _ (K.angle_lower b l on), most_within _ _ (K.angle_upper b l on));
        rating = λ b l on. (within_cut _ (z 5 (omega arith)) _).1 (maximum_either (λ v. NotAbove (get_or ts 5 nan) (v ⊖ s_max ws xs b)) _ _ (most_within _ _ (K.rating_from b l on)) (most_within _ _ (K.rating_to b l on)));
        curve = λ g l c. (within_cut _ (z 6 (omega arith)) _).1 (most_within _ _ (K.curve g l c));
        objective = most_within _ _ K.objective;
      }

  -- the check refuses nothing exactly where refusals 1 to 15 and 20 are not met and all is kept, each to its own tolerance
  pub accepted_exactly_kept : (check_fault ws xs x solver ts lent ≡ clear) ↔ (Sound ws xs x solver ts lent × Kept ws xs x solver ts)
  accepted_exactly_kept =
      let e = accepted_exactly ws xs x solver ts lent in
      (λ c. let A = e.0 c in (A.sound, accepted_kept ws xs x solver ts lent A), λ h. e.1 (kept_accepted h.0 h.1))

  -- and so for the answer
  pub answered_exactly_kept : ((checked ws xs x solver ts lent).fault.number ≡ 0) ↔ (Sound ws xs x solver ts lent × Kept ws xs x solver ts)
  answered_exactly_kept =
      let e = answered_exactly ws xs x solver ts lent in
      (λ c. let A = e.0 c in (A.sound, accepted_kept ws xs x solver ts lent A), λ h. e.1 (kept_accepted h.0 h.1))

  -- the sentence the customer relies on: an accepted point overloads no feeder by more than its tolerance
  pub accepted_means_kept : check_fault ws xs x solver ts lent ≡ clear → Kept ws xs x solver ts
  accepted_means_kept c = (accepted_exactly_kept.0 c).1
