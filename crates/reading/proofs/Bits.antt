-- The constants as lent, f64 numbers, have the bit patterns of the model's constants: nothing is lost on the way.
use mathlib.Core.Path.{◌≡◌, refl, ap₂}
use mathlib.Core.List.{List, [], ◌∷◌, map}
use mathlib.Core.Bool.{true, not, false≢true}
use Prim.Native.Nat.{ℕ, suc, ◌+◌, ◌^◌, ◌<◌}
use native.Mathlib.Omega.{arith}
use lib.Dec.{T}
use lib.Ieee.{Float, nan, inf, fin, binary64, to_bits, of_bits, fits, is_nan}
use lib.Ieee.Fits.{neg-fits, add-fits, sub-fits, mul-fits, div-fits}
use lib.Ieee.Bits.{to_bits-lt, of_bits-fits, to_bits-of_bits}
use Rattle.base.specs.Fault.{clear}
use Rattle.base.proofs.Loops.{AllFrom, Every, all_append, every_nil, every_cons, every_append, every_table, every_each, every_cond, all_map}
use Rattle.float.specs.Doubles.{Doubles}
use Rattle.float.specs.Number.{one64, is_finite, AllFinite}
use Rattle.nl.specs.Expr.{none, more, shared, over, constants, constants_of}
use Rattle.nl.specs.File.{model_constants}
use Rattle.network.specs.Network.{buses, generators, branches, segments, curved, vm_column}
use Rattle.piecewise_cost.specs.Curve.{slope, intercept}
use Rattle.pi_model.specs.Flow.{coefficients_of}
use Rattle.acopf.specs.Build.{scaled, terms}
use Rattle.acopf.specs.Parts.{branch_parts, shared_parts}
use Rattle.acopf.specs.Rows.{segment_row, segment_rows, rows}
use Rattle.acopf.specs.Model.{objective, model}
use Rattle.acopf.specs.Factor.{constants64, network_fault}
use Rattle.acopf.proofs.Right.{constants_finite}
use Rattle.acopf.proofs.Constants.{Each, EachRow, Has, HaveNumbers, each_literal, each_column, each_shared, each_over, each_none, each_more, each_one}
use Rattle.acopf.proofs.Constants.{each_two, each_scaled, each_terms, rows_each, objective_each}

-- 64 bits
abbrev pub Pattern : ℕ → ℕ → Type 0
Pattern i bits = bits < 2 ^ 64

has_bits : {x : Float} → T (fits binary64 x) → Has Pattern x
has_bits {x} h = record { its = λ k. to_bits-lt binary64 x h }

module _ (ws : List ℕ) (xs : List Float) (F : Doubles xs) where
  numbers_have_bits : HaveNumbers Pattern ws xs
  numbers_have_bits = record {
    zero = has_bits (of_bits-fits binary64 0);
    minus_one = has_bits (neg-fits binary64 one64 (of_bits-fits binary64 _));
    p_demand_is = λ i l. has_bits (neg-fits binary64 _ (F _));
    p_shunt = λ i l. has_bits (neg-fits binary64 _ (F _));
    q_demand_is = λ i l. has_bits (neg-fits binary64 _ (F _));
    q_shunt = λ i l. has_bits (F _);
    rating = λ b l on. has_bits (mul-fits binary64 _ _);
    half_q = λ g l. has_bits (mul-fits binary64 _ _);
    linear = λ g l. has_bits (F _);
  }

  branch_patterned : (b i : ℕ) → Every (λ i. Each Pattern) i (branch_parts ws xs b)
  unfolding branch_parts coefficients_of
  branch_patterned b i =
      every_cons (each_two (each_column _) (each_column _)) (every_cons (each_two (each_column _) (each_column _))
      (every_cons (each_two (each_shared _) (each_one (each_shared _))) (every_cons (each_two (each_shared _) (each_one (each_shared _)))
      (every_cons (flow _ _ _ _ _ _ (div-fits binary64 _ _) (div-fits binary64 _ _) (div-fits binary64 _ _))
      (every_cons (flow _ _ _ _ _ _ (div-fits binary64 _ _) (div-fits binary64 _ _) (div-fits binary64 _ _))
      (every_cons (flow _ _ _ _ _ _ (add-fits binary64 _ _) (div-fits binary64 _ _) (div-fits binary64 _ _))
      (every_cons (flow _ _ _ _ _ _ (neg-fits binary64 _ (add-fits binary64 _ _)) (div-fits binary64 _ _) (div-fits binary64 _ _)) every_nil)))))))
    where
      flow : (x y z : Float) (v u w : ℕ) → T (fits binary64 x) → T (fits binary64 y) → T (fits binary64 z)
          → Each Pattern (over 9 (more (scaled x (shared v)) (more (scaled y (shared u)) (more (scaled z (shared w)) none))))
      flow x y z v u w h k l =
          each_over (each_more (each_scaled (has_bits h) (each_shared v))
          (each_more (each_scaled (has_bits k) (each_shared u)) (each_more (each_scaled (has_bits l) (each_shared w)) each_none)))

  shared_patterned : Every (λ i. Each Pattern) 0 (shared_parts ws xs)
  unfolding shared_parts
  shared_patterned =
      every_append (every_table (buses ws) _ (λ i h. each_one (each_column (vm_column ws i))))
      (every_each (branches ws) (branch_parts ws xs) (λ b h. branch_patterned b _))

  rows_patterned : Every (EachRow Pattern) 0 (rows ws xs)
  unfolding rows segment_rows segment_row slope intercept
  rows_patterned =
      every_append (rows_each ws xs numbers_have_bits)
      (every_each (generators ws) _ (λ g h. every_cond (curved ws g) _ (λ c. every_table (segments ws g) _ (λ s l.
      each_two (each_column _) (each_two (each_scaled (has_bits (div-fits binary64 _ _)) (each_column _)) (each_literal (has_bits (sub-fits binary64 _ _))))))))

  pub patterns : AllFrom Pattern 0 (model_constants (model ws xs))
  unfolding model_constants model
  patterns =
      let es = map (λ r. r.expression) (rows ws xs) in
      let s = each_terms 0 (shared_parts ws xs) shared_patterned.all in
      let r = each_terms 0 es (all_map (EachRow Pattern) (λ i. Each Pattern) (λ r. r.expression) (λ i r f. f) 0 (rows ws xs) rows_patterned.all) in
      all_append Pattern 0 (constants_of (terms (shared_parts ws xs))) _ (s.its 0)
      (all_append Pattern _ (constants_of (terms es)) (constants (objective ws xs)) (r.its _) ((objective_each ws xs numbers_have_bits).its _))

-- patterns of finite numbers come back
not_nan : (x : Float) → is_finite x ≡ true → T (not (is_nan x))
unfolding is_finite is_nan
not_nan nan h = false≢true h
not_nan (inf s) h = tt
not_nan (fin s m e) h = tt

back : (i : ℕ) (l : List ℕ) → AllFrom Pattern i l → AllFinite (map (of_bits binary64) l) → map (to_bits binary64) (map (of_bits binary64) l) ≡ l
back i [] a f = refl
back i (b ∷ l) a f = ap₂ (λ x y. x ∷ y) (to_bits-of_bits binary64 b a.0 (not_nan (of_bits binary64 b) (f 0 (omega arith)))) (back (i + 1) l a.1 (λ j h. f (suc j) (omega arith)))

pub bits_back : (ws : List ℕ) (xs : List Float) → network_fault ws xs ≡ clear → Doubles xs → map (to_bits binary64) (constants64 ws xs) ≡ model_constants (model ws xs)
unfolding constants64
bits_back ws xs accepted F = back 0 (model_constants (model ws xs)) (patterns ws xs F) (constants_finite ws xs accepted).0
