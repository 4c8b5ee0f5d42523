-- The shared parts of a network's model at a point whose angles are accepted: of each branch's eight, two have a cosine or sine, of the difference of two angles, which is in range.
use mathlib.Core.Path.{◌≡◌, refl, ap, ◌∙◌}
use mathlib.Core.Bool.{true}
use mathlib.Core.List.{List, [], ◌∷◌, ◌++◌}
use Prim.Native.Nat.{ℕ, zero, suc, ◌+◌, ◌*◌, ◌<◌}
use native.Mathlib.Omega.{arith}
use lib.ListN.{length, length-append, get_or, get_or-append}
use lib.Seq.{get_or_at}
use lib.Ieee.{Float}
use Rattle.base.specs.Loop.{loop, table, each}
use Rattle.base.proofs.Loops.{length_table, length_each}
use Rattle.float.specs.Number.{◌⊖◌, zero64}
use Rattle.nl.specs.Expr.{Expr, column, shared}
use Rattle.bounds.specs.Bounds.{angle_right}
use Rattle.network.specs.Layout.{layout_of, LaidWords}
use Rattle.network.specs.Network.{buses, branches, from, to, va_column, vm_column}
use Rattle.expression.specs.Value.{step, applied, inside, value}
use Rattle.row_values.specs.Answer.{shared_values}
use Rattle.acopf.specs.Build.{square, multiply, cosine_of, scaled, sum, terms}
use Rattle.acopf.specs.Parts.{voltage_product, angle, angle_difference, branch_parts, shared_parts}
use Rattle.acopf.proofs.Counts.{count_terms}
use Rattle.valued.specs.Spared.{AnglesRight, SharedSpared}
use Rattle.valued.proofs.Outcomes.{length_shared}
use Rattle.valued.proofs.Difference.{difference_inside}
use Rattle.valued.proofs.InRange.{InRange, in_column, in_shared, in_none, in_more, in_over, in_one, in_argument, in_two, in_scaled}

-- ---- lists of parts

-- a record, so that the parts need not be written
record PartsSpared (point values : List Float) (es : List Expr) : Type 0 where
  its : SharedSpared point values (terms es)

no_more : {point values : List Float} → PartsSpared point values []
no_more = record { its = tt }

next : {point values : List Float} {e : Expr} {es : List Expr} → InRange point values e → PartsSpared point (values ++ (value point values e ∷ [])) es → PartsSpared point values (e ∷ es)
next h k = record { its = (h.its, k.its) }

module _ (point : List Float) where
  pub length_values : (values : List Float) (es : List Expr) → length (shared_values point values (terms es)) ≡ length values + length es
  length_values values es = length_shared point (terms es) values ∙ ap (λ n. length values + n) (count_terms es)

  spared_append : (values : List Float) (es fs : List Expr) → SharedSpared point values (terms es)
      → SharedSpared point (shared_values point values (terms es)) (terms fs) → SharedSpared point values (terms (es ++ fs))
  spared_append values [] fs h k = k
  spared_append values (e ∷ es) fs h k = (h.0, spared_append (values ++ (value point values e ∷ [])) es fs h.1 k)

  -- parts of which each is spared whatever the values before it
  spared_table : (values : List Float) (n : ℕ) (f : ℕ → Expr) → ((j : ℕ) (us : List Float) → InRange point us (f j)) → SharedSpared point values (terms (table n f))
  unfolding loop table
  spared_table values zero f h = tt
  spared_table values (suc n) f h = spared_append values (table n f) (f n ∷ []) (spared_table values n f h) ((h n _).its, tt)

  -- lists of parts of which each is spared after as many values as come before it
  spared_each : (values : List Float) (n : ℕ) (f : ℕ → List Expr)
      → ((j : ℕ) → j < n → (us : List Float) → length us ≡ length values + length (each j f) → PartsSpared point us (f j)) → SharedSpared point values (terms (each n f))
  unfolding loop each
  spared_each values zero f h = tt
  spared_each values (suc n) f h =
      spared_append values (each n f) (f n) (spared_each values n f (λ j l. h j (omega arith))) (h n (omega arith) _ (length_values values (each n f))).its

-- ---- a branch's eight

module _ (ws : List ℕ) (xs point : List Float) where
  -- the value of its first
  difference_is : (us : List Float) (b : ℕ) → value point us (angle_difference ws b) ≡ get_or point (va_column ws (from ws b)) zero64 ⊖ get_or point (va_column ws (to ws b)) zero64
  unfolding value applied step
  difference_is us b = refl

  flow_in : {us : List Float} (x y z : Float) (i j k : ℕ) → InRange point us (sum (scaled x (shared i) ∷ scaled y (shared j) ∷ scaled z (shared k) ∷ []))
  flow_in x y z i j k = in_over refl (in_more (in_scaled x (in_shared i)) (in_more (in_scaled y (in_shared j)) (in_more (in_scaled z (in_shared k)) in_none)))

  module _ (b : ℕ) (right-from : angle_right (get_or point (va_column ws (from ws b)) zero64) ≡ true) (right-to : angle_right (get_or point (va_column ws (to ws b)) zero64) ≡ true) where
    -- what its third and fourth take the cosine and sine of, where the first's value is among those before
    angle_inside : (us vs : List Float) → get_or vs (buses ws + 8 * b + 0) zero64 ≡ value point us (angle_difference ws b) → inside (value point vs (angle ws b)) ≡ true
    unfolding value
    angle_inside us vs e = ap inside (e ∙ difference_is us b) ∙ difference_inside _ _ right-from right-to

    branch_spared : (us : List Float) → length us ≡ buses ws + 8 * b → PartsSpared point us (branch_parts ws xs b)
    unfolding branch_parts
    branch_spared us e =
        let n = buses ws + 8 * b + 0 in
        let d = value point us (angle_difference ws b) in
        let u₁ = us ++ (d ∷ []) in
        let p = value point u₁ (multiply (column (vm_column ws (from ws b))) (column (vm_column ws (to ws b)))) in
        let u₂ = u₁ ++ (p ∷ []) in
        let c = value point u₂ (multiply (voltage_product ws b) (cosine_of (angle ws b))) in
        let u₃ = u₂ ++ (c ∷ []) in
        let e₁ : get_or u₁ n zero64 ≡ d = get_or_at us d [] zero64 n (omega (arith, e)) in
        let e₂ : get_or u₂ n zero64 ≡ d = get_or-append u₁ (p ∷ []) zero64 n (omega (arith, e, length-append us (d ∷ []))) ∙ e₁ in
        let e₃ : get_or u₃ n zero64 ≡ d = get_or-append u₂ (c ∷ []) zero64 n (omega (arith, e, length-append us (d ∷ []), length-append u₁ (p ∷ []))) ∙ e₂ in
        next (in_two refl (in_column _) (in_column _)) (next (in_two refl (in_column _) (in_column _))
        (next (in_two refl (in_shared _) (in_argument (angle_inside us u₂ e₂) (in_shared _))) (next (in_two refl (in_shared _) (in_argument (angle_inside us u₃ e₃) (in_shared _)))
        (next (flow_in _ _ _ _ _ _) (next (flow_in _ _ _ _ _ _) (next (flow_in _ _ _ _ _ _) (next (flow_in _ _ _ _ _ _) no_more)))))))

  pub shared_spared : LaidWords ws (layout_of ws) → AnglesRight ws point → SharedSpared point [] (terms (shared_parts ws xs))
  unfolding shared_parts branch_parts
  shared_spared G right =
      let squares = table (buses ws) (λ i. square (column (vm_column ws i))) in
      spared_append point [] squares (each (branches ws) (branch_parts ws xs))
      (spared_table point [] (buses ws) (λ i. square (column (vm_column ws i))) (λ i us. in_one refl (in_column _)))
      (spared_each point (shared_values point [] (terms squares)) (branches ws) (branch_parts ws xs) (λ b l us e.
      branch_spared b (right _ (G.branch_from_is b l)) (right _ (G.branch_to_is b l)) us
      (omega (arith, e, length_values point [] squares, length_table (buses ws) (λ i. square (column (vm_column ws i))), length_each 8 b (branch_parts ws xs) (λ j. refl)))))
