-- The steps of a curve's loops.
use mathlib.Core.Path.{◌≡◌, refl, ap, ◌∙◌}
use mathlib.Core.List.{List, [], ◌∷◌, ◌++◌}
use mathlib.Core.Bool.{true}
use Prim.Native.Nat.{ℕ, suc, ◌<◌}
use lib.ListN.{length, get_or, set, take}
use lib.Seq.{take-suc-set}
use lib.Ieee.{Float, inf}
use Rattle.base.specs.Loop.{loop, table}
use Rattle.base.proofs.Loops.{length_table, get_d_table}
use Rattle.float.specs.Number.{◌⊕◌, ◌⊗◌, maximum}
use Rattle.piecewise_cost.specs.Curve.{slope, intercept, evaluate}
use Rattle.piecewise_cost.specs.internal.Prepared.{segment, Prepared}
use Rattle.piecewise_cost.specs.declared.curve.Segment.{Segment}

module _ {xs : List Float} {at : ℕ} where
  pub prepared_none : {l : List Segment} → Prepared xs at 0 l
  unfolding loop table
  prepared_none = record { are = refl }

  pub prepared_next : {s : ℕ} {l : List Segment} → Prepared xs at s l → s < length l → Prepared xs at (suc s) (set l s (segment xs at s))
  unfolding loop table
  prepared_next {s} {l} p h = record { are = take-suc-set l s (segment xs at s) h ∙ ap (λ t. t ++ (segment xs at s ∷ [])) p.are }

  pub prepared_get : {n s : ℕ} {l : List Segment} (d : Segment) → Prepared xs at n l → s < n → get_or (take n l) s d ≡ segment xs at s
  prepared_get {n} {s} d p h = ap (λ t. get_or t s d) p.are ∙ get_d_table n (segment xs at) d s h

  pub prepared_length : {n : ℕ} {l : List Segment} → Prepared xs at n l → length (take n l) ≡ n
  prepared_length {n} p = ap length p.are ∙ length_table n (segment xs at)

pub evaluate_none : (xs : List Float) (at : ℕ) (p : Float) → evaluate xs at 0 p ≡ inf true
unfolding evaluate loop
evaluate_none xs at p = refl

pub evaluate_next : (xs : List Float) (at s : ℕ) (p : Float) → evaluate xs at (suc s) p ≡ maximum (evaluate xs at s p) (slope xs at s ⊗ p ⊕ intercept xs at s)
unfolding evaluate loop
evaluate_next xs at s p = refl
