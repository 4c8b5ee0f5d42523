-- Which expressions 14 spares: those without a sine or cosine, whatever the point and the shared parts' values.
use mathlib.Core.Path.{◌≡◌, refl}
use mathlib.Core.Bool.{Bool, true, false, cond, ◌||◌, true≢false}
use mathlib.Core.List.{List, [], ◌∷◌}
use Prim.Native.Nat.{ℕ, ◌+◌}
use lib.Dec.{eqb}
use lib.Ieee.{Float}
use Rattle.base.proofs.Loops.{AllFrom, Every}
use Rattle.nl.specs.Expr.{Expr, Terms, none, more, column, shared, over}
use Rattle.expression.specs.Value.{gathered, argument_ok, inside, value, values_of, in_range, in_range_of}
use Rattle.acopf.specs.Build.{literal, scaled, sum, terms}

-- records, so that the expression need not be written
module _ (point values : List Float) where
  pub record InRange (e : Expr) : Type 0 where
    pub its : in_range point values e ≡ true

  pub record AllInRange (ts : Terms) : Type 0 where
    pub its : in_range_of point values ts ≡ true

-- any kind but 7 and 8 asks nothing
no_argument : (kind : ℕ) (a : Float) → eqb kind 7 || eqb kind 8 ≡ false → argument_ok kind a ≡ true
unfolding argument_ok
no_argument kind a h = go (eqb kind 7) (eqb kind 8) h
  where
    go : (b c : Bool) → b || c ≡ false → cond b (inside a) (cond c (inside a) true) ≡ true
    go true c h = absurd (true≢false h)
    go false true h = absurd (true≢false h)
    go false false h = refl

-- and an argument inside the range serves any kind
right_argument : (kind : ℕ) (a : Float) → inside a ≡ true → argument_ok kind a ≡ true
unfolding argument_ok
right_argument kind a h = rw h (go (eqb kind 7) (eqb kind 8))
  where
    go : (b c : Bool) → cond b true (cond c true true) ≡ true
    go true c = refl
    go false true = refl
    go false false = refl

module _ {point values : List Float} where
  pub in_literal : (x : Float) → InRange point values (literal x)
  unfolding in_range
  in_literal x = record { its = refl }

  pub in_column : (j : ℕ) → InRange point values (column j)
  unfolding in_range
  in_column j = record { its = refl }

  pub in_shared : (s : ℕ) → InRange point values (shared s)
  unfolding in_range
  in_shared s = record { its = refl }

  pub in_none : AllInRange point values none
  unfolding in_range
  in_none = record { its = refl }

  pub in_more : {e : Expr} {ts : Terms} → InRange point values e → AllInRange point values ts → AllInRange point values (more e ts)
  unfolding in_range
  in_more h k = record { its = rw (h.its, k.its) }

  pub in_over : {kind : ℕ} {ts : Terms} → eqb kind 7 || eqb kind 8 ≡ false → AllInRange point values ts → InRange point values (over kind ts)
  unfolding in_range
  in_over {kind} {ts} h k = record { its = rw (k.its, no_argument kind (gathered kind (values_of point values ts)) h) }

  pub in_one : {kind : ℕ} {a : Expr} → eqb kind 7 || eqb kind 8 ≡ false → InRange point values a → InRange point values (over kind (more a none))
  in_one h a = in_over h (in_more a in_none)

  -- "14 for a sine or cosine argument that is non-finite or outside": it is neither
  pub in_argument : {kind : ℕ} {a : Expr} → inside (value point values a) ≡ true → InRange point values a → InRange point values (over kind (more a none))
  unfolding in_range value
  in_argument {kind} {a} h k = record { its = rw (k.its, right_argument kind (value point values a) h) }

  pub in_two : {kind : ℕ} {a b : Expr} → eqb kind 7 || eqb kind 8 ≡ false → InRange point values a → InRange point values b → InRange point values (over kind (more a (more b none)))
  in_two h a b = in_over h (in_more a (in_more b in_none))

  pub in_scaled : (x : Float) {e : Expr} → InRange point values e → InRange point values (scaled x e)
  in_scaled x h = in_two refl (in_literal x) h

  in_terms : (i : ℕ) (es : List Expr) → AllFrom (λ i. InRange point values) i es → AllInRange point values (terms es)
  in_terms i [] a = in_none
  in_terms i (e ∷ es) a = in_more a.0 (in_terms (i + 1) es a.1)

  in_sums : (i : ℕ) (es : List Expr) → AllFrom (λ i. InRange point values) i es → InRange point values (sum es)
  in_sums i [] a = in_literal _
  in_sums i (e ∷ []) a = a.0
  in_sums i (e ∷ f ∷ es) a = in_over refl (in_terms i (e ∷ f ∷ es) a)

  pub in_sum : {i : ℕ} {es : List Expr} → Every (λ i. InRange point values) i es → InRange point values (sum es)
  in_sum {i} {es} e = in_sums i es e.all
