-- Working out an expression a step at a time, as the code does.
use mathlib.Core.Path.{◌≡◌, refl, ap, sym, ◌∙◌}
use mathlib.Core.List.{List, [], ◌∷◌}
use mathlib.Core.Bool.{Bool, true, false, cond, ◌&&◌}
use Prim.Native.Nat.{ℕ, zero, suc, ◌+◌, ◌-◌, ◌≤◌, ◌<◌}
use native.Mathlib.Omega.{arith}
use native.Mathlib.Numerals.{add-one}
use lib.ListN.{length, get_or, get_or-map}
use lib.Dec.{eqb}
use lib.Ieee.{Float, nan, binary64, to_bits, of_bits}
use borrow.Author.Tests.{lt-ltb, le-ltb, ne_eqb}
use Rattle.std.proofs.Math.Bool.{and-true, and_assoc}
use Rattle.std.proofs.lemmas.List.{get_or_default}
use Rattle.base.specs.Word.{kind_of, load_of}
use Rattle.float.specs.Number.{zero64}
use Rattle.nl.specs.Expr.{constant, column, shared}
use Rattle.nl.specs.Reader.{arity}
use Rattle.expression.specs.Value.{step, fold, gathered, applied, argument_ok, value, values_of, in_range, in_range_of, patterns}
use Rattle.model_reading.specs.Parse.{Parsed, ParsedTerms, parse_many, leaf_of, headed, parse}
use Rattle.expression.specs.internal.Scan.{Worth, evaluated}

-- a constant by way of its pattern
pub by_pattern : (xs : List Float) (i : ℕ) → i < length xs → of_bits binary64 (to_bits binary64 (get_or xs i nan)) ≡ get_or xs i nan → get_or xs i nan ≡ of_bits binary64 (get_or (patterns xs) i 0)
unfolding to_bits of_bits
by_pattern xs i l h =
    sym (ap (of_bits binary64) (get_or-map (to_bits binary64) xs i zero64 ∙ ap (to_bits binary64) (get_or_default xs i zero64 nan l)) ∙ h)

-- what the operands give, where i of them are gathered already
pub resumed : ℕ → ℕ → Float → List Float → Float
resumed kind zero total [] = total
resumed kind zero total (v ∷ vs) = fold (step kind) v vs
resumed kind (suc i) total vs = fold (step kind) total vs

resumed_start : (kind : ℕ) (vs : List Float) → gathered kind vs ≡ resumed kind 0 zero64 vs
unfolding resumed
resumed_start kind [] = refl
resumed_start kind (v ∷ vs) = refl

resumed_step : (kind i : ℕ) (total v : Float) (vs : List Float) → resumed kind i total (v ∷ vs) ≡ resumed kind (i + 1) (cond (eqb i 0) v (step kind total v)) vs
unfolding resumed
resumed_step kind zero total v vs = refl
resumed_step kind (suc i) total v vs = rw (add-one (suc i), ne_eqb (suc i) 0 (λ e. omega arith))

resumed_end : (kind i : ℕ) (total : Float) → resumed kind i total [] ≡ total
unfolding resumed
resumed_end kind zero total = refl
resumed_end kind (suc i) total = refl

module _ (ws cs : List ℕ) (point values : List Float) where
  leaf_in_range : (kind load : ℕ) → in_range point values (leaf_of cs kind load) ≡ true
  unfolding leaf_of in_range
  leaf_in_range kind load = go (eqb kind 0) (eqb kind 1)
    where
      go : (a b : Bool) → in_range point values (cond a (constant (get_or cs load 0)) (cond b (column load) (shared load))) ≡ true
      go true b = refl
      go false true = refl
      go false false = refl

  pub a_leaf : (d at kind load : ℕ) (v : Float) → (d ≡ 0 → ⊥) → at < length ws → kind ≡ kind_of (get_or ws at 0) → load ≡ load_of (get_or ws at 0) → kind < 3
      → v ≡ value point values (leaf_of cs kind load) → record { its = v; spared = true; end = at + 1 } ≡ evaluated point values (parse ws cs d at)
  unfolding parse headed
  a_leaf zero at kind load v nz h e f lo p = absurd (nz refl)
  a_leaf (suc d) at kind load v nz h e f lo p = rw (lt-ltb at (length ws) h, ← e, ← f, lt-ltb kind 3 lo, leaf_in_range kind load, p)

  -- the whole expression, where i operands are gathered and these are left
  pub whole : ℕ → ℕ → Float → Bool → ParsedTerms → Worth
  whole kind i total ok p = record {
    its = applied kind (resumed kind i total (values_of point values p.terms));
    spared = (ok && in_range_of point values p.terms) && argument_ok kind (resumed kind i total (values_of point values p.terms));
    end = p.end;
  }

  pub begins : (d at kind load n : ℕ) → (d ≡ 0 → ⊥) → at < length ws → kind ≡ kind_of (get_or ws at 0) → load ≡ load_of (get_or ws at 0) → 3 ≤ kind → n ≡ arity kind load
      → evaluated point values (parse ws cs d at) ≡ whole kind 0 zero64 true (parse_many (parse ws cs (d - 1)) (n - 0) (at + 1))
  unfolding parse headed value in_range whole
  begins zero at kind load n nz h e f lo p = absurd (nz refl)
  begins (suc d) at kind load n nz h e f lo p =
      let q : suc d - 1 ≡ d = omega arith in
      let z : n - 0 ≡ n = omega arith in
      rw (lt-ltb at (length ws) h, ← e, ← f, le-ltb kind 3 lo, q, z, p, resumed_start kind (values_of point values (parse_many (parse ws cs d) (arity kind load) (at + 1)).terms))

  pub goes_on : (f : ℕ → Parsed) (kind n i here : ℕ) (total : Float) (ok : Bool) (e : Worth) (next : Float) (x : Worth) → i < n
      → x ≡ whole kind i total ok (parse_many f (n - i) here) → e ≡ evaluated point values (f here) → next ≡ cond (eqb i 0) e.its (step kind total e.its)
      → x ≡ whole kind (i + 1) next (ok && e.spared) (parse_many f (n - (i + 1)) e.end)
  unfolding whole values_of in_range_of
  goes_on f kind n i here total ok e next x h w p q =
      let z : n - i ≡ suc (n - (i + 1)) = omega arith in
      w ∙ rw (z, q, p, resumed_step, and_assoc ok (in_range point values (f here).expr) (in_range_of point values (parse_many f (n - (i + 1)) (f here).end).terms))

  pub ends : (f : ℕ → Parsed) (kind n i here : ℕ) (total : Float) (ok : Bool) (x : Worth) → n ≤ i → x ≡ whole kind i total ok (parse_many f (n - i) here)
      → record { its = applied kind total; spared = ok && argument_ok kind total; end = here } ≡ x
  unfolding whole values_of in_range_of
  ends f kind n i here total ok x h w =
      let z : n - i ≡ 0 = omega arith in
      sym (w ∙ rw (z, resumed_end, and-true))
