-- Expressions that keep the rules on loads, names and depth wherever their constants' numbers fit: shape and size are enough.
use mathlib.Core.Path.{refl}
use mathlib.Core.List.{List, [], ◌∷◌}
use Prim.Native.Nat.{ℕ, suc, ◌+◌, ◌*◌, ◌≤◌, ◌<◌, max}
use native.Mathlib.Omega.{arith}
use lib.ListN.{length, length-append}
use lib.Ieee.{Float}
use borrow.Author.Tests.{lt-ltb}
use Rattle.base.proofs.Loops.{AllFrom}
use Rattle.nl.specs.Expr.{load_limit, Expr, Terms, none, more, constant, column, shared, over, count, Takes, two, one, sum, load_for, constants, constants_of, next, HasWords, HasWordsOf, depth, depth_of, Names, NamesOf}
use Rattle.nl.specs.File.{Ruled, PartsRuled}
use Rattle.acopf.specs.Build.{scaled, terms, sum as sum_of}
use Rattle.acopf.proofs.Counts.{count_terms}

-- a word of that kind over n operands: its load fits, and the kind takes so many
pub record Operator (kind n : ℕ) : Type 0 where
  pub load : load_for kind n < load_limit
  pub takes : Takes kind n

-- every operator is over operands that it takes, every column is below `columns` and every shared part below `parts`
mutual
  pub Shaped : ℕ → ℕ → Expr → Type 0
  Shaped columns parts (constant bits) = Unit {0}
  Shaped columns parts (column j) = j < columns
  Shaped columns parts (shared s) = s < parts
  Shaped columns parts (over kind ts) = Operator kind (count ts) × ShapedTerms columns parts ts

  pub ShapedTerms : ℕ → ℕ → Terms → Type 0
  ShapedTerms columns parts none = Unit {0}
  ShapedTerms columns parts (more e ts) = Shaped columns parts e × ShapedTerms columns parts ts

module _ (columns parts : ℕ) (c : columns ≤ load_limit) (p : parts ≤ load_limit) where
  mutual
    unfolding Shaped HasWords constants

    has_words : (e : Expr) (k : ℕ) → Shaped columns parts e → k + length (constants e) ≤ load_limit → HasWords k e
    has_words (constant bits) k w h = omega arith
    has_words (column j) k w h = omega arith
    has_words (shared s) k w h = omega arith
    has_words (over kind ts) k w h = (w.0.load, w.0.takes, terms_have_words ts k w.1 h)

    terms_have_words : (ts : Terms) (k : ℕ) → ShapedTerms columns parts ts → k + length (constants_of ts) ≤ load_limit → HasWordsOf k ts
    terms_have_words none k w h = tt
    terms_have_words (more e ts) k w h =
        let l = length-append (constants e) (constants_of ts) in
        (has_words e k w.0 (omega arith), terms_have_words ts (next k e) w.1 (omega arith))

module _ (columns parts : ℕ) where
  mutual
    unfolding Shaped Names

    names : (e : Expr) → Shaped columns parts e → Names columns parts e
    names (constant bits) w = tt
    names (column j) w = w
    names (shared s) w = w
    names (over kind ts) w = terms_name ts w.1

    terms_name : (ts : Terms) → ShapedTerms columns parts ts → NamesOf columns parts ts
    terms_name none w = tt
    terms_name (more e ts) w = (names e w.0, terms_name ts w.1)

-- ---- the same with at most d levels and at most n constants

pub record Sized (columns parts d n : ℕ) (e : Expr) : Type 0 where
  pub shaped : Shaped columns parts e
  pub deep : depth e ≤ d
  pub few : length (constants e) ≤ n

pub record SizedTerms (columns parts d n : ℕ) (ts : Terms) : Type 0 where
  pub shaped : ShapedTerms columns parts ts
  pub deep : depth_of ts ≤ d
  pub few : length (constants_of ts) ≤ n

module _ {columns parts : ℕ} where
  pub sized_constant : (bits : ℕ) → Sized columns parts 1 1 (constant bits)
  unfolding Shaped depth constants
  sized_constant bits = record { shaped = tt; deep = omega arith; few = omega arith }

  pub sized_column : {j : ℕ} → j < columns → Sized columns parts 1 0 (column j)
  unfolding Shaped depth constants
  sized_column h = record { shaped = h; deep = omega arith; few = omega arith }

  pub sized_shared : {s : ℕ} → s < parts → Sized columns parts 1 0 (shared s)
  unfolding Shaped depth constants
  sized_shared h = record { shaped = h; deep = omega arith; few = omega arith }

  pub sized_none : SizedTerms columns parts 0 0 none
  unfolding Shaped depth constants
  sized_none = record { shaped = tt; deep = omega arith; few = omega arith }

  pub sized_more : {d n d' n' : ℕ} {e : Expr} {ts : Terms} → Sized columns parts d n e → SizedTerms columns parts d' n' ts → SizedTerms columns parts (max d d') (n + n') (more e ts)
  unfolding Shaped depth constants
  sized_more {e = e} {ts = ts} f t =
      record { shaped = (f.shaped, t.shaped); deep = omega (arith, f.deep, t.deep); few = omega (arith, f.few, t.few, length-append (constants e) (constants_of ts)) }

  pub sized_over : {kind d n : ℕ} {ts : Terms} → Operator kind (count ts) → SizedTerms columns parts d n ts → Sized columns parts (suc d) n (over kind ts)
  unfolding Shaped depth constants
  sized_over k t = record { shaped = (k, t.shaped); deep = omega (arith, t.deep); few = t.few }

  -- what keeps lower bounds keeps higher ones
  pub sized_within : {d n : ℕ} (d' n' : ℕ) {e : Expr} → Sized columns parts d n e → d ≤ d' → n ≤ n' → Sized columns parts d' n' e
  sized_within d' n' f h k = record { shaped = f.shaped; deep = omega (arith, f.deep); few = omega (arith, f.few) }

-- what the kinds take
binary : (kind : ℕ) → 3 ≤ kind → kind ≤ 5 → Operator kind 2
unfolding load_for
binary kind h k = record { load = rw (lt-ltb kind 9 (omega arith)) (omega arith); takes = two h k refl }

unary : (kind : ℕ) → 6 ≤ kind → kind ≤ 8 → Operator kind 1
unfolding load_for
unary kind h k = record { load = rw (lt-ltb kind 9 (omega arith)) (omega arith); takes = one h k refl }

pub summed : (n : ℕ) → 2 ≤ n → n < load_limit → Operator 9 n
unfolding load_for
summed n h k = record { load = k; takes = sum refl h }

module _ {columns parts : ℕ} where
  pub sized_two : (kind : ℕ) {d n d' n' : ℕ} {a b : Expr} → 3 ≤ kind → kind ≤ 5 → Sized columns parts d n a → Sized columns parts d' n' b
      → Sized columns parts (suc (max d (max d' 0))) (n + (n' + 0)) (over kind (more a (more b none)))
  sized_two kind h k f g = sized_over (binary kind h k) (sized_more f (sized_more g sized_none))

  pub sized_one : (kind : ℕ) {d n : ℕ} {a : Expr} → 6 ≤ kind → kind ≤ 8 → Sized columns parts d n a → Sized columns parts (suc (max d 0)) (n + 0) (over kind (more a none))
  sized_one kind h k f = sized_over (unary kind h k) (sized_more f sized_none)

  pub sized_scaled : {d n : ℕ} (x : Float) {e : Expr} → Sized columns parts d n e → Sized columns parts (suc (max 1 (max d 0))) (1 + (n + 0)) (scaled x e)
  sized_scaled x f = sized_two 5 (omega arith) (omega arith) (sized_constant _) f

-- ---- lists of expressions

sized_terms : {columns parts d : ℕ} (n i : ℕ) (es : List Expr) → AllFrom (λ i. Sized columns parts d n) i es → SizedTerms columns parts d (n * length es) (terms es)
unfolding Shaped depth constants
sized_terms n i [] a = record { shaped = tt; deep = omega arith; few = omega arith }
sized_terms n i (e ∷ es) a =
    let t = sized_terms n (i + 1) es a.1 in
    record {
      shaped = (a.0.shaped, t.shaped);
      deep = omega (arith, a.0.deep, t.deep);
      few = omega (arith, a.0.few, t.few, length-append (constants e) (constants_of (terms es)));
    }

-- a sum of none is a constant, a sum of one its term
pub sized_sum : {columns parts d : ℕ} (n i : ℕ) (es : List Expr) → length es < load_limit → 1 ≤ d → AllFrom (λ i. Sized columns parts d n) i es → Sized columns parts (suc d) (suc (n * length es)) (sum_of es)
sized_sum n i [] l h a = sized_within _ _ (sized_constant _) (omega arith) (omega arith)
sized_sum n i (e ∷ []) l h a = sized_within _ _ a.0 (omega arith) (omega arith)
sized_sum n i (e ∷ f ∷ es) l h a =
    let t = sized_terms n i (e ∷ f ∷ es) a in
    let k : Operator 9 (count (terms (e ∷ f ∷ es))) = rw (count_terms es) (summed (length (e ∷ f ∷ es)) (omega arith) l) in
    sized_within _ _ (sized_over k t) (omega arith) (omega arith)

-- the constants of a list of parts, of which each has at most n
pub few_constants : (P : ℕ → Expr → Type 0) (n : ℕ) → ((i : ℕ) (e : Expr) → P i e → length (constants e) ≤ n) → (i : ℕ) (es : List Expr) → AllFrom P i es → length (constants_of (terms es)) ≤ n * length es
unfolding constants
few_constants P n h i [] a = omega arith
few_constants P n h i (e ∷ es) a = omega (arith, h i e a.0, few_constants P n h (i + 1) es a.1, length-append (constants e) (constants_of (terms es)))

-- ---- the rules

-- an expression whose first constant has the number k
pub ruled : {columns parts d n : ℕ} {e : Expr} (k : ℕ) → columns ≤ load_limit → parts ≤ load_limit → Sized columns parts d n e → k + n ≤ load_limit → Ruled d columns parts k e
ruled {columns} {parts} {e = e} k c p f h = record {
  loads = has_words columns parts c p e k f.shaped (omega (arith, f.few));
  names = names columns parts e f.shaped;
  deep = f.deep;
}

-- parts numbered from i, of which part i may name the lowest `named i`
module _ (columns : ℕ) (named : ℕ → ℕ) (d n : ℕ) (c : columns ≤ load_limit) (s : (i : ℕ) → i ≤ load_limit → named i ≤ load_limit) where
  pub parts_ruled : (i k : ℕ) (es : List Expr) → AllFrom (λ i. Sized columns (named i) d n) i es → i + length es ≤ load_limit → k + n * length es ≤ load_limit → PartsRuled d columns named i k (terms es)
  unfolding PartsRuled
  parts_ruled i k [] a l m = tt
  parts_ruled i k (e ∷ es) a l m = (
    omega arith,
    ruled k c (s i (omega arith)) a.0 (omega arith),
    parts_ruled (i + 1) (next k e) es a.1 (omega arith) (omega (arith, a.0.few)),
  )
