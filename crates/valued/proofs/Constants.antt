-- "infinite and NaN constants of foreign files pass reading, and end in 14 or 19 at their part or before" (docs/DECISIONS.md): a value that is not
-- refused is worked out from finite numbers alone. (Reading looks at the number of constants, not at their values: `says_17` in Order.)
use mathlib.Core.Path.{◌≡◌, refl, ap, sym, subst, ◌∙◌}
use mathlib.Core.List.{List, [], ◌∷◌, ◌++◌, map, map-append}
use mathlib.Core.Bool.{Bool, true, false, cond, ◌&&◌, beq, false≢true}
use Prim.Native.Nat.{ℕ, zero, suc, ◌+◌, ◌<◌}
use native.Mathlib.Omega.{arith}
use lib.ListN.{length, get_or}
use lib.Dec.{eqb}
use lib.Ieee.{Float, nan, inf, fin, binary64, to_bits, of_bits, of_fields, neg, add, sub}
use Rattle.base.specs.Order.{member}
use Rattle.base.specs.Refusal.{SWING, VALUE}
use Rattle.base.proofs.Firsts.{Clear, or_go, or_left, or_right}
use Rattle.float.specs.Number.{◌⊕◌, ◌⊖◌, ◌⊗◌, zero64, is_finite, AllFinite}
use Rattle.float.proofs.Finite.{finite_append}
use Rattle.rounding.proofs.Folds.{neg_finite}
use Rattle.rounding.proofs.Products.{mul_finite}
use Rattle.rounding.proofs.Rounded.{infs_not_finite}
use Rattle.lists.specs.Finite.{point_fault}
use Rattle.nl.specs.Expr.{Expr, constant, column, shared, over, Terms, none, more, constants, constants_of}
use Rattle.nl.specs.File.{Model, model_constants}
use Rattle.model_reading.specs.Place.{size}
use Rattle.model_reading.specs.Reading.{Reading, yields, wrong, reading}
use Rattle.model_reading.proofs.Reading.{yields_exactly}
use Rattle.expression.specs.Value.{step, fold, gathered, applied, inside, argument_ok, value, values_of, in_range, in_range_of, patterns}
use Rattle.row_values.specs.Answer.{value_fault, shared_values, shared_fault, rows_fault, values_fault, size_fault, room_fault, refusal, refused_by}
use Rattle.valued.specs.FileParts.{Part, All, Sound}
use Rattle.valued.specs.Outcomes.{FinitePatterns}
use Rattle.valued.proofs.Laws.{says_none, inside_finite, one_finite}
use Rattle.valued.proofs.Order.{values_give}

-- ---- a finite sum, difference or product has finite operands

add_finite : (x y : Float) → is_finite (x ⊕ y) ≡ true → (is_finite x ≡ true) × (is_finite y ≡ true)
unfolding add is_finite
add_finite nan y h = absurd (false≢true h)
add_finite (inf s) nan h = absurd (false≢true h)
add_finite (inf s) (inf t) h = absurd (false≢true (sym (infs_not_finite (beq s t) s) ∙ h))
add_finite (inf s) (fin t n d) h = absurd (false≢true h)
add_finite (fin s m e) nan h = absurd (false≢true h)
add_finite (fin s m e) (inf t) h = absurd (false≢true h)
add_finite (fin s m e) (fin t n d) h = (refl, refl)

sub_finite : (x y : Float) → is_finite (x ⊖ y) ≡ true → (is_finite x ≡ true) × (is_finite y ≡ true)
unfolding sub
sub_finite x y h = let f = add_finite x (neg y) h in (f.0, sym (neg_finite y) ∙ f.1)

step_finite : (kind : ℕ) (a b : Float) → is_finite (step kind a b) ≡ true → (is_finite a ≡ true) × (is_finite b ≡ true)
unfolding step
step_finite kind a b h = go (eqb kind 4) (eqb kind 5) h
  where
    go : (p q : Bool) → is_finite (cond p (a ⊖ b) (cond q (a ⊗ b) (a ⊕ b))) ≡ true → (is_finite a ≡ true) × (is_finite b ≡ true)
    go true q h = sub_finite a b h
    go false true h = mul_finite a b h
    go false false h = add_finite a b h

-- ---- a value that is not refused is worked out from finite numbers

abbrev Finites : List Float → Type 0
Finites [] = Unit {0}
Finites (a ∷ bs) = (is_finite a ≡ true) × Finites bs

fold_finite : (kind : ℕ) (bs : List Float) (a : Float) → is_finite (fold (step kind) a bs) ≡ true → Finites (a ∷ bs)
fold_finite kind [] a h = (h, tt)
fold_finite kind (b ∷ bs) a h =
    let r = fold_finite kind bs (step kind a b) h in
    let f = step_finite kind a b r.0 in
    (f.0, (f.1, r.1))

gathered_finite : (kind : ℕ) (bs : List Float) → is_finite (gathered kind bs) ≡ true → Finites bs
gathered_finite kind [] h = tt
gathered_finite kind (a ∷ bs) h = fold_finite kind bs a h

-- of a cosine and a sine the argument is finite because it is inside
applied_finite : (kind : ℕ) (a : Float) → argument_ok kind a ≡ true → is_finite (applied kind a) ≡ true → is_finite a ≡ true
unfolding applied argument_ok
applied_finite kind a k h = go (eqb kind 6) (eqb kind 7) (eqb kind 8) _ _ k h
  where
    go : (p q r : Bool) (c s : Float) → cond q (inside a) (cond r (inside a) true) ≡ true → is_finite (cond p (a ⊗ a) (cond q c (cond r s a))) ≡ true → is_finite a ≡ true
    go true q r c s k h = (mul_finite a a h).0
    go false true r c s k h = inside_finite a k
    go false false true c s k h = inside_finite a k
    go false false false c s k h = h

pub and_both : (a b : Bool) → a && b ≡ true → (a ≡ true) × (b ≡ true)
and_both true b h = (refl, h)
and_both false b h = absurd (false≢true h)

module _ (point values : List Float) where
  -- every constant that stands in it, and every column's and shared part's value that it names, is finite
  unfoldable mutual
    pub LeavesFinite : Expr → Type 0
    LeavesFinite (constant bits) = is_finite (of_bits binary64 bits) ≡ true
    LeavesFinite (column j) = is_finite (get_or point j zero64) ≡ true
    LeavesFinite (shared s) = is_finite (get_or values s zero64) ≡ true
    LeavesFinite (over kind ts) = LeavesFiniteOf ts

    pub LeavesFiniteOf : Terms → Type 0
    LeavesFiniteOf none = Unit {0}
    LeavesFiniteOf (more e ts) = LeavesFinite e × LeavesFiniteOf ts

  mutual
    unfolding value in_range LeavesFinite

    -- (any expression, one without words too: a kind over no operands has no leaf)
    pub leaves_finite : (e : Expr) → in_range point values e ≡ true → is_finite (value point values e) ≡ true → LeavesFinite e
    leaves_finite (constant bits) r h = h
    leaves_finite (column j) r h = h
    leaves_finite (shared s) r h = h
    leaves_finite (over kind ts) r h =
        let g = gathered kind (values_of point values ts) in
        let b = and_both (in_range_of point values ts) (argument_ok kind g) r in
        leaves_finite_of ts b.0 (gathered_finite kind (values_of point values ts) (applied_finite kind g b.1 h))

    leaves_finite_of : (ts : Terms) → in_range_of point values ts ≡ true → Finites (values_of point values ts) → LeavesFiniteOf ts
    leaves_finite_of none r h = tt
    leaves_finite_of (more e ts) r h =
        let b = and_both (in_range point values e) (in_range_of point values ts) r in
        (leaves_finite e b.0 h.0, leaves_finite_of ts b.1 h.1)

-- ---- constants

no_patterns : FinitePatterns []
no_patterns j l = absurd (omega arith)

patterns_append : (cs ds : List ℕ) → FinitePatterns cs → FinitePatterns ds → FinitePatterns (cs ++ ds)
patterns_append cs ds h k = rw (map-append (of_bits binary64) cs ds) ((finite_append (map (of_bits binary64) cs) (map (of_bits binary64) ds)).1 (h, k))

module _ (point values : List Float) where
  mutual
    unfolding constants LeavesFinite

    leaves_constants : (e : Expr) → LeavesFinite point values e → FinitePatterns (constants e)
    leaves_constants (constant bits) h = one_finite (of_bits binary64 bits) h
    leaves_constants (column j) h = no_patterns
    leaves_constants (shared s) h = no_patterns
    leaves_constants (over kind ts) h = leaves_constants_of ts h

    leaves_constants_of : (ts : Terms) → LeavesFiniteOf point values ts → FinitePatterns (constants_of ts)
    leaves_constants_of none h = no_patterns
    leaves_constants_of (more e ts) h = patterns_append (constants e) (constants_of ts) (leaves_constants e h.0) (leaves_constants_of ts h.1)

  pub expression_constants : (e : Expr) → in_range point values e ≡ true → is_finite (value point values e) ≡ true → FinitePatterns (constants e)
  expression_constants e r h = leaves_constants e (leaves_finite point values e r h)

  -- a part that 14 and 19 do not refuse has finite constants
  pub part_constants : (at : ℕ) (e : Expr) → Clear (value_fault point values at e) → FinitePatterns (constants e)
  part_constants at e c = let n = (says_none point values at e).0 c in expression_constants e n.0 n.1

module _ (point : List Float) where
  shared_constants : (ts : Terms) (at : ℕ) (values : List Float) → Clear (shared_fault point at values ts) → FinitePatterns (constants_of ts)
  unfolding constants
  shared_constants none at values c = no_patterns
  shared_constants (more e ts) at values c =
      patterns_append (constants e) (constants_of ts) (part_constants point values at e (or_left (value_fault point values at e) _ c))
      (shared_constants ts (at + 1 + size e) (values ++ (value point values e ∷ [])) (or_right (value_fault point values at e) _ c))

  rows_constants : (values : List Float) (ts : Terms) (at : ℕ) → Clear (rows_fault point at values ts) → FinitePatterns (constants_of ts)
  unfolding constants
  rows_constants values none at c = no_patterns
  rows_constants values (more e ts) at c =
      patterns_append (constants e) (constants_of ts) (part_constants point values at e (or_left (value_fault point values at e) _ c))
      (rows_constants values ts (at + 1 + size e) (or_right (value_fault point values at e) _ c))

  -- a model that 14 and 19 do not refuse has finite constants
  pub model_constants_is : (M : Model) → Clear (values_fault point M) → FinitePatterns (model_constants M)
  unfolding values_fault model_constants
  model_constants_is M c =
      let values = shared_values point [] M.shared in
      let r = or_right (shared_fault point 0 [] M.shared) _ c in
      let rows = rows_fault point _ values M.rows in
      patterns_append (constants_of M.shared) (constants_of M.rows ++ constants M.objective) (shared_constants M.shared 0 [] (or_left (shared_fault point 0 [] M.shared) _ c))
      (patterns_append (constants_of M.rows) (constants M.objective) (rows_constants values M.rows _ (or_left rows _ r)) (part_constants point values _ M.objective (or_right rows _ r)))

  -- the parts before the first that is refused (`FirstPart` in FileOrder) have finite constants: one that is not finite stands there or later
  pub spared_constants : (ps : List Part) → All (Sound point) ps → All (λ p. FinitePatterns (constants p.expr)) ps
  spared_constants [] h = tt
  spared_constants (p ∷ ps) h = (expression_constants point p.named p.expr h.0.ranges h.0.finite, spared_constants ps h.1)

-- ---- a file's constants

-- a number whose pattern is a finite number's is finite
pattern_finite : (x : Float) → is_finite (of_bits binary64 (to_bits binary64 x)) ≡ true → is_finite x ≡ true
unfolding is_finite of_bits of_fields to_bits
pattern_finite nan h = h
pattern_finite (inf true) h = h
pattern_finite (inf false) h = h
pattern_finite (fin s m e) h = refl

patterns_finite : (xs : List Float) → FinitePatterns (patterns xs) → AllFinite xs
patterns_finite [] h j l = absurd (omega arith)
patterns_finite (x ∷ xs) h zero l = pattern_finite x (h 0 (omega arith))
patterns_finite (x ∷ xs) h (suc j) l = patterns_finite xs (λ i k. h (suc i) (omega arith)) j (omega arith)

module _ (ws : List ℕ) (xs : List Float) (columns : ℕ) (point : List Float) (lent_shared lent_rows : ℕ) where
  module _ (M : Model) (e : reading ws (patterns xs) columns ≡ yields M) where
    values_finite : Clear (values_fault point M) → AllFinite xs
    values_finite c = patterns_finite xs (subst FinitePatterns (sym ((yields_exactly ws (patterns xs) columns M).0 e).its_constants) (model_constants_is point M c))

    -- a file with a constant that is not finite, refused by neither 17, 2, 12 nor 13, is refused by 14 or 19
    pub constant_refused : Clear (size_fault M) → Clear (room_fault lent_shared lent_rows M) → Clear (point_fault point columns)
        → (j : ℕ) → j < length xs → is_finite (get_or xs j nan) ≡ false → member (refused_by ws xs columns point lent_shared lent_rows).number (SWING ∷ VALUE ∷ []) ≡ true
    unfolding refusal
    constant_refused s r p j l h =
        let later = values_fault point M in
        let f : refused_by ws xs columns point lent_shared lent_rows ≡ later =
        ap (refusal columns point lent_shared lent_rows) e ∙ or_go (size_fault M) _ s ∙ or_go (room_fault lent_shared lent_rows M) _ r ∙ or_go (point_fault point columns) later p in
        rw f (values_give point M (λ c. false≢true (sym h ∙ values_finite c j l)))

  -- an answer 0 is that of a file whose constants are all finite
  pub constants_finite : Clear (refused_by ws xs columns point lent_shared lent_rows) → AllFinite xs
  unfolding refusal
  constants_finite c = go (reading ws (patterns xs) columns) refl
    where
      go : (r : Reading) → reading ws (patterns xs) columns ≡ r → AllFinite xs
      go (wrong p) e = absurd (omega (arith, ap (λ x. (refusal columns point lent_shared lent_rows x).number) (sym e) ∙ c))
      go (yields M) e =
          let d : Clear (refusal columns point lent_shared lent_rows (yields M)) = ap (λ x. (refusal columns point lent_shared lent_rows x).number) (sym e) ∙ c in
          values_finite M e (or_right (point_fault point columns) _ (or_right (room_fault lent_shared lent_rows M) _ (or_right (size_fault M) _ d)))
