-- What the definitions of Answer mean: when 14, 17 and 19 are said, and that every value of an answer 0 is finite.
use mathlib.Core.Path.{◌≡◌, refl}
use mathlib.Core.List.{List, [], ◌∷◌, ◌++◌}
use mathlib.Core.Bool.{Bool, true, false, cond}
use mathlib.Core.Logic.{◌↔◌}
use Prim.Native.Nat.{ℕ, zero, suc, ◌+◌}
use native.Mathlib.Omega.{arith}
use lib.Ieee.{Float, nan, inf, fin, le, lt, eq, neg, of_bits}
use Rattle.base.specs.Fault.{fault, clear, unless}
use Rattle.base.specs.Refusal.{SWING, VALUE}
use Rattle.base.proofs.Firsts.{Clear, or_left, or_right}
use Rattle.float.specs.Number.{is_finite, AllFinite}
use Rattle.float.proofs.Finite.{finite_append}
use Rattle.nl.specs.Expr.{Expr, Terms, none, more}
use Rattle.model_reading.specs.Place.{size}
use Rattle.model_reading.specs.Reading.{Reading, yields, wrong, reading}
use Rattle.expression.specs.Value.{inside, value, values_of, in_range, patterns}
use Rattle.lists.specs.Finite.{point_fault}
use Rattle.row_values.specs.Answer.{value_fault, shared_values, shared_fault, rows_fault, values_fault, size_fault, room_fault, refusal, refused_by}
use Rattle.valued.specs.Outcomes.{FiniteAt}

-- ---- one part

module _ (point values : List Float) (at : ℕ) (e : Expr) where
  -- 14 exactly where an argument of a cosine or sine is not inside
  pub says_14 : ((value_fault point values at e).number ≡ SWING) ↔ (in_range point values e ≡ false)
  unfolding value_fault unless
  says_14 = (to (in_range point values e) (is_finite (value point values e)), λ h. rw h)
    where
      to : (a b : Bool) → (cond a (cond b clear (fault VALUE at)) (fault SWING at)).number ≡ SWING → a ≡ false
      to true true h = absurd (omega arith)
      to true false h = absurd (omega arith)
      to false b h = refl

  -- 19 exactly where all are and the value is not finite
  pub says_19 : ((value_fault point values at e).number ≡ VALUE) ↔ ((in_range point values e ≡ true) × (is_finite (value point values e) ≡ false))
  unfolding value_fault unless
  says_19 = (to (in_range point values e) (is_finite (value point values e)), λ h. rw (h.0, h.1))
    where
      to : (a b : Bool) → (cond a (cond b clear (fault VALUE at)) (fault SWING at)).number ≡ VALUE → (a ≡ true) × (b ≡ false)
      to true true h = absurd (omega arith)
      to true false h = (refl, refl)
      to false b h = absurd (omega arith)

  -- nothing exactly where all are and it is
  pub says_none : Clear (value_fault point values at e) ↔ ((in_range point values e ≡ true) × (is_finite (value point values e) ≡ true))
  unfolding value_fault unless
  says_none = (to (in_range point values e) (is_finite (value point values e)), λ h. rw (h.0, h.1))
    where
      to : (a b : Bool) → Clear (cond a (cond b clear (fault VALUE at)) (fault SWING at)) → (a ≡ true) × (b ≡ true)
      to true true h = (refl, refl)
      to true false h = absurd (omega arith)
      to false b h = absurd (omega arith)

-- an argument that is inside is finite
pub inside_finite : (a : Float) → inside a ≡ true → is_finite a ≡ true
unfolding inside is_finite le lt eq neg of_bits
inside_finite nan h = h
inside_finite (inf true) h = h
inside_finite (inf false) h = h
inside_finite (fin s m e) h = refl

-- ---- every value of an answer 0 is finite

pub one_finite : (v : Float) → is_finite v ≡ true → AllFinite (v ∷ [])
one_finite v h zero l = h
one_finite v h (suc j) l = absurd (omega arith)

module _ (point : List Float) where
  shared_finite : (ts : Terms) (at : ℕ) (values : List Float) → Clear (shared_fault point at values ts) → AllFinite values → AllFinite (shared_values point values ts)
  shared_finite none at values c h = h
  shared_finite (more e ts) at values c h =
      let v = value point values e in
      let f = ((says_none point values at e).0 (or_left (value_fault point values at e) _ c)).1 in
      shared_finite ts (at + 1 + size e) (values ++ (v ∷ [])) (or_right (value_fault point values at e) _ c) ((finite_append values (v ∷ [])).1 (h, one_finite v f))

  rows_finite : (values : List Float) (ts : Terms) (at : ℕ) → Clear (rows_fault point at values ts) → AllFinite (values_of point values ts)
  unfolding values_of
  rows_finite values none at c j l = absurd (omega arith)
  rows_finite values (more e ts) at c zero l = ((says_none point values at e).0 (or_left (value_fault point values at e) _ c)).1
  rows_finite values (more e ts) at c (suc j) l = rows_finite values ts (at + 1 + size e) (or_right (value_fault point values at e) _ c) j (omega arith)

read_finite : (columns : ℕ) (point : List Float) (lent_shared lent_rows : ℕ) (r : Reading) → Clear (refusal columns point lent_shared lent_rows r) → FiniteAt point r
unfolding refusal values_fault
read_finite columns point lent_shared lent_rows (wrong p) c = absurd (omega arith)
read_finite columns point lent_shared lent_rows (yields M) c =
    let w = or_right (point_fault point columns) _ (or_right (room_fault lent_shared lent_rows M) _ (or_right (size_fault M) _ c)) in
    let values = shared_values point [] M.shared in
    let r = or_right (shared_fault point 0 [] M.shared) _ w in
    let rows = rows_fault point _ values M.rows in
    record {
      shared = shared_finite point M.shared 0 [] (or_left (shared_fault point 0 [] M.shared) _ w) (λ j l. absurd (omega arith));
      rows = rows_finite point values M.rows _ (or_left rows _ r);
      objective = ((says_none point values _ M.objective).0 (or_right rows _ r)).1;
    }

module _ (ws : List ℕ) (xs : List Float) (columns : ℕ) (point : List Float) (lent_shared lent_rows : ℕ) where
  pub all_finite : Clear (refused_by ws xs columns point lent_shared lent_rows) → FiniteAt point (reading ws (patterns xs) columns)
  all_finite c = read_finite columns point lent_shared lent_rows (reading ws (patterns xs) columns) c
