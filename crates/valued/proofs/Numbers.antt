-- Which numbers a refusal of row values has: a property of 0 and of the numbers that a fault can have is one of its number.
use mathlib.Core.Path.{◌≡◌}
use mathlib.Core.Bool.{Bool, true, false, cond, false≢true}
use mathlib.Core.Logic.{◌⊎◌, inl, inr, ⊎_elim}
use mathlib.Core.List.{List, [], ◌∷◌, ◌++◌}
use Prim.Native.Nat.{ℕ, zero, suc, ◌+◌, ◌≤◌}
use lib.Dec.{eqb, leb}
use lib.ListN.{length, get_or}
use lib.Ieee.{Float, nan}
use borrow.Author.Tests.{le-leb}
use Rattle.base.specs.Fault.{Fault}
use Rattle.base.specs.Fault.{fault, unless, or_else, first}
use Rattle.base.specs.Loop.{loop}
use Rattle.base.specs.Refusal.{SHORT, POINT, SWING, VALUE}
use Rattle.float.specs.Number.{is_finite}
use Rattle.nl.specs.Expr.{Expr, Terms, none, more, count}
use Rattle.nl.specs.File.{Model}
use Rattle.model_reading.specs.Place.{size}
use Rattle.model_reading.specs.Reading.{shared_limit, yields}
use Rattle.expression.specs.Value.{value, in_range}
use Rattle.lists.specs.Finite.{first_non_finite, point_fault}
use Rattle.row_values.specs.Answer.{value_fault, shared_fault, rows_fault, values_fault, room_fault, refusal}
use Rattle.valued.specs.Spared.{SharedSpared, RowsSpared, Spared}

module _ (P : ℕ → Type 0) (none-refused : P 0) where
  pub or_has : (f g : Fault) → P f.number → P g.number → P (or_else f g).number
  unfolding or_else
  or_has f g h k = go (eqb f.number 0)
    where
      go : (b : Bool) → P (cond b g f).number
      go true = k
      go false = h

  unless_has : (b : Bool) (number place : ℕ) → P number → P (unless b (fault number place)).number
  unfolding unless
  unless_has true number place h = none-refused
  unless_has false number place h = h

  first_has : (n : ℕ) (f : ℕ → Fault) → ((i : ℕ) → P (f i).number) → P (first n f).number
  unfolding loop first
  first_has zero f h = none-refused
  first_has (suc n) f h = or_has (first n f) (f n) (first_has n f h) (h n)

  pub room_has : (lent_shared lent_rows : ℕ) (M : Model) → P SHORT → P (room_fault lent_shared lent_rows M).number
  room_has lent_shared lent_rows M h =
      or_has (unless (leb (count M.shared) lent_shared) (fault SHORT 1)) (unless (leb (count M.rows) lent_rows) (fault SHORT 2))
      (unless_has _ SHORT 1 h) (unless_has _ SHORT 2 h)

  pub point_has : (point : List Float) (columns : ℕ) → P POINT → P (point_fault point columns).number
  unfolding point_fault first_non_finite
  point_has point columns h =
      or_has (unless (eqb (length point) columns) (fault POINT columns)) (first (length point) (λ j. unless (is_finite (get_or point j nan)) (fault POINT j)))
      (unless_has _ POINT columns h) (first_has (length point) _ (λ j. unless_has _ POINT j h))

  -- 14 has it, unless it spares what is worked out
  module _ (point : List Float) (not_finite : P VALUE) where
    value_has : (values : List Float) (at : ℕ) (e : Expr) → (in_range point values e ≡ true) ⊎ P SWING → P (value_fault point values at e).number
    unfolding value_fault
    value_has values at e h = go (in_range point values e) h
      where
        go : (b : Bool) → (b ≡ true) ⊎ P SWING → P (cond b (unless (is_finite (value point values e)) (fault VALUE at)) (fault SWING at)).number
        go true h = unless_has _ VALUE at not_finite
        go false (inl q) = absurd (false≢true q)
        go false (inr s) = s

    shared_has : (at : ℕ) (values : List Float) (ts : Terms) → SharedSpared point values ts ⊎ P SWING → P (shared_fault point at values ts).number
    shared_has at values none h = none-refused
    shared_has at values (more e ts) h =
        or_has (value_fault point values at e) (shared_fault point (at + 1 + size e) (values ++ (value point values e ∷ [])) ts)
        (value_has values at e (⊎_elim (λ s. inl s.0) inr h)) (shared_has (at + 1 + size e) _ ts (⊎_elim (λ s. inl s.1) inr h))

    rows_has : (at : ℕ) (values : List Float) (ts : Terms) → RowsSpared point values ts ⊎ P SWING → P (rows_fault point at values ts).number
    rows_has at values none h = none-refused
    rows_has at values (more e ts) h =
        or_has (value_fault point values at e) (rows_fault point (at + 1 + size e) values ts)
        (value_has values at e (⊎_elim (λ s. inl s.0) inr h)) (rows_has (at + 1 + size e) values ts (⊎_elim (λ s. inl s.1) inr h))

    pub values_has : (M : Model) → Spared point M ⊎ P SWING → P (values_fault point M).number
    unfolding values_fault
    values_has M h =
        or_has (shared_fault point 0 [] M.shared) _ (shared_has 0 [] M.shared (⊎_elim (λ s. inl s.shared) inr h))
        (or_has (rows_fault point _ _ M.rows) _ (rows_has _ _ M.rows (⊎_elim (λ s. inl s.rows) inr h))
        (value_has _ _ M.objective (⊎_elim (λ s. inl s.objective) inr h)))

-- a file whose shared parts are not too many: 12, 13, then 14 and 19
pub refusal_is : (columns : ℕ) (point : List Float) (lent_shared lent_rows : ℕ) (M : Model) → count M.shared ≤ shared_limit
    → refusal columns point lent_shared lent_rows (yields M) ≡ or_else (room_fault lent_shared lent_rows M) (or_else (point_fault point columns) (values_fault point M))
unfolding refusal unless or_else
refusal_is columns point lent_shared lent_rows M h = rw (le-leb (count M.shared) shared_limit h)
