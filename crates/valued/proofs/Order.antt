-- A refusal is the first of its sections, in their order; 17 is the finder's. (The place of 13: lists proofs/Point.)
use mathlib.Core.Path.{◌≡◌, refl, ap, sym, ◌∙◌}
use mathlib.Core.List.{List, [], ◌∷◌}
use mathlib.Core.Bool.{Bool, true, false, cond}
use mathlib.Core.Logic.{◌↔◌}
use Prim.Native.Nat.{ℕ}
use native.Mathlib.Omega.{arith}
use lib.ListN.{length, length-map}
use lib.Dec.{eqb}
use lib.Ieee.{Float, binary64, to_bits}
use borrow.Author.Tests.{eqb-true, eqb-false}
use Rattle.base.specs.Fault.{Fault}
use Rattle.base.specs.Fault.{fault, clear, unless, or_else, section, fault_of}
use Rattle.base.specs.Order.{member, IsFirst}
use Rattle.base.specs.Refusal.{SIZE, SWING, MODEL, VALUE}
use Rattle.base.proofs.Firsts.{Clear, Spans, spans_unless, spans_or, or_go, or_stop}
use Rattle.base.proofs.Order.{Gives, AllGive, gives_one, other_number, first_gives, refusal_is_first}
use Rattle.float.specs.Number.{is_finite}
use Rattle.lists.proofs.Point.{point_spans}
use Rattle.nl.specs.Expr.{Expr, Terms, none, more}
use Rattle.nl.specs.File.{Model}
use Rattle.nl.specs.Finder.{find}
use Rattle.model_reading.specs.Reading.{Reading, yields, wrong, reading}
use Rattle.model_reading.proofs.Reading.{wrong_exactly}
use Rattle.expression.specs.Value.{value, in_range, patterns}
use Rattle.row_values.specs.Answer.{value_fault, shared_values, shared_fault, rows_fault, values_fault, room_fault, refusal_sections, refusal, refused_by}
use Rattle.valued.specs.Outcomes.{later_numbers}

-- ---- each section gives its numbers alone

none_given : (numbers : List ℕ) → Gives (section numbers clear)
none_given numbers c = absurd (c refl)

gives_both : (numbers : List ℕ) (f g : Fault) → Gives (section numbers f) → Gives (section numbers g) → Gives (section numbers (or_else f g))
gives_both numbers f g h k c = go (eqb f.number 0) refl
  where
    go : (b : Bool) → eqb f.number 0 ≡ b → member (or_else f g).number numbers ≡ true
    go true e = let p = or_go f g (eqb-true _ 0 e) in rw p (k (λ z. c (rw p z)))
    go false e = let ne = eqb-false _ 0 e in rw (or_stop f g ne) (h ne)

module _ (point : List Float) where
  value_gives : (values : List Float) (at : ℕ) (e : Expr) → Gives (section (SWING ∷ VALUE ∷ []) (value_fault point values at e))
  unfolding value_fault unless
  value_gives values at e = go (in_range point values e) (is_finite (value point values e))
    where
      go : (a b : Bool) → Gives (section (SWING ∷ VALUE ∷ []) (cond a (cond b clear (fault VALUE at)) (fault SWING at)))
      go true true = none_given (SWING ∷ VALUE ∷ [])
      go true false = λ c. refl
      go false b = λ c. refl

  shared_gives : (ts : Terms) (at : ℕ) (values : List Float) → Gives (section (SWING ∷ VALUE ∷ []) (shared_fault point at values ts))
  shared_gives none at values = none_given (SWING ∷ VALUE ∷ [])
  shared_gives (more e ts) at values = gives_both (SWING ∷ VALUE ∷ []) (value_fault point values at e) _ (value_gives values at e) (shared_gives ts _ _)

  rows_give : (values : List Float) (ts : Terms) (at : ℕ) → Gives (section (SWING ∷ VALUE ∷ []) (rows_fault point at values ts))
  rows_give values none at = none_given (SWING ∷ VALUE ∷ [])
  rows_give values (more e ts) at = gives_both (SWING ∷ VALUE ∷ []) (value_fault point values at e) _ (value_gives values at e) (rows_give values ts _)

  pub values_give : (M : Model) → Gives (section (SWING ∷ VALUE ∷ []) (values_fault point M))
  unfolding values_fault
  values_give M =
      let values = shared_values point [] M.shared in
      gives_both (SWING ∷ VALUE ∷ []) (shared_fault point 0 [] M.shared) _ (shared_gives M.shared 0 [])
      (gives_both (SWING ∷ VALUE ∷ []) (rows_fault point _ values M.rows) _ (rows_give values M.rows _) (value_gives values _ M.objective))

room_spans : (lent_shared lent_rows : ℕ) (M : Model) → Spans 12 12 (room_fault lent_shared lent_rows M)
room_spans lent_shared lent_rows M = spans_or (spans_unless _ 12 _ (omega arith) (omega arith)) (spans_unless _ 12 _ (omega arith) (omega arith))

module _ (columns : ℕ) (point : List Float) (lent_shared lent_rows : ℕ) where
  all_give : (r : Reading) → AllGive (refusal_sections columns point lent_shared lent_rows r)
  all_give (wrong p) = (λ c. refl, tt)
  all_give (yields M) = (
    gives_one (spans_unless _ SIZE _ (omega arith) (omega arith)),
    (gives_one (room_spans lent_shared lent_rows M), (gives_one (point_spans point columns), (values_give point M, tt))),
  )

  pub refusal_first : (r : Reading) → (Clear (refusal columns point lent_shared lent_rows r) → ⊥)
      → IsFirst (refusal columns point lent_shared lent_rows r) (refusal_sections columns point lent_shared lent_rows r)
  unfolding refusal
  refusal_first (wrong p) c = refusal_is_first (refusal_sections columns point lent_shared lent_rows (wrong p)) (all_give (wrong p)) refl c
  refusal_first (yields M) c = refusal_is_first (refusal_sections columns point lent_shared lent_rows (yields M)) (all_give (yields M)) refl c

-- ---- 17 is the finder's, and what passes reading has another number or none

module _ (columns : ℕ) (point : List Float) (lent_shared lent_rows : ℕ) where
  pub yields_number : (M : Model) → (Clear (refusal columns point lent_shared lent_rows (yields M)) → ⊥)
      → member (refusal columns point lent_shared lent_rows (yields M)).number later_numbers ≡ true
  unfolding refusal
  yields_number M c = first_gives (refusal_sections columns point lent_shared lent_rows (yields M)) (all_give columns point lent_shared lent_rows (yields M)) c

  at_17 : (r : Reading) (p : ℕ) → refusal columns point lent_shared lent_rows r ≡ fault MODEL p → r ≡ wrong p
  unfolding refusal
  at_17 (wrong q) p e = ap (λ f. wrong f.place) e
  at_17 (yields M) p e =
      let z : (refusal columns point lent_shared lent_rows (yields M)).number ≡ MODEL = ap (λ f. f.number) e in
      absurd (other_number _ MODEL later_numbers (yields_number M (λ y. omega arith)) refl z)

module _ (ws : List ℕ) (xs : List Float) (columns : ℕ) (point : List Float) (lent_shared lent_rows : ℕ) where
  -- the refusal of a file is the first
  pub row_values_refusal : (Clear (refused_by ws xs columns point lent_shared lent_rows) → ⊥)
      → IsFirst (refused_by ws xs columns point lent_shared lent_rows) (refusal_sections columns point lent_shared lent_rows (reading ws (patterns xs) columns))
  row_values_refusal = refusal_first columns point lent_shared lent_rows (reading ws (patterns xs) columns)

  -- 17, and its place, exactly where the finder says so, whichever row is asked for
  pub says_17 : (row p : ℕ) → (refused_by ws xs columns point lent_shared lent_rows ≡ fault MODEL p) ↔ (fault_of (find ws (length xs) columns row) ≡ fault MODEL p)
  unfolding refusal
  says_17 row p =
      let w = wrong_exactly ws (patterns xs) columns row p in
      let n : find ws (length (patterns xs)) columns row ≡ find ws (length xs) columns row = ap (λ k. find ws k columns row) (length-map xs (to_bits binary64)) in (
        λ e. ap fault_of (sym n) ∙ w.0 (at_17 columns point lent_shared lent_rows (reading ws (patterns xs) columns) p e),
        λ e. ap (refusal columns point lent_shared lent_rows) (w.1 (ap fault_of n ∙ e)),
      )
