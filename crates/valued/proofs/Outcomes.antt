-- "What passes the reading rules must always give either all values or a numbered refusal."
use mathlib.Core.Path.{◌≡◌, refl, ap, sym, ◌∙◌}
use mathlib.Core.List.{List, [], ◌∷◌, ◌++◌}
use mathlib.Core.Bool.{Bool, true, false}
use Prim.Native.Nat.{ℕ, ◌+◌}
use native.Mathlib.Omega.{arith}
use native.Mathlib.Nat.{zero-add}
use lib.ListN.{length, length-append}
use lib.Dec.{eqb}
use lib.Ieee.{Float}
use borrow.Author.Tests.{eqb-true, eqb-false}
use Rattle.base.specs.Fault.{Fault}
use Rattle.base.proofs.Firsts.{Clear}
use Rattle.base.proofs.Left.{left_refused, left_front, left_rest}
use Rattle.nl.specs.Expr.{Terms, none, more, count}
use Rattle.nl.specs.File.{Model}
use Rattle.model_reading.specs.Reading.{Reading, yields, reading}
use Rattle.expression.specs.Value.{value, patterns}
use Rattle.row_values.specs.Answer.{shared_values, refusal, all_shared, all_rows, refused_by}
use Rattle.row_values.proofs.Answers.{length_values, refusal_proper}
use Rattle.valued.specs.Outcomes.{Outcome, all_values, refused}
use Rattle.valued.proofs.Laws.{all_finite}
use Rattle.valued.proofs.Order.{yields_number}

pub length_shared : (point : List Float) (ts : Terms) (values : List Float) → length (shared_values point values ts) ≡ length values + count ts
length_shared point none values = omega arith
length_shared point (more e ts) values =
    length_shared point ts (values ++ (value point values e ∷ [])) ∙ omega (arith, length-append values (value point values e ∷ []))

module _ (ws : List ℕ) (xs : List Float) (columns : ℕ) (point shared rows : List Float) (M : Model) where
  abbrev F : Fault
  F = refused_by ws xs columns point (length shared) (length rows)

  abbrev values : List Float
  values = shared_values point [] M.shared

  pub all_or_refused : reading ws (patterns xs) columns ≡ yields M → Outcome ws xs columns point shared rows M
  all_or_refused e = go (eqb F.number 0) refl
    where
      r : Reading
      r = reading ws (patterns xs) columns

      go : (b : Bool) → eqb F.number 0 ≡ b → Outcome ws xs columns point shared rows M
      go true t =
          let c : Clear F = eqb-true _ 0 t in
          let n : count M.shared ≡ length (all_shared point r) = sym (ap (λ x. length (all_shared point x)) e ∙ length_shared point M.shared [] ∙ zero-add (count M.shared)) in
          let m : count M.rows ≡ length (all_rows point r) = sym (ap (λ x. length (all_rows point x)) e ∙ length_values point values M.rows) in
          all_values (record {
            fault = refusal_proper columns point (length shared) (length rows) r c;
            shared_count = rw t (sym n);
            rows_count = rw t (sym m);
            objective = rw (t, e);
            shared_are = left_front F (all_shared point r) shared (count M.shared) c n ∙ ap (all_shared point) e;
            rows_are = left_front F (all_rows point r) rows (count M.rows) c m ∙ ap (all_rows point) e;
            shared_rest = left_rest F (all_shared point r) shared (count M.shared) c n;
            rows_rest = left_rest F (all_rows point r) rows (count M.rows) c m;
            finite = rw e at (all_finite ws xs columns point (length shared) (length rows) c);
          })
      go false t =
          let ne : Clear F → ⊥ = eqb-false _ 0 t in
          let f : F ≡ refusal columns point (length shared) (length rows) (yields M) = ap (refusal columns point (length shared) (length rows)) e in
          refused (record {
            number = rw f (yields_number columns point (length shared) (length rows) M (λ z. ne (rw f z)));
            answer = rw t;
            same_shared = left_refused F (all_shared point r) shared ne;
            same_rows = left_refused F (all_rows point r) rows ne;
          })
