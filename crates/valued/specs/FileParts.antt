-- Document 02 (a): "14 and 19 come in file order, 14 first within one part, with its beginning word as the place".
use Rattle.std.specs.Prelude.{ℕ, ◌+◌, ◌≡◌, true, List, [], ◌∷◌, ◌++◌, get_or, Float}
use Rattle.base.specs.Fault.{Fault}
use Rattle.base.specs.Word.{word}
use Rattle.float.specs.Number.{is_finite}
use Rattle.nl.specs.Expr.{Expr, Terms, none, more}
use Rattle.nl.specs.File.{Model}
use Rattle.model_reading.specs.Place.{size, rows_at, objective_at}
use Rattle.expression.specs.Value.{value, in_range}
use Rattle.row_values.specs.Answer.{value_fault, shared_values}

-- a shared part, row or objective: its beginning word's kind, load and place, the values of the shared parts before it, its expression
pub record Part : Type 0 where
  pub kind : ℕ
  pub number : ℕ
  pub at : ℕ
  pub named : List Float
  pub expr : Expr

abbrev pub part : ℕ → ℕ → ℕ → List Float → Expr → Part
part kind i at values e = record { kind = kind; number = i; at = at; named = values; expr = e }

abbrev pub All : (Part → Type 0) → List Part → Type 0
All P [] = Unit {0}
All P (p ∷ ps) = P p × All P ps

module _ (point : List Float) where
  abbrev pub shared_parts_from : ℕ → ℕ → List Float → Terms → List Part
  shared_parts_from i at values none = []
  shared_parts_from i at values (more e ts) =
      part 10 i at values e ∷ shared_parts_from (i + 1) (at + 1 + size e) (values ++ (value point values e ∷ [])) ts

  abbrev pub row_parts_from : ℕ → ℕ → List Float → Terms → List Part
  row_parts_from i at values none = []
  row_parts_from i at values (more e ts) = part 11 i at values e ∷ row_parts_from (i + 1) (at + 1 + size e) values ts

  -- all parts of a model, in file order
  abbrev pub parts_of : Model → List Part
  parts_of M =
      let values = shared_values point [] M.shared in
      shared_parts_from 0 0 [] M.shared
      ++ (row_parts_from 0 (rows_at M) values M.rows ++ (part 12 0 (objective_at M) values M.objective ∷ []))

  abbrev pub fault_of : Part → Fault
  fault_of p = value_fault point p.named p.at p.expr

  -- its arguments are inside and its value is finite
  pub record Sound (p : Part) : Type 0 where
    pub ranges : in_range point p.named p.expr ≡ true
    pub finite : is_finite (value point p.named p.expr) ≡ true

  -- f is a part's, and every part before that one is spared
  pub record FirstPart (ps : List Part) (f : Fault) : Type 0 where
    pub before : List Part
    pub its : Part
    pub after : List Part
    pub splits : ps ≡ before ++ (its ∷ after)
    pub spared : All Sound before
    pub answer : f ≡ fault_of its

-- the word at a part's place is its beginning word
abbrev pub Begins : List ℕ → Part → Type 0
Begins ws p = get_or ws p.at 0 ≡ word p.kind p.number
