-- A refusal, its number and place (document 01, "Numbers a controller shows"), and the first of several.
use Rattle.std.specs.Prelude.{ℕ, ◌+◌, ◌-◌, ◌*◌, ◌^◌, min, Bool, cond, Option, Some, None, List, [], ◌∷◌, ◌++◌, length, drop, eqb, Result, Ok, Err}
use Rattle.base.specs.declared.refusal.Refusal.{Refusal}
use Rattle.base.specs.Refusal.{number_of}
use Rattle.base.specs.Loop.{loop}

-- the number and the place that are shown
pub record Fault : Type 0 where
  pub number : ℕ
  pub place : ℕ

abbrev pub fault : ℕ → ℕ → Fault
fault number place = record { number = number; place = place }

-- where nothing is refused, number and place are 0
abbrev pub clear : Fault
clear = fault 0 0

unfoldable pub unless : Bool → Fault → Fault
unless right f = cond right clear f

-- the fault of the place i that a search finds, where its place 0 counts as place `from`; clear where it finds none
abbrev pub fault_at : ℕ → ℕ → Option ℕ → Fault
fault_at number from None = clear
fault_at number from (Some i) = fault number (from + i)

-- the first of two, and of f 0, f 1 .. f (count - 1)
unfoldable pub or_else : Fault → Fault → Fault
or_else f later = cond (eqb f.number 0) later f

unfoldable pub first : ℕ → (ℕ → Fault) → Fault
unfolding loop
first count f = loop (λ r i. or_else r (f i)) clear count

-- a section of the refusals: the numbers that it gives and no other section does, and its fault
pub record Section : Type 0 where
  pub numbers : List ℕ
  pub its : Fault

abbrev pub section : List ℕ → Fault → Section
section numbers f = record { numbers = numbers; its = f }

-- the first of several sections, in the order in which they stand, which need not be that of their numbers
abbrev pub first_of : List Section → Fault
first_of [] = clear
first_of (s ∷ []) = s.its
first_of (s ∷ t ∷ later) = or_else s.its (first_of (t ∷ later))

-- document 00, condition 1: a lent list after the call has "the finished result in its named front part with the rest untouched, or, after
-- a refusal, exactly what it held before"
abbrev pub left : {A : Type 0} → Fault → List A → List A → List A
left f result before = cond (eqb f.number 0) (result ++ drop (length result) before) before

-- a refusal as it is shown, and the answer of a check
abbrev pub shown : Refusal → Fault
shown r = fault (number_of r.reason) r.place

abbrev pub fault_of : {A : Type 0} → Result A Refusal → Fault
fault_of (Ok a) = clear
fault_of (Err r) = shown r

-- across the C boundary: number times 2 to the power 32 plus the place, a larger place given as 2 to the power 32 minus 1
abbrev pub packed : Fault → ℕ
packed f = f.number * 2 ^ 32 + min f.place (2 ^ 32 - 1)
