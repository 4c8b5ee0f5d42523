-- What it means that a refusal is the first of several sections, by their places in the list.
use Rattle.std.specs.Prelude.{ℕ, ◌≡◌, Bool, true, false, ◌||◌, List, [], ◌∷◌, ◌++◌, eqb}
use Rattle.base.specs.Fault.{Fault}
use Rattle.base.specs.Fault.{Section}

abbrev pub member : ℕ → List ℕ → Bool
member x [] = false
member x (y ∷ ys) = eqb x y || member x ys

-- the numbers of all sections
abbrev pub numbers_of : List Section → List ℕ
numbers_of [] = []
numbers_of (s ∷ later) = s.numbers ++ numbers_of later

-- f is the fault of that section which has its number, and every section before that one is clear
abbrev pub Says : Fault → List Section → Type 0
Says f [] = Unit {0}
Says f (s ∷ later) =
    (member f.number s.numbers ≡ true → f ≡ s.its)
    × (member f.number (numbers_of later) ≡ true → s.its.number ≡ 0)
    × Says f later

-- and one of the sections has it
pub record IsFirst (f : Fault) (sections : List Section) : Type 0 where
  pub has : member f.number (numbers_of sections) ≡ true
  pub says : Says f sections
