-- What a writer has done to a lent list: a section of it is written, from one place to the next.
use Rattle.std.specs.Prelude.{ℕ, ◌+◌, ◌≡◌, List, length}
use Rattle.std.proofs.lemmas.List.Edits.{sets}
use Rattle.base.specs.declared.section.ListWriter.{ListWriter}

-- `section` stands in the list from `to` on, and the next one follows it
pub record Wrote {A : Type 0} (before : List A) (to : ℕ) (section after : List A) (next : ℕ) : Type 0 where
  pub holds : after ≡ sets before to section
  pub follows : next ≡ to + length section

-- the same of the list that is lent, which stays the one that was lent
pub record Added {A : Type 0} (before : ListWriter A) (section : List A) (after : ListWriter A) : Type 0 where
  pub wrote : Wrote before.out.now before.at section after.out.now after.at
  pub same : after.out.ghost_name ≡ before.out.ghost_name

-- where a section of so many values ends, in a list of the same length
pub record Ends {A : Type 0} (before : ListWriter A) (count : ℕ) (after : ListWriter A) : Type 0 where
  pub at : after.at ≡ before.at + count
  pub length : length after.out.now ≡ length before.out.now
