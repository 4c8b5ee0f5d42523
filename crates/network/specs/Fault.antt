-- Document 01, "Numbers a controller shows": refusals 1 to 3 of a network, its form, each with its place.
use Rattle.std.specs.Prelude.{ℕ, ◌-◌, Bool, cond, ◌&&◌, List, length, get_or, eqb, leb, Float}
use Rattle.base.specs.Word.{kind_of}
use Rattle.base.specs.Fault.{Fault}
use Rattle.base.specs.Fault.{fault, unless, or_else, first}
use Rattle.base.specs.Refusal.{WORDS, SIZE, COUNT}
use Rattle.network.specs.Limits.{most_buses, most_generators, most_branches, most_references, most_points}
use Rattle.network.specs.Word.{load_right}
use Rattle.network.specs.Network.{kind_before, buses, generators, branches, references}
use Rattle.network.specs.Network.{bus_place, generator_place, branch_place, reference_place, points, needed}

module _ (ws : List ℕ) where
  -- the first word is a header and no other is, kinds do not fall, and the load is right
  unfoldable pub word_right : ℕ → Bool
  word_right i =
      cond (eqb i 0) (eqb (kind_of (get_or ws i 0)) 1)
      (leb 2 (kind_of (get_or ws i 0)) && leb (kind_of (get_or ws (i - 1) 0)) (kind_of (get_or ws i 0)))
      && load_right (kind_before ws 2 i) (get_or ws i 0)

  -- 1 words: the first wrong word, 0 for an empty list
  unfoldable pub fault_words : Fault
  fault_words = cond (eqb (length ws) 0) (fault WORDS 0) (first (length ws) (λ i. unless (word_right i) (fault WORDS i)))

  -- 2 size, with at most `most` points a curve: 1-256 buses, 256 generators, 512 branches, 256 references, points a curve; the word
  -- passing the limit
  abbrev pub fault_size_at : ℕ → Fault
  fault_size_at most =
      or_else (unless (leb 1 (buses ws)) (fault SIZE 0))
      (or_else (unless (leb (buses ws) most_buses) (fault SIZE (bus_place ws most_buses)))
      (or_else (unless (leb (generators ws) most_generators) (fault SIZE (generator_place ws most_generators)))
      (or_else (unless (leb (branches ws) most_branches) (fault SIZE (branch_place ws most_branches)))
      (or_else (unless (leb (references ws) most_references) (fault SIZE (reference_place ws most_references)))
      (first (generators ws) (λ g. unless (leb (points ws g) most) (fault SIZE (generator_place ws g))))))))

  -- "Ten points are now refused as size": no other definition of an answer has the limit
  unfoldable pub fault_size : Fault
  fault_size = fault_size_at most_points

  -- 3 count: the needed length, of a list of `count` numbers
  abbrev pub count_fault : ℕ → Fault
  count_fault count = unless (eqb count (needed ws)) (fault COUNT (needed ws))

  -- the first of 1 and 2, from the words alone; the first of 1 to 3, from the words and the number of numbers
  unfoldable pub words_fault : Fault
  words_fault = or_else fault_words fault_size

  unfoldable pub form_fault : ℕ → Fault
  form_fault count = or_else words_fault (count_fault count)

module _ (ws : List ℕ) (xs : List Float) where
  -- 3 count: the needed length
  unfoldable pub fault_count : Fault
  fault_count = count_fault ws (length xs)
