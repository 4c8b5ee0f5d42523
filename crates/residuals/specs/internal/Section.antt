-- Residual 3 by sections of columns: each section goes on from the largest before it.
use Rattle.std.specs.Prelude.{ℕ, cond, List, Float}
use Rattle.std.specs.Float.Ieee.{neg}
use Rattle.base.specs.Loop.{loop}
use Rattle.float.specs.Number.{maximum}
use Rattle.bounds.specs.Bounds.{huge64, positive_violation}
use Rattle.network.specs.Network.{number}
use Rattle.network.specs.declared.records.Generator.{Generator}

-- the largest of start and f 0 .. f (count - 1)
unfoldable pub largest_with : Float → ℕ → (ℕ → Float) → Float
largest_with start count f = loop (λ r i. maximum r (f i)) start count

-- how far the j-th of the columns is outside its bounds
abbrev pub outside : List Float → (ℕ → Float) → (ℕ → Float) → ℕ → Float
outside columns lower upper j = positive_violation (number columns j) (lower j) (upper j)

-- the bounds that the generator's column is held to: f's where its word has active ones
abbrev pub held_lower : (Generator → Float × Float) → Generator → Float
held_lower f r = cond r.bounded (f r).0 (neg huge64)

abbrev pub held_upper : (Generator → Float × Float) → Generator → Float
held_upper f r = cond r.bounded (f r).1 huge64
