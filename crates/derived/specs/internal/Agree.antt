-- What is said of scratch lists.
use Rattle.std.specs.Prelude.{ℕ, ◌+◌, ◌<◌, ◌≤◌, ◌≡◌, List, get_or, Float}
use Rattle.std.specs.Float.{nan}

-- the list has f i at `place i`, for each i below count
abbrev pub At : ℕ → (ℕ → ℕ) → (ℕ → Float) → List Float → Type 0
At count place f l = (i : ℕ) → i < count → get_or l (place i) nan ≡ f i

-- of n buses, the first `count` have two numbers each in the list: f i at i, g i at n + i
pub record PerBus (n count : ℕ) (f g : ℕ → Float) (l : List Float) : Type 0 where
  pub one : At count (λ i. i) f l
  pub two : At count (λ i. n + i) g l

-- from place `from` on, the list is as it was
abbrev pub Untouched : ℕ → List Float → List Float → Type 0
Untouched from before after = (j : ℕ) → from ≤ j → get_or after j nan ≡ get_or before j nan
