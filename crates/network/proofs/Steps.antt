-- One turn of each loop over the words, in the code's terms: n, k and m for the counts, `at` and `start` for places of numbers.
use mathlib.Core.Path.{◌≡◌, refl}
use mathlib.Core.Bool.{Bool, true, false, not, cond}
use mathlib.Core.List.{List}
use Prim.Native.Nat.{ℕ, suc, ◌+◌, ◌*◌, ◌≤◌, ◌<◌}
use lib.Dec.{eqb}
use lib.ListN.{length, get_or}
use native.Mathlib.Omega.{arith}
use native.Mathlib.Numerals.{add-one}
use borrow.Author.Tests.{le-leb, lt-leb}
use Rattle.base.specs.Fault.{Fault}
use Rattle.base.specs.Fault.{fault, unless, or_else, first}
use Rattle.network.specs.Fault.{fault_words, fault_size, word_right}
use Rattle.base.specs.Loop.{loop, tally}
use Rattle.base.specs.Word.{kind_of}
use Rattle.network.specs.Word.{generator_points}
use Rattle.network.specs.Network.{kind_before, buses, generators, branch_place, generator_at, branch_at}
use Rattle.std.specs.Int.{from_bool}
use Rattle.network.proofs.Epigraphs.{bit_few}
use Rattle.network.proofs.Numbers.{generator_next, generator_fits}

pub kind_next : (ws : List ℕ) (kind i : ℕ) → kind_before ws kind (suc i) ≡ cond (eqb (kind_of (get_or ws i 0)) kind) (suc (kind_before ws kind i)) (kind_before ws kind i)
unfolding kind_before tally loop
kind_next ws kind i = refl

-- ---- limits

-- more buses than 256 are refused, whatever follows
pub many_buses : (ws : List ℕ) (n : ℕ) → n ≡ buses ws → 1 ≤ n → 256 < n → fault 2 257 ≡ fault_size ws
unfolding fault_size unless or_else
many_buses ws n e some many = rw (← e, le-leb 1 n some, lt-leb n 256 many)

-- ---- counts

-- so many of the first i words have the kind
pub record Held (ws : List ℕ) (kind i count : ℕ) : Type 0 where
  pub few : count ≤ i
  pub is : count ≡ kind_before ws kind i

pub held_none : (ws : List ℕ) (kind : ℕ) → Held ws kind 0 0
unfolding kind_before tally loop
held_none ws kind = record { few = omega arith; is = refl }

-- one more where the next word has the kind
pub held_next : {ws : List ℕ} {kind i count k n more : ℕ} → Held ws kind i count → k ≡ kind_of (get_or ws i 0) → n ≡ kind → more ≡ from_bool (eqb k n)
    → Held ws kind (i + 1) (count + more)
held_next {ws} {kind} {i} {count} H e f g =
    let t = eqb (kind_of (get_or ws i 0)) kind in
    rw (g, e, f) (record { few = omega (arith, H.few, bit_few t refl); is = rw (add-one, kind_next, ← H.is) (turn t) })
  where
    turn : (b : Bool) → count + from_bool b ≡ cond b (suc count) count
    turn true = omega arith
    turn false = omega arith

-- 1 is a chain of two
pub words_chain : (ws : List ℕ) → fault_words ws ≡ or_else (unless (not (eqb (length ws) 0)) (fault 1 0)) (first (length ws) (λ i. unless (word_right ws i) (fault 1 i)))
unfolding fault_words unless or_else
words_chain ws = go (eqb (length ws) 0) (first (length ws) (λ i. unless (word_right ws i) (fault 1 i)))
  where
    go : (b : Bool) (later : Fault) → cond b (fault 1 0) later ≡ or_else (unless (not b) (fault 1 0)) later
    go true later = refl
    go false later = refl

-- ---- places

module _ (ws : List ℕ) (n g at p : ℕ) (counted : n ≡ buses ws) (here : at ≡ generator_at ws g) (its : p ≡ generator_points (get_or ws (1 + n + g) 0)) where
  pub generator_turn : at + 9 + 2 * p ≡ generator_at ws (g + 1)
  generator_turn = rw (generator_next ws g, ← counted, ← its, ← here)

  pub generator_room : (k : ℕ) → g < k → at + 9 + 2 * p ≤ generator_at ws k
  generator_room k h = rw (← counted, ← its, ← here) at (generator_fits ws g k h)

pub branch_place_is : (ws : List ℕ) (n k b : ℕ) → n ≡ buses ws → k ≡ generators ws → 1 + n + k + b ≡ branch_place ws b
branch_place_is ws n k b e f = rw (e, f)

pub branch_start : (ws : List ℕ) (k start b : ℕ) → k ≡ generators ws → start ≡ generator_at ws k → start + 11 * b ≡ branch_at ws b
unfolding branch_at
branch_start ws k start b e f = rw (f, e)
