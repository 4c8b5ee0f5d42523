-- What refusals 1 and 2 leave: each word stands in its block, and its bus numbers are below the count of buses.
use mathlib.Core.Path.{◌≡◌, refl, ap, sym, ◌∙◌}
use mathlib.Core.List.{List}
use mathlib.Core.Bool.{Bool, true, false, cond, not, ◌&&◌, false≢true}
use Prim.Native.Nat.{ℕ, zero, suc, ◌+◌, ◌-◌, ◌^◌, ◌≤◌, ◌<◌}
use native.Mathlib.Omega.{arith}
use native.Mathlib.Nat.{add-zero}
use lib.ListN.{length, get_or}
use lib.Dec.{eqb, leb, ltb}
use borrow.Author.Tests.{ltb-true, leb-true, not-true, leb-false, eqb-true, eqb-false, ne_eqb, le-leb, lt-leb}
use Rattle.base.proofs.Firsts.{Clear, or_left, or_right, unless_true, first_clear}
use Rattle.base.proofs.Loops.{bit, tally_le, tally_up, tally_all, tally_rest, tally_sum}
use Rattle.base.specs.Fault.{fault}
use Rattle.base.specs.Loop.{loop, tally}
use Rattle.base.specs.Word.{kind_of, load_of}
use Rattle.base.specs.Fault.{Fault}
use Rattle.network.specs.Fault.{word_right, fault_words, fault_size}
use Rattle.network.specs.Network.{kind_before, buses, generators, branches, references, bus_of, points, from, to, referred, generator_place, branch_place, reference_place}
use Rattle.network.specs.Limits.{most_buses, most_generators, most_branches, most_references, most_points}
use Rattle.network.specs.Word.{load_right, generator_bus, generator_points, branch_from, branch_to, reference_bus}

pub and_left : (a b : Bool) → a && b ≡ true → a ≡ true
and_left true b h = refl
and_left false b h = h

pub and_right : (a b : Bool) → a && b ≡ true → b ≡ true
and_right true b h = h
and_right false b h = absurd (false≢true h)

-- ---- what a right load says, by kind

module _ (n w : ℕ) (h : load_right n w ≡ true) where
  kind_high : kind_of w ≤ 5
  unfolding load_right
  kind_high = go (eqb (kind_of w) 1) (eqb (kind_of w) 2) (eqb (kind_of w) 3) (eqb (kind_of w) 4) (eqb (kind_of w) 5) refl refl refl refl refl _ _ _ _ _ h
    where
      go : (a b c d e : Bool) → eqb (kind_of w) 1 ≡ a → eqb (kind_of w) 2 ≡ b → eqb (kind_of w) 3 ≡ c → eqb (kind_of w) 4 ≡ d → eqb (kind_of w) 5 ≡ e
          → (x y z u v : Bool) → cond a x (cond b y (cond c z (cond d u (cond e v false)))) ≡ true → kind_of w ≤ 5
      go true b c d e p q r s t x y z u v k = omega (arith, eqb-true (kind_of w) 1 p)
      go false true c d e p q r s t x y z u v k = omega (arith, eqb-true (kind_of w) 2 q)
      go false false true d e p q r s t x y z u v k = omega (arith, eqb-true (kind_of w) 3 r)
      go false false false true e p q r s t x y z u v k = omega (arith, eqb-true (kind_of w) 4 s)
      go false false false false true p q r s t x y z u v k = omega (arith, eqb-true (kind_of w) 5 t)
      go false false false false false p q r s t x y z u v k = absurd (false≢true k)

  load_generator : kind_of w ≡ 3 → generator_bus w < n
  unfolding load_right
  load_generator e =
      let k : ltb (load_of w) (2 ^ 18) && ltb (generator_bus w) n && not (eqb (generator_points w) 1) ≡ true = rw e at h in
      ltb-true _ n (and_right (ltb (load_of w) (2 ^ 18)) (ltb (generator_bus w) n) (and_left _ (not (eqb (generator_points w) 1)) k))

  load_points : kind_of w ≡ 3 → generator_points w ≡ 1 → ⊥
  unfolding load_right
  load_points e =
      let k : ltb (load_of w) (2 ^ 18) && ltb (generator_bus w) n && not (eqb (generator_points w) 1) ≡ true = rw e at h in
      eqb-false (generator_points w) 1 (not-true _ (and_right (ltb (load_of w) (2 ^ 18) && ltb (generator_bus w) n) (not (eqb (generator_points w) 1)) k))

  load_from : kind_of w ≡ 4 → branch_from w < n
  unfolding load_right
  load_from e =
      let k : ltb (load_of w) (2 ^ 26) && ltb (branch_from w) n && ltb (branch_to w) n ≡ true = rw e at h in
      ltb-true _ n (and_right (ltb (load_of w) (2 ^ 26)) (ltb (branch_from w) n) (and_left _ (ltb (branch_to w) n) k))

  load_to : kind_of w ≡ 4 → branch_to w < n
  unfolding load_right
  load_to e =
      let k : ltb (load_of w) (2 ^ 26) && ltb (branch_from w) n && ltb (branch_to w) n ≡ true = rw e at h in
      ltb-true _ n (and_right (ltb (load_of w) (2 ^ 26) && ltb (branch_from w) n) (ltb (branch_to w) n) k)

  load_reference : kind_of w ≡ 5 → reference_bus w < n
  unfolding load_right
  load_reference e =
      let k : ltb (load_of w) (2 ^ 12) && ltb (reference_bus w) n ≡ true = rw e at h in
      ltb-true _ n (and_right (ltb (load_of w) (2 ^ 12)) (ltb (reference_bus w) n) k)

module _ (ws : List ℕ) where
  abbrev kind : ℕ → ℕ
  kind i = kind_of (get_or ws i 0)

  -- the order's part of `word_right`
  abbrev order_right : ℕ → Bool
  order_right i = cond (eqb i 0) (eqb (kind_of (get_or ws i 0)) 1) (leb 2 (kind_of (get_or ws i 0)) && leb (kind_of (get_or ws (i - 1) 0)) (kind_of (get_or ws i 0)))

  -- how many words have a kind up to v
  upto : ℕ → ℕ
  upto v = tally (length ws) (λ i. leb (kind i) v)

  split_bit : (k v : ℕ) → bit (leb k (suc v)) ≡ bit (leb k v) + bit (eqb k (suc v))
  split_bit k v = go (leb k v) (eqb k (suc v)) refl refl
    where
      go : (a b : Bool) → leb k v ≡ a → eqb k (suc v) ≡ b → bit (leb k (suc v)) ≡ bit a + bit b
      go true true p q = absurd (omega (arith, leb-true k v p, eqb-true k (suc v) q))
      go true false p q = rw (le-leb k (suc v) (omega (arith, leb-true k v p)))
      go false true p q = rw (le-leb k (suc v) (omega (arith, eqb-true k (suc v) q)))
      go false false p q = let ne = eqb-false k (suc v) q in rw (lt-leb k (suc v) (omega (arith, leb-false k v p)))

  upto_next : (v : ℕ) → upto (suc v) ≡ upto v + kind_before ws (suc v) (length ws)
  unfolding upto kind_before
  upto_next v = tally_sum (length ws) _ _ _ (λ j l. split_bit (kind j) v)

module _ (ws : List ℕ) (W : Clear (fault_words ws)) where
  some_word : 0 < length ws
  unfolding fault_words
  some_word = go (eqb (length ws) 0) _ refl W
    where
      go : (b : Bool) (f : Fault) → eqb (length ws) 0 ≡ b → Clear (cond b (fault 1 0) f) → 0 < length ws
      go true f e k = absurd (omega arith)
      go false f e k = let ne = eqb-false (length ws) 0 e in omega arith

  right : (i : ℕ) → i < length ws → word_right ws i ≡ true
  unfolding fault_words
  right i l =
      let e = ne_eqb (length ws) 0 (λ z. omega (arith, some_word)) in
      unless_true _ 1 i (omega arith) (first_clear (length ws) _ (rw e at W) i l)

  right_load : (i : ℕ) → i < length ws → load_right (kind_before ws 2 i) (get_or ws i 0) ≡ true
  unfolding word_right
  right_load i l = and_right (order_right ws i) _ (right i l)

  header : kind ws 0 ≡ 1
  unfolding word_right
  header = eqb-true _ 1 (and_left (order_right ws 0) _ (right 0 some_word))

  later : (i : ℕ) → suc i < length ws → leb 2 (kind ws (suc i)) && leb (kind ws i) (kind ws (suc i)) ≡ true
  unfolding word_right
  later i l =
      let e : suc i - 1 ≡ i = omega arith in
      let z : eqb (suc i) 0 ≡ false = ne_eqb (suc i) 0 (λ y. omega arith) in
      let k : order_right ws (suc i) ≡ true = and_left _ (load_right (kind_before ws 2 (suc i)) (get_or ws (suc i) 0)) (right (suc i) l) in
      rw (e, z) at k

  rising : (i d : ℕ) → i + d < length ws → kind ws i ≤ kind ws (i + d)
  rising i zero l = rw add-zero (omega arith)
  rising i (suc d) l =
      let e : i + suc d ≡ suc (i + d) = omega arith in
      rw e (omega (arith, rising i d (omega arith), leb-true (kind ws (i + d)) (kind ws (suc (i + d))) (and_right (leb 2 (kind ws (suc (i + d)))) _ (later (i + d) (omega arith)))))

  -- a word has a kind up to v exactly where so many words have
  low_before : (v p : ℕ) → p < length ws → kind ws p ≤ v → p < upto ws v
  unfolding upto
  low_before v p l h =
      let all : tally (suc p) (λ i. leb (kind ws i) v) ≡ suc p =
      tally_all (suc p) _ (λ j m. let e : j + (p - j) ≡ p = omega arith in let r : kind ws j ≤ kind ws p = rw e at (rising j (p - j) (omega arith)) in le-leb _ v (omega arith)) in
      omega (arith, all, tally_up (suc p) (length ws) (λ i. leb (kind ws i) v) l)

  high_after : (v p : ℕ) → p < length ws → v < kind ws p → upto ws v ≤ p
  unfolding upto
  high_after v p l h =
      let e : p + (length ws - p) ≡ length ws = omega arith in
      let none = tally_rest p (length ws - p) (λ i. leb (kind ws i) v)
      (λ j a b. let f : p + (j - p) ≡ j = omega arith in let r : kind ws p ≤ kind ws j = rw f at (rising p (j - p) (omega arith)) in lt-leb _ v (omega arith)) in
      omega (arith, rw e at none, tally_le p (λ i. leb (kind ws i) v))

  upto_high : (v : ℕ) → upto ws v ≤ length ws
  unfolding upto
  upto_high v = tally_le (length ws) _

  block : (v p : ℕ) → upto ws v ≤ p → p < upto ws (suc v) → kind ws p ≡ suc v
  block v p a b =
      let l : p < length ws = omega (arith, upto_high (suc v)) in
      go l (leb (kind ws p) v) (leb (kind ws p) (suc v)) refl refl
    where
      go : p < length ws → (s t : Bool) → leb (kind ws p) v ≡ s → leb (kind ws p) (suc v) ≡ t → kind ws p ≡ suc v
      go l true t e f = absurd (omega (arith, low_before v p l (leb-true (kind ws p) v e)))
      go l false true e f = omega (arith, leb-false (kind ws p) v e, leb-true (kind ws p) (suc v) f)
      go l false false e f = absurd (omega (arith, high_after (suc v) p l (leb-false (kind ws p) (suc v) f)))

  upto_one : upto ws 1 ≡ 1
  unfolding upto loop tally
  upto_one =
      let e : 1 + (length ws - 1) ≡ length ws = omega (arith, some_word) in
      let none = tally_rest 1 (length ws - 1) (λ i. leb (kind ws i) 1)
      (λ j a b. let f : suc (j - 1) ≡ j = omega arith in
      let k : 2 ≤ kind ws j = rw f at (leb-true 2 (kind ws (suc (j - 1))) (and_left _ (leb (kind ws (j - 1)) (kind ws (suc (j - 1)))) (later (j - 1) (omega (arith, e))))) in lt-leb (kind ws j) 1 k) in
      rw e at none ∙ rw (header)

  upto_two : upto ws 2 ≡ 1 + buses ws
  unfolding buses
  upto_two = upto_next ws 1 ∙ ap (λ x. x + kind_before ws 2 (length ws)) upto_one

  upto_three : upto ws 3 ≡ 1 + buses ws + generators ws
  unfolding generators
  upto_three = upto_next ws 2 ∙ ap (λ x. x + kind_before ws 3 (length ws)) upto_two

  upto_four : upto ws 4 ≡ 1 + buses ws + generators ws + branches ws
  unfolding branches
  upto_four = upto_next ws 3 ∙ ap (λ x. x + kind_before ws 4 (length ws)) upto_three

  upto_five : upto ws 5 ≡ 1 + buses ws + generators ws + branches ws + references ws
  unfolding references
  upto_five = upto_next ws 4 ∙ ap (λ x. x + kind_before ws 5 (length ws)) upto_four

  -- the words are the header and the four blocks
  pub words_length : length ws ≡ 1 + buses ws + generators ws + branches ws + references ws
  unfolding upto
  words_length = sym (tally_all (length ws) _ (λ j l. le-leb _ 5 (kind_high _ _ (right_load j l)))) ∙ upto_five

  buses_before_is : (p : ℕ) → p < length ws → kind_before ws 2 p ≤ buses ws
  unfolding buses kind_before
  buses_before_is p l = tally_up p (length ws) _ (omega arith)

  pub bus_of_generator : (g : ℕ) → g < generators ws → bus_of ws g < buses ws
  bus_of_generator g h =
      let l : generator_place ws g < length ws = omega (arith, words_length) in
      omega (arith, buses_before_is (generator_place ws g) l, load_generator (kind_before ws 2 (generator_place ws g)) (get_or ws (generator_place ws g) 0) (right_load (generator_place ws g) l) (block 2 (generator_place ws g) (omega (arith, upto_two)) (omega (arith, upto_three))))

  -- "0 none; 1 is a fault"
  pub no_single_point : (g : ℕ) → g < generators ws → points ws g ≡ 1 → ⊥
  no_single_point g h =
      let l : generator_place ws g < length ws = omega (arith, words_length) in
      load_points (kind_before ws 2 (generator_place ws g)) (get_or ws (generator_place ws g) 0) (right_load (generator_place ws g) l) (block 2 (generator_place ws g) (omega (arith, upto_two)) (omega (arith, upto_three)))

  pub from_bus : (b : ℕ) → b < branches ws → from ws b < buses ws
  from_bus b h =
      let l : branch_place ws b < length ws = omega (arith, words_length) in
      omega (arith, buses_before_is (branch_place ws b) l, load_from (kind_before ws 2 (branch_place ws b)) (get_or ws (branch_place ws b) 0) (right_load (branch_place ws b) l) (block 3 (branch_place ws b) (omega (arith, upto_three)) (omega (arith, upto_four))))

  pub to_bus : (b : ℕ) → b < branches ws → to ws b < buses ws
  to_bus b h =
      let l : branch_place ws b < length ws = omega (arith, words_length) in
      omega (arith, buses_before_is (branch_place ws b) l, load_to (kind_before ws 2 (branch_place ws b)) (get_or ws (branch_place ws b) 0) (right_load (branch_place ws b) l) (block 3 (branch_place ws b) (omega (arith, upto_three)) (omega (arith, upto_four))))

  pub referred_bus : (r : ℕ) → r < references ws → referred ws r < buses ws
  referred_bus r h =
      let l : reference_place ws r < length ws = omega (arith, words_length) in
      omega (arith, buses_before_is (reference_place ws r) l, load_reference (kind_before ws 2 (reference_place ws r)) (get_or ws (reference_place ws r) 0) (right_load (reference_place ws r) l) (block 4 (reference_place ws r) (omega (arith, upto_four)) (omega (arith, upto_five))))

-- ---- the limits

pub limits : (ws : List ℕ) → Clear (fault_size ws)
    → (1 ≤ buses ws) × (buses ws ≤ most_buses) × (generators ws ≤ most_generators) × (branches ws ≤ most_branches) × (references ws ≤ most_references)
    × ((g : ℕ) → g < generators ws → points ws g ≤ most_points)
unfolding fault_size
limits ws h =
    let h1 = or_right _ _ h in
    let h2 = or_right _ _ h1 in
    let h3 = or_right _ _ h2 in
    let h4 = or_right _ _ h3 in
    let h5 = or_right _ _ h4 in (
      leb-true 1 _ (unless_true _ 2 _ (omega arith) (or_left _ _ h)),
      leb-true _ most_buses (unless_true _ 2 _ (omega arith) (or_left _ _ h1)),
      leb-true _ most_generators (unless_true _ 2 _ (omega arith) (or_left _ _ h2)),
      leb-true _ most_branches (unless_true _ 2 _ (omega arith) (or_left _ _ h3)),
      leb-true _ most_references (unless_true _ 2 _ (omega arith) (or_left _ _ h4)),
      λ g l. leb-true _ most_points (unless_true _ 2 _ (omega arith) (first_clear _ _ h5 g l)),
    )
