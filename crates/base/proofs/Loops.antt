-- Laws of the counted loops: lengths, what holds of every element, and counts.
use mathlib.Core.Path.{◌≡◌, refl, ap, ◌∙◌}
use mathlib.Core.List.{List, [], ◌∷◌, ◌++◌, map}
use mathlib.Core.Bool.{Bool, true, false, cond}
use Prim.Native.Nat.{ℕ, zero, suc, ◌+◌, ◌-◌, ◌*◌, ◌≤◌, ◌<◌}
use native.Mathlib.Omega.{arith}
use native.Mathlib.Nat.{add-zero, zero-add}
use native.Mathlib.Numerals.{add-one}
use lib.ListN.{length, length-append, get_or, get_or-append}
use lib.Seq.{get_or-append-add}
use lib.Dec.{ltb, eqb}
use borrow.Author.Tests.{ltb-true, ltb-false, eqb-true, eqb-false}
use Rattle.base.specs.Loop.{loop, table, each, keep, tally}

-- ---- lengths

module _ {A : Type 0} where
  pub length_table : (n : ℕ) (f : ℕ → A) → length (table n f) ≡ n
  unfolding loop table
  length_table zero f = refl
  length_table (suc n) f = length-append (table n f) (f n ∷ []) ∙ ap (λ x. x + 1) (length_table n f) ∙ add-one n

  pub length_keep : (t : Bool) (a : A) → length (keep t a) ≡ cond t 1 0
  length_keep true a = refl
  length_keep false a = refl

  pub keep_le : (t : Bool) (a : A) → length (keep t a) ≤ 1
  keep_le true a = omega arith
  keep_le false a = omega arith

  -- so many a turn, and at most so many
  pub length_each : (c n : ℕ) (f : ℕ → List A) → ((j : ℕ) → length (f j) ≡ c) → length (each n f) ≡ c * n
  unfolding loop each
  length_each c zero f h = omega arith
  length_each c (suc n) f h = omega (arith, length-append (each n f) (f n), length_each c n f h, h n)

  pub each_le : (c n : ℕ) (f : ℕ → List A) → ((j : ℕ) → j < n → length (f j) ≤ c) → length (each n f) ≤ c * n
  unfolding loop each
  each_le c zero f h = omega arith
  each_le c (suc n) f h = omega (arith, length-append (each n f) (f n), each_le c n f (λ j l. h j (omega arith)), h n (omega arith))

  -- those that pass a test are as many as the tally says
  pub length_kept : (n : ℕ) (t : ℕ → Bool) (f : ℕ → A) → length (each n (λ j. keep (t j) (f j))) ≡ tally n t
  unfolding loop each tally
  length_kept zero t f = refl
  length_kept (suc n) t f = length-append (each n (λ j. keep (t j) (f j))) (keep (t n) (f n)) ∙ go (t n) (length_kept n t f)
    where
      go : (b : Bool) → length (each n (λ j. keep (t j) (f j))) ≡ tally n t
          → length (each n (λ j. keep (t j) (f j))) + length (keep b (f n)) ≡ cond b (suc (tally n t)) (tally n t)
      go true e = omega arith
      go false e = omega arith

-- ---- every element, with its number from i on

module _ {A : Type 0} where
  abbrev pub AllFrom : (ℕ → A → Type 0) → ℕ → List A → Type 0
  AllFrom P i [] = Unit {0}
  AllFrom P i (a ∷ as') = P i a × AllFrom P (i + 1) as'

module _ {A : Type 0} (P : ℕ → A → Type 0) where
  pub all_append : (i : ℕ) (xs ys : List A) → AllFrom P i xs → AllFrom P (i + length xs) ys → AllFrom P i (xs ++ ys)
  all_append i [] ys h k = rw add-zero at k
  all_append i (x ∷ xs) ys h k =
      let e : i + suc (length xs) ≡ i + 1 + length xs = omega arith in
      (h.0, all_append (i + 1) xs ys h.1 (rw e at k))

  pub all_table : (i n : ℕ) (f : ℕ → A) → ((j : ℕ) → j < n → P (i + j) (f j)) → AllFrom P i (table n f)
  unfolding loop table
  all_table i zero f h = tt
  all_table i (suc n) f h = all_append i (table n f) (f n ∷ []) (all_table i n f (λ j l. h j (omega arith))) (rw (length_table n f) (h n (omega arith), tt))

  pub all_each : (i n : ℕ) (f : ℕ → List A) → ((j : ℕ) → j < n → AllFrom P (i + length (each j f)) (f j)) → AllFrom P i (each n f)
  unfolding loop each
  all_each i zero f h = tt
  all_each i (suc n) f h = all_append i (each n f) (f n) (all_each i n f (λ j l. h j (omega arith))) (h n (omega arith))

  pub all_keep : (i : ℕ) (t : Bool) (a : A) → (t ≡ true → P i a) → AllFrom P i (keep t a)
  all_keep i true a h = (h refl, tt)
  all_keep i false a h = tt

-- the same as a record, so that the lists need not be written
pub record Every {A : Type 0} (P : ℕ → A → Type 0) (i : ℕ) (l : List A) : Type 0 where
  pub all : AllFrom P i l

module _ {A : Type 0} {P : ℕ → A → Type 0} where
  pub every_nil : {i : ℕ} → Every P i []
  every_nil = record { all = tt }

  pub every_cons : {i : ℕ} {a : A} {l : List A} → P i a → Every P (i + 1) l → Every P i (a ∷ l)
  every_cons p e = record { all = (p, e.all) }

  pub every_append : {i : ℕ} {xs ys : List A} → Every P i xs → Every P (i + length xs) ys → Every P i (xs ++ ys)
  every_append {i} {xs} {ys} h k = record { all = all_append P i xs ys h.all k.all }

  pub every_table : {i : ℕ} (n : ℕ) (f : ℕ → A) → ((j : ℕ) → j < n → P (i + j) (f j)) → Every P i (table n f)
  every_table {i} n f h = record { all = all_table P i n f h }

  pub every_each : {i : ℕ} (n : ℕ) (f : ℕ → List A) → ((j : ℕ) → j < n → Every P (i + length (each j f)) (f j)) → Every P i (each n f)
  every_each {i} n f h = record { all = all_each P i n f (λ j l. (h j l).all) }

  pub every_keep : {i : ℕ} (t : Bool) (a : A) → (t ≡ true → P i a) → Every P i (keep t a)
  every_keep {i} t a h = record { all = all_keep P i t a h }

  -- one list or none
  pub every_cond : {i : ℕ} (t : Bool) (l : List A) → (t ≡ true → Every P i l) → Every P i (cond t l [])
  every_cond true l h = h refl
  every_cond false l h = every_nil

-- a law for every element carries over
pub all_map : {A : Type 0} {B : Type 0} (P : ℕ → A → Type 0) (Q : ℕ → B → Type 0) (f : A → B) → ((i : ℕ) (a : A) → P i a → Q i (f a)) → (i : ℕ) (l : List A) → AllFrom P i l → AllFrom Q i (map f l)
all_map P Q f h i [] a = tt
all_map P Q f h i (x ∷ xs) a = (h i x a.0, all_map P Q f h (i + 1) xs a.1)

-- and the other way round: what holds of every element holds of each part and of each element
module _ {A : Type 0} (P : ℕ → A → Type 0) where
  pub all_left : (i : ℕ) (xs ys : List A) → AllFrom P i (xs ++ ys) → AllFrom P i xs
  all_left i [] ys h = tt
  all_left i (x ∷ xs) ys h = (h.0, all_left (i + 1) xs ys h.1)

  pub all_right : (i : ℕ) (xs ys : List A) → AllFrom P i (xs ++ ys) → AllFrom P (i + length xs) ys
  all_right i [] ys h = rw add-zero h
  all_right i (x ∷ xs) ys h =
      let e : i + suc (length xs) ≡ i + 1 + length xs = omega arith in
      rw e (all_right (i + 1) xs ys h.1)

  pub all_at : (i : ℕ) (l : List A) → AllFrom P i l → (j : ℕ) (d : A) → j < length l → P (i + j) (get_or l j d)
  all_at i [] a j d h = absurd (omega arith)
  all_at i (x ∷ l) a zero d h = rw (add-zero i) a.0
  all_at i (x ∷ l) a (suc j) d h =
      let e : i + suc j ≡ i + 1 + j = omega arith in
      rw e (all_at (i + 1) l a.1 j d (omega arith))

  pub all_of_each : (i n : ℕ) (f : ℕ → List A) → AllFrom P i (each n f) → (j : ℕ) → j < n → AllFrom P (i + length (each j f)) (f j)
  unfolding loop each
  all_of_each i zero f h j l = absurd (omega arith)
  all_of_each i (suc n) f h j l = go (eqb j n) refl (all_of_each i n f (all_left i (each n f) (f n) h) j)
    where
      go : (b : Bool) → eqb j n ≡ b → (j < n → AllFrom P (i + length (each j f)) (f j)) → AllFrom P (i + length (each j f)) (f j)
      go true e k = rw (eqb-true j n e) (all_right i (each n f) (f n) h)
      go false e k = let ne = eqb-false j n e in k (omega arith)

-- ---- the element at a place

module _ {A : Type 0} where
  pub get_d_table : (n : ℕ) (f : ℕ → A) (d : A) (i : ℕ) → i < n → get_or (table n f) i d ≡ f i
  unfolding loop table
  get_d_table zero f d i l = absurd (omega arith)
  get_d_table (suc n) f d i l = go (ltb i n) refl (get_d_table n f d i)
    where
      go : (b : Bool) → ltb i n ≡ b → (i < n → get_or (table n f) i d ≡ f i) → get_or (table n f ++ (f n ∷ [])) i d ≡ f i
      go true e k = let h = ltb-true i n e in get_or-append (table n f) (f n ∷ []) d i (omega (arith, length_table n f)) ∙ k h
      go false e k =
          let z : i ≡ n = omega (arith, ltb-false i n e) in
          let y : length (table n f) + 0 ≡ n = omega (arith, length_table n f) in
          rw z (rw y at (get_or-append-add (table n f) (f n ∷ []) 0 d))

-- f 0 .. f (n - 1) stand in l from place k on
pub record Block {A : Type 0} (l : List A) (k n : ℕ) (f : ℕ → A) : Type 0 where
  pub fits : k + n ≤ length l
  pub its : (j : ℕ) (d : A) → j < n → get_or l (k + j) d ≡ f j

module _ {A : Type 0} where
  pub block_table : (n : ℕ) (f : ℕ → A) → Block (table n f) 0 n f
  block_table n f = record {
    fits = omega (arith, length_table n f);
    its = λ j d l. rw zero-add (get_d_table n f d j l);
  }

  pub block_left : {a : List A} (b : List A) {k n : ℕ} {f : ℕ → A} → Block a k n f → Block (a ++ b) k n f
  block_left {a} b {k} h = record {
    fits = omega (arith, h.fits, length-append a b);
    its = λ j d l. get_or-append a b d (k + j) (omega (arith, h.fits)) ∙ h.its j d l;
  }

  pub block_right : (a : List A) {b : List A} {k n : ℕ} {f : ℕ → A} (m : ℕ) → length a + k ≡ m → Block b k n f → Block (a ++ b) m n f
  block_right a {b} {k} m e h = record {
    fits = omega (arith, h.fits, length-append a b);
    its = λ j d l.
        let p : length a + (k + j) ≡ m + j = omega arith in
        rw p at (get_or-append-add a b (k + j) d) ∙ h.its j d l;
  }

-- ---- what a loop keeps

pub loop_keeps : {A : Type 0} (P : A → Type 0) (step : A → ℕ → A) (start : A) (n : ℕ) → P start → ((a : A) (i : ℕ) → i < n → P a → P (step a i)) → P (loop step start n)
unfolding loop
loop_keeps P step start zero h k = h
loop_keeps P step start (suc n) h k = k _ n (omega arith) (loop_keeps P step start n h (λ a i l. k a i (omega arith)))

-- ---- counts

pub tally_le : (n : ℕ) (t : ℕ → Bool) → tally n t ≤ n
unfolding loop tally
tally_le zero t = omega arith
tally_le (suc n) t = go (t n) (tally_le n t)
  where
    go : (b : Bool) → tally n t ≤ n → cond b (suc (tally n t)) (tally n t) ≤ suc n
    go true h = omega arith
    go false h = omega arith

pub tally_step : (n : ℕ) (t : ℕ → Bool) → tally n t ≤ tally (suc n) t
unfolding loop tally
tally_step n t = go (t n)
  where
    go : (b : Bool) → tally n t ≤ cond b (suc (tally n t)) (tally n t)
    go true = omega arith
    go false = omega arith

pub tally_mono : (m d : ℕ) (t : ℕ → Bool) → tally m t ≤ tally (m + d) t
tally_mono m zero t = rw add-zero (omega arith)
tally_mono m (suc d) t =
    let e : m + suc d ≡ suc (m + d) = omega arith in
    rw e (omega (arith, tally_mono m d t, tally_step (m + d) t))

pub tally_up : (m n : ℕ) (t : ℕ → Bool) → m ≤ n → tally m t ≤ tally n t
tally_up m n t h =
    let e : m + (n - m) ≡ n = omega arith in
    rw e at (tally_mono m (n - m) t)

-- one that passes counts
pub tally_counts : (i n : ℕ) (t : ℕ → Bool) → t i ≡ true → i < n → tally i t < tally n t
unfolding loop tally
tally_counts i n t h l =
    let e : tally (suc i) t ≡ suc (tally i t) = rw h in
    omega (arith, e, tally_up (suc i) n t l)

pub tally_all : (n : ℕ) (t : ℕ → Bool) → ((j : ℕ) → j < n → t j ≡ true) → tally n t ≡ n
unfolding loop tally
tally_all zero t h = refl
tally_all (suc n) t h = rw (h n (omega arith)) (ap suc (tally_all n t (λ j l. h j (omega arith))))

-- none passes from m on
pub tally_rest : (m d : ℕ) (t : ℕ → Bool) → ((j : ℕ) → m ≤ j → j < m + d → t j ≡ false) → tally (m + d) t ≡ tally m t
unfolding loop tally
tally_rest m zero t h = rw add-zero
tally_rest m (suc d) t h =
    let e : m + suc d ≡ suc (m + d) = omega arith in
    rw e (rw (h (m + d) (omega arith) (omega arith)) (tally_rest m d t (λ j a b. h j a (omega arith))))

-- the bit of a test
abbrev pub bit : Bool → ℕ
bit b = cond b 1 0

pub tally_bit : (n : ℕ) (t : ℕ → Bool) → tally (suc n) t ≡ tally n t + bit (t n)
unfolding loop tally
tally_bit n t = go (t n)
  where
    go : (b : Bool) → cond b (suc (tally n t)) (tally n t) ≡ tally n t + bit b
    go true = omega arith
    go false = omega arith

-- one count is the sum of two
pub tally_sum : (n : ℕ) (a b c : ℕ → Bool) → ((j : ℕ) → j < n → bit (a j) ≡ bit (b j) + bit (c j)) → tally n a ≡ tally n b + tally n c
unfolding loop tally
tally_sum zero a b c h = refl
tally_sum (suc n) a b c h =
    let r = tally_sum n a b c (λ j l. h j (omega arith)) in
    tally_bit n a ∙ omega (arith, r, tally_bit n b, tally_bit n c, h n (omega arith))
