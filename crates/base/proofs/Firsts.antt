-- Laws of first faults: what a clear answer means, and that a refusal is the first.
use mathlib.Core.Path.{◌≡◌, refl, ◌∙◌}
use mathlib.Core.Bool.{Bool, true, false, cond}
use Prim.Native.Nat.{ℕ, zero, suc, ◌≤◌, ◌<◌}
use native.Mathlib.Omega.{arith}
use lib.Dec.{eqb}
use borrow.Author.Tests.{eqb-true, eqb-false, eq-eqb, ne_eqb}
use Rattle.base.specs.Fault.{Fault}
use Rattle.base.specs.Fault.{fault, clear, unless, or_else, first}
use Rattle.base.specs.Loop.{loop}

-- nothing refused
abbrev pub Clear : Fault → Type 0
Clear f = f.number ≡ 0

-- a fault whose number is 0 has place 0 too
abbrev pub Proper : Fault → Type 0
Proper f = Clear f → f ≡ clear

-- ---- one of two

pub or_go : (f g : Fault) → Clear f → or_else f g ≡ g
unfolding or_else
or_go f g h = rw (eq-eqb f.number 0 h)

pub or_stop : (f g : Fault) → (Clear f → ⊥) → or_else f g ≡ f
unfolding or_else
or_stop f g h = rw (ne_eqb f.number 0 h)

pub or_left : (f g : Fault) → Clear (or_else f g) → Clear f
unfolding or_else
or_left f g h = go (eqb f.number 0) refl h
  where
    go : (b : Bool) → eqb f.number 0 ≡ b → (cond b g f).number ≡ 0 → Clear f
    go true e h = eqb-true f.number 0 e
    go false e h = h

pub or_right : (f g : Fault) → Clear (or_else f g) → Clear g
or_right f g h = rw (or_go f g (or_left f g h)) at h

pub or_clear : (f g : Fault) → Clear f → Clear g → Clear (or_else f g)
or_clear f g h k = rw (or_go f g h) k

pub or_proper : (f g : Fault) → Proper g → Proper (or_else f g)
or_proper f g k h = or_go f g (or_left f g h) ∙ k (or_right f g h)

-- ---- one test

pub unless_true : (b : Bool) (number place : ℕ) → 0 < number → Clear (unless b (fault number place)) → b ≡ true
unfolding unless
unless_true true number place h e = refl
unless_true false number place h e = absurd (omega arith)

pub unless_clear : (b : Bool) (f : Fault) → b ≡ true → unless b f ≡ clear
unfolding unless
unless_clear b f h = rw h

pub unless_proper : (b : Bool) (number place : ℕ) → 0 < number → Proper (unless b (fault number place))
unfolding unless
unless_proper true number place h e = refl
unless_proper false number place h e = absurd (omega arith)

-- ---- one of many

pub first_clear : (n : ℕ) (f : ℕ → Fault) → Clear (first n f) → (i : ℕ) → i < n → Clear (f i)
unfolding loop first
first_clear zero f h i l = absurd (omega arith)
first_clear (suc n) f h i l = go (eqb i n) refl (first_clear n f (or_left (first n f) (f n) h) i)
  where
    go : (b : Bool) → eqb i n ≡ b → (i < n → Clear (f i)) → Clear (f i)
    go true e k = rw (eqb-true i n e) (or_right (first n f) (f n) h)
    go false e k = let ne = eqb-false i n e in k (omega arith)

pub all_clear : (n : ℕ) (f : ℕ → Fault) → ((i : ℕ) → i < n → Clear (f i)) → Clear (first n f)
unfolding loop first
all_clear zero f h = refl
all_clear (suc n) f h = or_clear (first n f) (f n) (all_clear n f (λ i l. h i (omega arith))) (h n (omega arith))

pub first_proper : (n : ℕ) (f : ℕ → Fault) → ((i : ℕ) → Proper (f i)) → Proper (first n f)
unfolding loop first
first_proper zero f h e = refl
first_proper (suc n) f h e = or_proper (first n f) (f n) (h n) e

-- ---- a refusal is the first

-- of many: the one that refuses, and none before it does
pub first_is : (n : ℕ) (f : ℕ → Fault) → (Clear (first n f) → ⊥) → (i : ℕ) × (i < n) × (first n f ≡ f i) × ((j : ℕ) → j < i → Clear (f j))
unfolding loop first
first_is zero f h = absurd (h refl)
first_is (suc n) f h = go (eqb (first n f).number 0) refl (first_is n f)
  where
    go : (b : Bool) → eqb (first n f).number 0 ≡ b → ((Clear (first n f) → ⊥) → (i : ℕ) × (i < n) × (first n f ≡ f i) × ((j : ℕ) → j < i → Clear (f j)))
        → (i : ℕ) × (i < suc n) × (or_else (first n f) (f n) ≡ f i) × ((j : ℕ) → j < i → Clear (f j))
    go true e k = let c = eqb-true _ 0 e in (n, omega arith, or_go (first n f) (f n) c, first_clear n f c)
    go false e k =
        let c = eqb-false _ 0 e in
        let (i, l, p, q) = k c in
        (i, omega arith, or_stop (first n f) (f n) c ∙ p, q)

-- of many tests with one number: the first that fails, and its place
pub record FirstFail (n : ℕ) (test : ℕ → Bool) (number : ℕ) (place : ℕ → ℕ) (f : Fault) : Type 0 where
  pub which : ℕ
  pub within : which < n
  pub fails : test which ≡ false
  pub before : (j : ℕ) → j < which → test j ≡ true
  pub answer : f ≡ fault number (place which)

unless_false : (b : Bool) (f : Fault) → (Clear (unless b f) → ⊥) → (b ≡ false) × (unless b f ≡ f)
unfolding unless
unless_false true f h = absurd (h refl)
unless_false false f h = (refl, refl)

pub first_fails : (n : ℕ) (test : ℕ → Bool) (number : ℕ) (place : ℕ → ℕ) → 0 < number → (Clear (first n (λ i. unless (test i) (fault number (place i)))) → ⊥)
    → FirstFail n test number place (first n (λ i. unless (test i) (fault number (place i))))
first_fails n test number place z c =
    let (i, l, e, k) = first_is n (λ i. unless (test i) (fault number (place i))) c in
    let u = unless_false (test i) (fault number (place i)) (λ y. c (rw e y)) in
    record {
      which = i;
      within = l;
      fails = u.0;
      before = λ j m. unless_true (test j) number (place j) z (k j m);
      answer = e ∙ u.1;
    }

-- its number, where it refuses, is from lo to hi
pub record Spans (lo hi : ℕ) (f : Fault) : Type 0 where
  pub low : (Clear f → ⊥) → lo ≤ f.number
  pub high : (Clear f → ⊥) → f.number ≤ hi

pub spans_unless : {lo hi : ℕ} (b : Bool) (number place : ℕ) → lo ≤ number → number ≤ hi → Spans lo hi (unless b (fault number place))
unfolding unless
spans_unless true number place h k = record { low = λ c. absurd (c refl); high = λ c. absurd (c refl) }
spans_unless false number place h k = record { low = λ c. h; high = λ c. k }

pub spans_or : {lo hi : ℕ} {f g : Fault} → Spans lo hi f → Spans lo hi g → Spans lo hi (or_else f g)
unfolding or_else
spans_or {lo} {hi} {f} {g} h k = go (eqb f.number 0)
  where
    go : (b : Bool) → Spans lo hi (cond b g f)
    go true = k
    go false = h

pub spans_first : {lo hi : ℕ} (n : ℕ) {f : ℕ → Fault} → ((i : ℕ) → Spans lo hi (f i)) → Spans lo hi (first n f)
unfolding loop first
spans_first zero h = record { low = λ c. absurd (c refl); high = λ c. absurd (c refl) }
spans_first (suc n) h = spans_or (spans_first n h) (h n)

pub spans_wide : {lo hi lo' hi' : ℕ} {f : Fault} → lo' ≤ lo → hi ≤ hi' → Spans lo hi f → Spans lo' hi' f
spans_wide h k s = record { low = λ c. omega (arith, s.low c); high = λ c. omega (arith, s.high c) }
