-- A sum from the left, each addition or subtraction rounded, is off by at most 2^-53 of the sum of its partial sums' absolute values.
use mathlib.Core.Path.{◌≡◌, refl, sym, ap, ap₂, ◌∙◌}
use mathlib.Core.Bool.{Bool, true, false, cond, beq, false≢true}
use mathlib.Core.List.{List, [], ◌∷◌, ◌++◌, map}
use Prim.Native.Nat.{ℕ, zero, suc, ◌+◌, ◌-◌}
use native.Mathlib.Omega.{arith}
use native.Mathlib.Nat.{add-zero, zero-add, add_assoc}
use lib.Dec.{T}
use lib.ListN.{length, get_or}
use lib.IntN.{ℤ, neg_ℤ, ◌+ℤ◌, nat_abs, neg_ℤ-+ℤ, +ℤ_assoc, +ℤ_idl, +ℤ_idr, +ℤ_invr}
use lib.Ieee.{Float, nan, inf, fin, binary64, fits, neg, add, sub}
use lib.Ieee.Fits.{add-fits, sub-fits, neg-fits}
use Rattle.base.specs.Loop.{loop, each, keep}
use Rattle.base.proofs.Loops.{AllFrom, Every}
use Rattle.float.specs.Number.{◌⊕◌, is_finite, AllFinite}
use Rattle.rounding.specs.Units.{units, Within}
use Rattle.rounding.specs.Sums.{Term, plus, minus, amount, worth, opposite, Double, after, computed, sums, exact, sizes}
use Rattle.rounding.proofs.Integer.{neg_neg, within_step, within_neg}
use Rattle.rounding.proofs.Units.{units_neg}
use Rattle.rounding.proofs.Rounded.{add_within, sub_within, infs_not_finite}

-- every term is a double
abbrev pub DoubleTerms : ℕ → List Term → Type 0
DoubleTerms i ts = Every (λ j t. Double t) i ts

-- ---- one list after another

pub computed_append : (s : Float) (as' bs : List Term) → computed s (as' ++ bs) ≡ computed (computed s as') bs
unfolding computed
computed_append s [] bs = refl
computed_append s (t ∷ ts) bs = computed_append (after s t) ts bs

pub sums_append : (s : Float) (as' bs : List Term) → sums s (as' ++ bs) ≡ sums s as' ++ sums (computed s as') bs
unfolding computed sums
sums_append s [] bs = refl
sums_append s (t ∷ ts) bs = cc (sums_append (after s t) ts bs)

pub exact_append : (as' bs : List Term) → exact (as' ++ bs) ≡ exact as' +ℤ exact bs
unfolding exact
exact_append [] bs = sym (+ℤ_idl (exact bs))
exact_append (t ∷ ts) bs = ap (λ (z : ℤ). worth t +ℤ z) (exact_append ts bs) ∙ sym (+ℤ_assoc (worth t) (exact ts) (exact bs))

pub sizes_append : (as' bs : List Float) → sizes (as' ++ bs) ≡ sizes as' + sizes bs
unfolding sizes
sizes_append [] bs = sym (zero-add (sizes bs))
sizes_append (s ∷ ss) bs = ap (λ (n : ℕ). nat_abs (units s) + n) (sizes_append ss bs) ∙ sym (add_assoc (nat_abs (units s)) (sizes ss) (sizes bs))

worth_opposite : (t : Term) → worth (opposite t) ≡ neg_ℤ (worth t)
worth_opposite (plus t) = refl
worth_opposite (minus t) = sym (neg_neg (units t))

pub exact_opposite : (ts : List Term) → exact (map opposite ts) ≡ neg_ℤ (exact ts)
unfolding exact
exact_opposite [] = refl
exact_opposite (t ∷ ts) = ap₂ (λ (a b : ℤ). a +ℤ b) (worth_opposite t) (exact_opposite ts) ∙ sym (neg_ℤ-+ℤ (worth t) (exact ts))

-- the last sum is the result
last_at : (s : Float) (t : Term) (ts : List Term) → get_or (sums s (t ∷ ts)) (length ts) nan ≡ computed s (t ∷ ts)
unfolding computed sums
last_at s t [] = refl
last_at s t (u ∷ ts) = last_at (after s t) u ts

pub length_sums : (s : Float) (ts : List Term) → length (sums s ts) ≡ length ts
unfolding sums
length_sums s [] = refl
length_sums s (t ∷ ts) = ap suc (length_sums (after s t) ts)

pub last_sum : (s : Float) (t : Term) (ts : List Term) → get_or (sums s (t ∷ ts)) (length (sums s (t ∷ ts)) - 1) nan ≡ computed s (t ∷ ts)
last_sum s t ts =
    let n : length (sums s (t ∷ ts)) - 1 ≡ length ts = omega (arith, length_sums s (t ∷ ts)) in
    ap (λ (k : ℕ). get_or (sums s (t ∷ ts)) k nan) n ∙ last_at s t ts

-- ---- a finite result has finite sums and finite terms

pub add_finite : (x y : Float) → is_finite (x ⊕ y) ≡ true → (is_finite x ≡ true) × (is_finite y ≡ true)
unfolding add is_finite
add_finite nan y h = absurd (false≢true h)
add_finite (inf s) nan h = absurd (false≢true h)
add_finite (inf s) (inf t) h = absurd (false≢true (sym (infs_not_finite (beq s t) s) ∙ h))
add_finite (inf s) (fin t n d) h = absurd (false≢true h)
add_finite (fin s m e) nan h = absurd (false≢true h)
add_finite (fin s m e) (inf t) h = absurd (false≢true h)
add_finite (fin s m e) (fin t n d) h = (refl, refl)

pub neg_finite : (x : Float) → is_finite (neg x) ≡ is_finite x
unfolding neg is_finite
neg_finite nan = refl
neg_finite (inf s) = refl
neg_finite (fin s m e) = refl

after_finite : (s : Float) (t : Term) → is_finite (after s t) ≡ true → (is_finite s ≡ true) × (is_finite (amount t) ≡ true)
unfolding sub
after_finite s (plus t) h = add_finite s t h
after_finite s (minus t) h = let p = add_finite s (neg t) h in (p.0, sym (neg_finite t) ∙ p.1)

pub start_finite : (s : Float) (ts : List Term) → is_finite (computed s ts) ≡ true → is_finite s ≡ true
unfolding computed
start_finite s [] h = h
start_finite s (t ∷ ts) h = (after_finite s t (start_finite (after s t) ts h)).0

pub sums_finite : (s : Float) (ts : List Term) → is_finite (computed s ts) ≡ true → AllFinite (sums s ts)
unfolding computed sums
sums_finite s [] h j l = absurd (omega arith)
sums_finite s (t ∷ ts) h zero l = start_finite (after s t) ts h
sums_finite s (t ∷ ts) h (suc j) l = sums_finite (after s t) ts h j (omega arith)

pub terms_finite : (i : ℕ) (s : Float) (ts : List Term) → is_finite (computed s ts) ≡ true → AllFrom (λ j t. is_finite (amount t) ≡ true) i ts
unfolding computed
terms_finite i s [] h = tt
terms_finite i s (t ∷ ts) h = ((after_finite s t (start_finite (after s t) ts h)).1, terms_finite (i + 1) (after s t) ts h)

-- ---- how far off

after_fits : (s : Float) (t : Term) → T (fits binary64 (after s t))
after_fits s (plus t) = add-fits binary64 s t
after_fits s (minus t) = sub-fits binary64 s t

pub computed_fits : (s : Float) (ts : List Term) → T (fits binary64 s) → T (fits binary64 (computed s ts))
unfolding computed
computed_fits s [] f = f
computed_fits s (t ∷ ts) f = computed_fits (after s t) ts (after_fits s t)

pub after_within : (s : Float) (t : Term) → T (fits binary64 s) → Double t → is_finite (after s t) ≡ true → Within (nat_abs (units (after s t))) (units (after s t)) (units s +ℤ worth t)
after_within s (plus t) f g h = add_within s t f g h
after_within s (minus t) f g h = sub_within s t f g h

-- from a start that is itself off: by at most e from `origin`
pub computed_within : (i : ℕ) (ts : List Term) (s : Float) (origin : ℤ) (e : ℕ) → T (fits binary64 s) → DoubleTerms i ts → is_finite (computed s ts) ≡ true
    → Within e (units s) origin → Within (e + sizes (sums s ts)) (units (computed s ts)) (origin +ℤ exact ts)
unfolding computed sums exact sizes
computed_within i [] s origin e f d h w = rw (add-zero e, +ℤ_idr origin) w
computed_within i (t ∷ ts) s origin e f d h w =
    let r = after s t in
    let n = nat_abs (units r) in
    let k = within_step (units r) (units s) (worth t) origin n e (after_within s t f d.all.0 (start_finite r ts h)) w in
    rw (add_assoc e n (sizes (sums r ts)), +ℤ_assoc origin (worth t) (exact ts)) at (computed_within (i + 1) ts r (origin +ℤ worth t) (e + n) (after_fits s t) (record { all = d.all.1 }) h k)

within_self : (a : ℤ) → Within 0 a a
within_self a = rw (+ℤ_invr a) (omega arith)

-- from a double
pub sum_within : (s : Float) (ts : List Term) → T (fits binary64 s) → DoubleTerms 0 ts → is_finite (computed s ts) ≡ true
    → Within (sizes (sums s ts)) (units (computed s ts)) (units s +ℤ exact ts)
sum_within s ts f d h = rw (zero-add (sizes (sums s ts))) at (computed_within 0 ts s (units s) 0 f d h (within_self (units s)))

-- From the opposite of a double that other terms are first added to, as a demand with its loads: the terms end with the signs that `exact` has here.
pub opposite_within : (s : Float) (first ts : List Term) → T (fits binary64 s) → DoubleTerms 0 first → DoubleTerms 0 ts → is_finite (computed (neg (computed s first)) ts) ≡ true
    → Within (sizes (sums s first ++ sums (neg (computed s first)) ts)) (units (computed (neg (computed s first)) ts)) (exact (minus s ∷ map opposite first ++ ts))
unfolding exact
opposite_within s first ts f d c h =
    let t = computed s first in
    let k = sym (neg_finite t) ∙ start_finite (neg t) ts h in
    let w = within_neg (units t) (units s +ℤ exact first) (sizes (sums s first)) (sum_within s first f d k) in
    let o : neg_ℤ (units s +ℤ exact first) +ℤ exact ts ≡ neg_ℤ (units s) +ℤ exact (map opposite first ++ ts) =
    ap (λ (z : ℤ). z +ℤ exact ts) (neg_ℤ-+ℤ (units s) (exact first))
    ∙ +ℤ_assoc (neg_ℤ (units s)) (neg_ℤ (exact first)) (exact ts)
    ∙ ap (λ (z : ℤ). neg_ℤ (units s) +ℤ z) (ap (λ (z : ℤ). z +ℤ exact ts) (sym (exact_opposite first)) ∙ sym (exact_append (map opposite first) ts)) in
    rw (sizes_append (sums s first) (sums (neg t) ts), ← o)
    (computed_within 0 ts (neg t) (neg_ℤ (units s +ℤ exact first)) (sizes (sums s first)) (neg-fits binary64 t (computed_fits s first f)) c h (rw (units_neg t) w))

-- ---- a counted loop, each turn of which has its terms

module _ (step : Float → ℕ → Float) (terms : ℕ → List Term) (turn : (s : Float) (j : ℕ) → step s j ≡ computed s (terms j)) (start : Float) where
  pub loop_computed : (n : ℕ) → loop step start n ≡ computed start (each n terms)
  unfolding loop each computed
  loop_computed zero = refl
  loop_computed (suc n) = turn (loop step start n) n ∙ ap (λ (s : Float). computed s (terms n)) (loop_computed n) ∙ sym (computed_append start (each n terms) (terms n))

  -- the sums are those of the loop itself: in turn j from where the loop stands after j turns
  pub loop_sums : (n : ℕ) → sums start (each n terms) ≡ each n (λ j. sums (loop step start j) (terms j))
  unfolding loop each sums
  loop_sums zero = refl
  loop_sums (suc n) =
      sums_append start (each n terms) (terms n)
      ∙ ap₂ (λ (a b : List Float). a ++ b) (loop_sums n) (ap (λ (s : Float). sums s (terms n)) (sym (loop_computed n)))

-- ---- those that pass a test are added

kept_plus : (c : Bool) (s a : Float) → cond c (s ⊕ a) s ≡ computed s (keep c (plus a))
unfolding computed
kept_plus true s a = refl
kept_plus false s a = refl

module _ (test : ℕ → Bool) (value : ℕ → Float) (start : Float) (n : ℕ) where
  pub added_computed : loop (λ s j. cond (test j) (s ⊕ value j) s) start n ≡ computed start (each n (λ j. keep (test j) (plus (value j))))
  added_computed = loop_computed (λ s j. cond (test j) (s ⊕ value j) s) (λ j. keep (test j) (plus (value j))) (λ s j. kept_plus (test j) s (value j)) start n

  pub added_sums : sums start (each n (λ j. keep (test j) (plus (value j)))) ≡ each n (λ k. sums (loop (λ s j. cond (test j) (s ⊕ value j) s) start k) (keep (test k) (plus (value k))))
  added_sums = loop_sums (λ s j. cond (test j) (s ⊕ value j) s) (λ j. keep (test j) (plus (value j))) (λ s j. kept_plus (test j) s (value j)) start n
