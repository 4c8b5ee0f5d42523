-- A largest is not above a tolerance exactly where none of its members is.
use mathlib.Core.Path.{◌≡◌, refl, sym, ◌∙◌}
use mathlib.Core.Bool.{Bool, true, false, cond, true≢false}
use mathlib.Core.Logic.{◌↔◌}
use Prim.Native.Nat.{ℕ, zero, suc, ◌<◌}
use native.Mathlib.Omega.{arith}
use lib.Ieee.{Float, lt}
use lib.Dec.{eqb}
use borrow.Author.Tests.{eqb-true, eqb-false}
use Rattle.base.specs.Loop.{loop}
use Rattle.float.specs.Number.{maximum, zero64}
use Rattle.float.proofs.Above.{maximum_law}
use Rattle.residuals.specs.Residuals.{largest, largest_where}

-- for a tolerance t that 0 is not above
module _ (t : Float) (zero_not : lt t zero64 ≡ false) where
  pub largest_law : (n : ℕ) (f : ℕ → Float) → (lt t (largest n f) ≡ false) ↔ ((i : ℕ) → i < n → lt t (f i) ≡ false)
  unfolding loop largest
  largest_law zero f = (λ h i l. absurd (omega arith), λ h. zero_not)
  largest_law (suc n) f =
      let m = maximum_law t (largest n f) (f n) in
      let r = largest_law n f in
      (λ h. last (λ i l. r.0 (m.0 h).0 i l) (m.0 h).1, λ h. m.1 (r.1 (λ i l. h i (omega arith)), h n (omega arith)))
    where
      last : ((i : ℕ) → i < n → lt t (f i) ≡ false) → lt t (f n) ≡ false → (i : ℕ) → i < suc n → lt t (f i) ≡ false
      last h k i l = go (eqb i n) refl
        where
          go : (c : Bool) → eqb i n ≡ c → lt t (f i) ≡ false
          go true e = rw (eqb-true i n e) k
          go false e = let ne = eqb-false i n e in h i (omega arith)

  pub largest_where_law : (n : ℕ) (p : ℕ → Bool) (f : ℕ → Float) → (lt t (largest_where n p f) ≡ false) ↔ ((i : ℕ) → i < n → p i ≡ true → lt t (f i) ≡ false)
  unfolding loop largest_where
  largest_where_law zero p f = (λ h i l. absurd (omega arith), λ h. zero_not)
  largest_where_law (suc n) p f = pick (p n) refl (largest_where_law n p f)
    where
      last : ((i : ℕ) → i < n → p i ≡ true → lt t (f i) ≡ false) → (p n ≡ true → lt t (f n) ≡ false) → (i : ℕ) → i < suc n → p i ≡ true → lt t (f i) ≡ false
      last h k i l = go (eqb i n) refl
        where
          go : (c : Bool) → eqb i n ≡ c → p i ≡ true → lt t (f i) ≡ false
          go true e = rw (eqb-true i n e) k
          go false e = let ne = eqb-false i n e in h i (omega arith)

      pick : (c : Bool) → p n ≡ c → (lt t (largest_where n p f) ≡ false) ↔ ((i : ℕ) → i < n → p i ≡ true → lt t (f i) ≡ false)
          → (lt t (cond c (maximum (largest_where n p f) (f n)) (largest_where n p f)) ≡ false) ↔ ((i : ℕ) → i < suc n → p i ≡ true → lt t (f i) ≡ false)
      pick true e r =
          let m = maximum_law t (largest_where n p f) (f n) in
          (λ h. last (r.0 (m.0 h).0) (λ z. (m.0 h).1), λ h. m.1 (r.1 (λ i l. h i (omega arith)), h n (omega arith) e))
      pick false e r = (λ h. last (r.0 h) (λ z. absurd (true≢false (sym z ∙ e))), λ h. r.1 (λ i l. h i (omega arith)))
