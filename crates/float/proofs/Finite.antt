-- Lists whose numbers are all finite.
use Rattle.std.proofs.Common.{◌≡◌, ℕ, ◌+◌, ◌-◌, ◌<◌, Bool, true, false, ltb, ◌↔◌, List, ◌++◌, length, get_or, sym, refl, ap, ◌∙◌, arith, length-append, get_or-append-add, ltb-false, ltb-true}
use lib.ListN.{get_or-append}
use lib.Ieee.{Float, nan}
use Rattle.float.specs.Number.{is_finite, AllFinite}

pub finite_append : (a b : List Float) → AllFinite (a ++ b) ↔ (AllFinite a × AllFinite b)
finite_append a b = (
  λ h. (
    λ j k. ap is_finite (sym (get_or-append a b nan j k)) ∙ h j (omega (arith, length-append a b)),
    λ j k. ap is_finite (sym (get_or-append-add a b j nan)) ∙ h (length a + j) (omega (arith, length-append a b)),
  ),
  λ h j k. go h j k (ltb j (length a)) refl,
)
  where
    go : AllFinite a × AllFinite b → (j : ℕ) → j < length (a ++ b) → (c : Bool) → ltb j (length a) ≡ c → is_finite (get_or (a ++ b) j nan) ≡ true
    go h j k true e = let l = ltb-true j (length a) e in ap is_finite (get_or-append a b nan j l) ∙ h.0 j l
    go h j k false e =
        let l = ltb-false j (length a) e in
        let p : length a + (j - length a) ≡ j = omega arith in
        rw p at (ap is_finite (get_or-append-add a b (j - length a) nan) ∙ h.1 (j - length a) (omega (arith, length-append a b)))
