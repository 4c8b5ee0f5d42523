-- Operators and the sign, bit for bit: negating an operand negates a product or a quotient; negating both negates a sum, but for one that cancels.
use Rattle.std.proofs.Common.{◌≡◌, ℕ, zero, suc, ◌+◌, ◌-◌, ◌*◌, ◌/◌, ◌%◌, ◌^◌, ◌<◌, Bool, true, false, cond, not, eqb, ltb, ◌⊎◌, ℤ, pos, sym, refl, ap, ◌∙◌, inl, inr, ⊎_elim, mul-pos, zero-mul, arith, ltb-false}
use Prim.Native.Nat.{compare}
use lib.Ieee.{Float, Format, nan, inf, fin, binary64, up, down, neg, prec, emax, low, size, nearest, odd, units, round, sum, add, sub, mul, div, unlike, is_nan, of_bits, of_fields}
use lib.Ieee.Scale.{round_same}
use lib.Ieee.Fits.{up_pos, down_pos}
use borrow.Author.Tests.{eqb-false}
use Rattle.float.specs.Number.{◌⊕◌, ◌⊖◌, ◌⊗◌, ◌⊘◌, zero64}
use Rattle.float.proofs.Really.{Signed}
use Rattle.float.proofs.Signs.{square_signed}

pub neg_neg : (x : Float) → neg (neg x) ≡ x
unfolding neg
neg_neg nan = refl
neg_neg (inf true) = refl
neg_neg (inf false) = refl
neg_neg (fin true m e) = refl
neg_neg (fin false m e) = refl

-- ---- rounding

odd_neg : (w : ℕ) (s : Bool) (q k l : ℕ) → odd w (not s) q k l ≡ neg (odd w s q k l)
unfolding odd neg
odd_neg w s zero k l = refl
odd_neg w s (suc q) k l = refl

cond_neg : (b : Bool) (x y u v : Float) → x ≡ neg u → y ≡ neg v → cond b x y ≡ neg (cond b u v)
cond_neg true x y u v h k = h
cond_neg false x y u v h k = k

inf_neg : (s : Bool) → inf (not s) ≡ neg (inf s)
unfolding neg
inf_neg s = refl

pub round_neg : (f : Format) (s : Bool) (n d : ℕ) → round f (not s) n d ≡ neg (round f s n d)
unfolding round units
round_neg f s n d =
    let m = n * 2 ^ low f in
    let k = size (m / d) - prec f in
    let u = d * 2 ^ k in
    let q = nearest (m / u) (compare (m % u * 2) u) in
    cond_neg (ltb (q * 2 ^ k) (2 ^ (low f + suc (emax f)))) _ _ _ _ (odd_neg (suc (prec f)) s q k (low f)) (inf_neg s)

pub round_zero : (d : ℕ) → 0 < d → round binary64 false 0 d ≡ zero64
unfolding round units odd of_bits size
round_zero d h = round_same binary64 false 0 d 0 1 h (omega arith) (zero-mul 1 ∙ sym (zero-mul d))

-- ---- products and quotients

unlike_right : (s t : Bool) → unlike s (not t) ≡ not (unlike s t)
unlike_right true true = refl
unlike_right true false = refl
unlike_right false true = refl
unlike_right false false = refl

unlike_left : (s t : Bool) → unlike (not s) t ≡ not (unlike s t)
unlike_left true true = refl
unlike_left true false = refl
unlike_left false true = refl
unlike_left false false = refl

pub mul_neg : (x y : Float) → x ⊗ neg y ≡ neg (x ⊗ y)
unfolding mul neg
mul_neg nan y = refl
mul_neg (inf s) nan = refl
mul_neg (inf s) (inf t) = ap inf (unlike_right s t)
mul_neg (inf s) (fin t n d) = cond_neg (eqb n 0) nan _ nan (inf (unlike s t)) refl (ap inf (unlike_right s t))
mul_neg (fin s m e) nan = refl
mul_neg (fin s m e) (inf t) = cond_neg (eqb m 0) nan _ nan (inf (unlike s t)) refl (ap inf (unlike_right s t))
mul_neg (fin s m e) (fin t n d) = rw (unlike_right s t) (round_neg binary64 (unlike s t) (m * up e * (n * up d)) (down e * down d))

pub neg_mul : (x y : Float) → neg x ⊗ y ≡ neg (x ⊗ y)
unfolding mul neg
neg_mul nan y = refl
neg_mul (inf s) nan = refl
neg_mul (inf s) (inf t) = ap inf (unlike_left s t)
neg_mul (inf s) (fin t n d) = cond_neg (eqb n 0) nan _ nan (inf (unlike s t)) refl (ap inf (unlike_left s t))
neg_mul (fin s m e) nan = refl
neg_mul (fin s m e) (inf t) = cond_neg (eqb m 0) nan _ nan (inf (unlike s t)) refl (ap inf (unlike_left s t))
neg_mul (fin s m e) (fin t n d) = rw (unlike_left s t) (round_neg binary64 (unlike s t) (m * up e * (n * up d)) (down e * down d))

pub neg_div : (x y : Float) → neg x ⊘ y ≡ neg (x ⊘ y)
unfolding div neg
neg_div nan y = refl
neg_div (inf s) nan = refl
neg_div (inf s) (inf t) = refl
neg_div (inf s) (fin t n d) = ap inf (unlike_left s t)
neg_div (fin s m e) nan = refl
neg_div (fin s m e) (inf t) = ap (λ b. fin b 0 (pos 0)) (unlike_left s t)
neg_div (fin s m e) (fin t n d) =
    cond_neg (eqb n 0) _ _ (cond (eqb m 0) nan (inf (unlike s t))) (round binary64 (unlike s t) (m * up e * down d) (n * up d * down e))
    (cond_neg (eqb m 0) nan _ nan (inf (unlike s t)) refl (ap inf (unlike_left s t)))
    (rw (unlike_left s t) (round_neg binary64 (unlike s t) (m * up e * down d) (n * up d * down e)))

-- ---- sums

pub add_neg : (x y : Float) → x ⊕ neg y ≡ x ⊖ y
unfolding sub
add_neg x y = refl

pub sub_neg : (x y : Float) → x ⊖ neg y ≡ x ⊕ y
unfolding sub
sub_neg x y = ap (λ z. x ⊕ z) (neg_neg y)

-- u is v with its sign changed, or both are +0: a sum that cancels is +0, whichever of its terms is the negative one
abbrev pub SignChanged : Float → Float → Type 0
SignChanged u v = (u ≡ neg v) ⊎ ((u ≡ zero64) × (v ≡ zero64))

cancelled : (a b c : ℕ) → 0 < c → ltb a b ≡ false → ltb b a ≡ false → round binary64 false (a - b) c ≡ zero64
cancelled a b c C h k =
    let l = ltb-false a b h in
    let r = ltb-false b a k in
    let z : a - b ≡ 0 = omega (arith, l, r) in
    rw z (round_zero c C)

module _ (a b c : ℕ) (C : 0 < c) where
  neg_sum : (s t p : Bool) → ltb a b ≡ p → (q : Bool) → ltb b a ≡ q → SignChanged (sum binary64 (not s) a (not t) b c) (sum binary64 s a t b c)
  unfolding sum
  neg_sum true true p h q k = inl (round_neg binary64 true (a + b) c)
  neg_sum false false p h q k = inl (round_neg binary64 false (a + b) c)
  neg_sum true false true h q k = rw h (inl (round_neg binary64 false (b - a) c))
  neg_sum false true true h q k = rw h (inl (round_neg binary64 true (b - a) c))
  neg_sum true false false h true k = rw (h, k) (inl (round_neg binary64 true (a - b) c))
  neg_sum false true false h true k = rw (h, k) (inl (round_neg binary64 false (a - b) c))
  neg_sum true false false h false k = rw (h, k) (inr (cancelled a b c C h k, cancelled a b c C h k))
  neg_sum false true false h false k = rw (h, k) (inr (cancelled a b c C h k, cancelled a b c C h k))

pub neg_add : (x y : Float) → SignChanged (neg x ⊕ neg y) (x ⊕ y)
unfolding add neg
neg_add nan y = inl refl
neg_add (inf s) nan = inl refl
neg_add (inf true) (inf true) = inl refl
neg_add (inf true) (inf false) = inl refl
neg_add (inf false) (inf true) = inl refl
neg_add (inf false) (inf false) = inl refl
neg_add (inf s) (fin t n d) = inl refl
neg_add (fin s m e) nan = inl refl
neg_add (fin s m e) (inf t) = inl refl
neg_add (fin s m e) (fin t n d) = neg_sum (m * up e * down d) (n * up d * down e) (down e * down d) (mul-pos (down_pos e) (down_pos d)) s t _ refl _ refl

-- ---- over a square

div_nan : (x : Float) → x ⊘ nan ≡ nan
unfolding div
div_nan nan = refl
div_nan (inf s) = refl
div_nan (fin s m e) = refl

zero_is : zero64 ≡ fin false 0 (pos 0)
unfolding of_bits of_fields odd
zero_is = refl

zero_over_finite : (n : ℕ) (d : ℤ) → (b : Bool) → eqb n 0 ≡ b → (zero64 ⊘ fin false n d ≡ zero64) ⊎ (zero64 ⊘ fin false n d ≡ nan)
unfolding div
zero_over_finite n d true h = inr (rw (zero_is, h))
zero_over_finite n d false h =
    let N : 0 < n = omega (arith, eqb-false n 0 h) in
    let z : 0 * up (pos 0) * down d ≡ 0 = ap (λ (k : ℕ). k * down d) (zero-mul 1) ∙ zero-mul (down d) in
    inl (rw (zero_is, h, z) (round_zero (n * up d * down (pos 0)) (mul-pos (mul-pos N (up_pos d)) (down_pos (pos 0))) ∙ zero_is))

zero_over : (w : Float) → Signed false w → (zero64 ⊘ w ≡ zero64) ⊎ (zero64 ⊘ w ≡ nan)
unfolding div
zero_over nan h = absurd h
zero_over (inf t) h = inl (rw (zero_is, h))
zero_over (fin t n d) h = rw h (zero_over_finite n d (eqb n 0) refl)

signed_over : (u v w : Float) → Signed false w → SignChanged u v → SignChanged (u ⊘ w) (v ⊘ w)
unfolding neg
signed_over u v w h (inl e) = inl (ap (λ x. x ⊘ w) e ∙ neg_div v w)
signed_over u v w h (inr e) = ⊎_elim (λ z. inr (ap (λ x. x ⊘ w) e.0 ∙ z, ap (λ x. x ⊘ w) e.1 ∙ z)) (λ z. inl (ap (λ x. x ⊘ w) e.0 ∙ z ∙ ap neg (sym (ap (λ x. x ⊘ w) e.1 ∙ z)))) (zero_over w h)

pub square_over : (u v x : Float) → SignChanged u v → SignChanged (u ⊘ (x ⊗ x)) (v ⊘ (x ⊗ x))
unfolding mul is_nan neg
square_over u v nan c = inl (div_nan u ∙ ap neg (sym (div_nan v)))
square_over u v (inf s) c = signed_over u v (inf s ⊗ inf s) (square_signed (inf s) refl) c
square_over u v (fin s m e) c = signed_over u v (fin s m e ⊗ fin s m e) (square_signed (fin s m e) refl) c
