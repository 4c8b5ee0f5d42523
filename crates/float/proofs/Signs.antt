-- Numbers of one sign: sums and products of them are never NaN.
use Rattle.std.proofs.Common.{◌≡◌, ℕ, ◌+◌, ◌*◌, Bool, true, false, not, refl, ap, true≢false}
use mathlib.Core.Bool.{beq, false≢true}
use lib.Ieee.{Float, nan, inf, fin, binary64, up, down, neg, lt, of_bits, is_nan, sum, add, sub, mul, unlike}
use Rattle.float.specs.Number.{◌⊕◌, ◌⊖◌, ◌⊗◌, zero64, is_finite}
use Rattle.float.proofs.Really.{Number, Signed, round_signed}

-- ---- sums

beq_same : (s : Bool) → beq s s ≡ true
beq_same true = refl
beq_same false = refl

sum_signed : (s : Bool) (a b c : ℕ) → Signed s (sum binary64 s a s b c)
unfolding sum
sum_signed s a b c = rw (beq_same s) (round_signed binary64 s (a + b) c)

-- of one sign
pub add_signed : (s : Bool) (x y : Float) → Signed s x → Signed s y → Signed s (x ⊕ y)
unfolding add
add_signed s nan y h k = absurd h
add_signed s (inf t) nan h k = absurd k
add_signed s (inf t) (inf u) h k = rw (h, k, beq_same s)
add_signed s (inf t) (fin u n d) h k = h
add_signed s (fin t m e) nan h k = absurd k
add_signed s (fin t m e) (inf u) h k = k
add_signed s (fin t m e) (fin u n d) h k = rw (h, k) (sum_signed s (m * up e * down d) (n * up d * down e) (down e * down d))

pub neg_signed : (s : Bool) (x : Float) → Signed s x → Signed (not s) (neg x)
unfolding neg
neg_signed s nan h = absurd h
neg_signed s (inf t) h = ap not h
neg_signed s (fin t m e) h = ap not h

-- of opposite signs
pub sub_signed : (s : Bool) (x y : Float) → Signed s x → Signed (not s) y → Signed s (x ⊖ y)
unfolding sub
sub_signed true x y h k = add_signed true x (neg y) h (neg_signed false y k)
sub_signed false x y h k = add_signed false x (neg y) h (neg_signed true y k)

-- ---- products

pub mul_signed : (s t : Bool) (x y : Float) → is_finite x ≡ true → is_finite y ≡ true → Signed s x → Signed t y → Signed (unlike s t) (x ⊗ y)
unfolding mul is_finite
mul_signed s t nan y f g h k = absurd h
mul_signed s t (inf u) y f g h k = absurd (false≢true f)
mul_signed s t (fin u m e) nan f g h k = absurd k
mul_signed s t (fin u m e) (inf v) f g h k = absurd (false≢true g)
mul_signed s t (fin u m e) (fin v n d) f g h k = rw (h, k) (round_signed binary64 (unlike s t) (m * up e * (n * up d)) (down e * down d))

-- a square, and its opposite
pub square_signed : (x : Float) → Number x → Signed false (x ⊗ x)
unfolding mul is_nan
square_signed nan h = absurd (true≢false h)
square_signed (inf s) h = rw (beq_same s)
square_signed (fin s m e) h = rw (beq_same s) (round_signed binary64 false (m * up e * (m * up e)) (down e * down e))

beq_not : (s : Bool) → beq s (not s) ≡ false
beq_not true = refl
beq_not false = refl

pub opposite_signed : (x : Float) → Number x → Signed true (x ⊗ neg x)
unfolding mul neg is_nan
opposite_signed nan h = absurd (true≢false h)
opposite_signed (inf s) h = rw (beq_not s)
opposite_signed (fin s m e) h = rw (beq_not s) (round_signed binary64 true (m * up e * (m * up e)) (down e * down e))

-- a number above 0
pub above_signed : (x : Float) → lt zero64 x ≡ true → Signed false x
unfolding lt of_bits
above_signed nan h = absurd (false≢true h)
above_signed (inf true) h = absurd (false≢true h)
above_signed (inf false) h = refl
above_signed (fin true m e) h = absurd (false≢true h)
above_signed (fin false m e) h = refl
