-- Which operations make no NaN.
use Rattle.std.proofs.Common.{◌≡◌, ℕ, zero, suc, ◌+◌, ◌-◌, ◌*◌, ◌/◌, ◌%◌, ◌^◌, Bool, true, false, cond, not, ◌&&◌, ltb, refl}
use mathlib.Core.Bool.{beq, false≢true}
use Prim.Native.Nat.{compare}
use lib.Ieee.{Float, Format, nan, inf, fin, binary64, up, down, neg, is_nan, prec, emax, low, size, nearest, odd, units, round, sum, add, sub, mul, unlike}
use Rattle.float.specs.Number.{◌⊕◌, ◌⊖◌, ◌⊗◌, is_finite, absolute}

abbrev pub Number : Float → Type 0
Number x = is_nan x ≡ false

-- no NaN, and the sign is s: a zero's and an infinity's counts
abbrev pub Signed : Bool → Float → Type 0
Signed s nan = ⊥
Signed s (inf t) = t ≡ s
Signed s (fin t m e) = t ≡ s

pub signed_number : (s : Bool) (x : Float) → Signed s x → Number x
unfolding is_nan
signed_number s nan h = absurd h
signed_number s (inf t) h = refl
signed_number s (fin t m e) h = refl

pub inf_number : (s : Bool) → Number (inf s)
inf_number s = signed_number s (inf s) refl

-- ---- rounding keeps the sign

odd_signed : (w : ℕ) (s : Bool) (q k l : ℕ) → Signed s (odd w s q k l)
unfolding odd
odd_signed w s zero k l = refl
odd_signed w s (suc q) k l = refl

cond_signed : (s b : Bool) (x y : Float) → Signed s x → Signed s y → Signed s (cond b x y)
cond_signed s true x y h k = h
cond_signed s false x y h k = k

pub round_signed : (f : Format) (s : Bool) (n d : ℕ) → Signed s (round f s n d)
unfolding round units
round_signed f s n d =
    let m = n * 2 ^ low f in
    let k = size (m / d) - prec f in
    let u = d * 2 ^ k in
    let q = nearest (m / u) (compare (m % u * 2) u) in
    cond_signed s (ltb (q * 2 ^ k) (2 ^ (low f + suc (emax f)))) (odd (suc (prec f)) s q k (low f)) (inf s) (odd_signed (suc (prec f)) s q k (low f)) refl

pub round_number : (f : Format) (s : Bool) (n d : ℕ) → Number (round f s n d)
round_number f s n d = signed_number s (round f s n d) (round_signed f s n d)

pub cond_number : (b : Bool) (x y : Float) → Number x → Number y → Number (cond b x y)
cond_number true x y h k = h
cond_number false x y h k = k

pub sum_number : (f : Format) (s : Bool) (a : ℕ) (t : Bool) (b c : ℕ) → Number (sum f s a t b c)
unfolding sum
sum_number f s a t b c =
    cond_number (beq s t) (round f s (a + b) c) (cond (ltb a b) (round f t (b - a) c) (round f (s && ltb b a) (a - b) c)) (round_number f s (a + b) c)
    (cond_number (ltb a b) (round f t (b - a) c) (round f (s && ltb b a) (a - b) c) (round_number f t (b - a) c) (round_number f (s && ltb b a) (a - b) c))

-- ---- finite numbers

pub finite_number : (a : Float) → is_finite a ≡ true → Number a
unfolding is_finite is_nan
finite_number nan h = absurd (false≢true h)
finite_number (inf s) h = refl
finite_number (fin s m e) h = refl

pub absolute_number : (a : Float) → Number a → Number (absolute a)
unfolding absolute is_nan
absolute_number nan h = h
absolute_number (inf s) h = refl
absolute_number (fin s m e) h = refl

pub absolute_finite : (a : Float) → is_finite a ≡ true → is_finite (absolute a) ≡ true
unfolding absolute is_finite
absolute_finite nan h = h
absolute_finite (inf s) h = h
absolute_finite (fin s m e) h = refl

-- ---- the operators

pub plus_finite : (a b : Float) → Number a → is_finite b ≡ true → Number (a ⊕ b)
unfolding add is_finite is_nan
plus_finite nan b h k = h
plus_finite (inf s) nan h k = absurd (false≢true k)
plus_finite (inf s) (inf t) h k = absurd (false≢true k)
plus_finite (inf s) (fin t n d) h k = refl
plus_finite (fin s m e) nan h k = absurd (false≢true k)
plus_finite (fin s m e) (inf t) h k = absurd (false≢true k)
plus_finite (fin s m e) (fin t n d) h k = sum_number binary64 s (m * up e * down d) t (n * up d * down e) (down e * down d)

neg_finite : (a : Float) → is_finite a ≡ true → is_finite (neg a) ≡ true
unfolding neg is_finite
neg_finite nan h = h
neg_finite (inf s) h = h
neg_finite (fin s m e) h = refl

-- a number less something finite, and something finite less a number
pub less_finite : (a b : Float) → Number a → is_finite b ≡ true → Number (a ⊖ b)
unfolding sub
less_finite a b h k = plus_finite a (neg b) h (neg_finite b k)

pub finite_less : (a b : Float) → is_finite a ≡ true → Number b → Number (a ⊖ b)
unfolding sub add neg is_finite is_nan
finite_less nan b h k = absurd (false≢true h)
finite_less (inf s) b h k = absurd (false≢true h)
finite_less (fin s m e) nan h k = k
finite_less (fin s m e) (inf t) h k = refl
finite_less (fin s m e) (fin t n d) h k = sum_number binary64 s (m * up e * down d) (not t) (n * up d * down e) (down e * down d)

pub times_finite : (a b : Float) → is_finite a ≡ true → is_finite b ≡ true → Number (a ⊗ b)
unfolding mul is_finite is_nan
times_finite nan b h k = absurd (false≢true h)
times_finite (inf s) b h k = absurd (false≢true h)
times_finite (fin s m e) nan h k = absurd (false≢true k)
times_finite (fin s m e) (inf t) h k = absurd (false≢true k)
times_finite (fin s m e) (fin t n d) h k = round_number binary64 (unlike s t) (m * up e * (n * up d)) (down e * down d)
