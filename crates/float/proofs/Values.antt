-- Sums, differences and products by their operands' values, in units of 2^-1074: one rounding of the exact result, finite where that is not above 2^600.
use Rattle.std.proofs.Common.{◌≡◌, ℕ, zero, suc, ◌+◌, ◌-◌, ◌*◌, ◌^◌, ◌<◌, ◌≤◌, Bool, true, false, not, T, pos, sym, refl, ap, ◌∙◌, ap₂, true≢false, lt_of_lt_of_le, mul-le-mul_right, mul_assoc, mul_comm, add-mul, mul-pos, zero-mul, mul-one, mul_right_comm, arith, pow_pos, pow_mono, shl_lt, le-ltb, ne_eqb}
use native.Mathlib.Nat.{mul-sub, mul-mul-mul_comm}
use lib.Ieee.{Float, nan, inf, fin, binary64, up, down, neg, le, round, sum, add, sub, mul, unlike}
use lib.Ieee.Exact.{HasValue, round_exact}
use lib.Ieee.Fits.{down_pos}
use lib.Ieee.Order.{transfer, round_mono}
use lib.Ieee.Scale.{round_same}
use Rattle.float.specs.Number.{◌⊕◌, ◌⊖◌, ◌⊗◌, is_finite}
use Rattle.float.proofs.Really.{Signed, round_signed}

-- finite, of the sign s, and n / 2^1074 in size
abbrev pub Units : Float → Bool → ℕ → Type 0
Units x s n = HasValue x s n (2 ^ 1074)

pub value_finite : (x : Float) (s : Bool) (a c : ℕ) → HasValue x s a c → is_finite x ≡ true
unfolding is_finite
value_finite nan s a c h = absurd h
value_finite (inf t) s a c h = absurd h
value_finite (fin t m e) s a c h = refl

pub value_signed : (x : Float) (s : Bool) (a c : ℕ) → HasValue x s a c → Signed s x
value_signed nan s a c h = absurd h
value_signed (inf t) s a c h = absurd h
value_signed (fin t m e) s a c h = h.0

pub value_neg : (x : Float) (s : Bool) (a c : ℕ) → HasValue x s a c → HasValue (neg x) (not s) a c
unfolding neg
value_neg nan s a c h = h
value_neg (inf t) s a c h = h
value_neg (fin t m e) s a c h = (ap not h.0, h.1)

-- ---- the operators, as one rounding

sub_mul : (a b c : ℕ) → (a - b) * c ≡ a * c - b * c
sub_mul a b c = mul_comm (a - b) c ∙ mul-sub c a b ∙ ap₂ (λ (u v : ℕ). u - v) (mul_comm c a) (mul_comm c b)

-- over the common denominator
over : (x a c d e : ℕ) → x * c ≡ a * d → x * e * c ≡ a * (d * e)
over x a c d e h = mul_right_comm x e c ∙ ap (λ (n : ℕ). n * e) h ∙ mul_assoc a d e

over_right : (x a c d e : ℕ) → x * c ≡ a * d → x * e * c ≡ a * (e * d)
over_right x a c d e h = over x a c d e h ∙ ap (λ (n : ℕ). a * n) (mul_comm d e)

pub add_at : (x y : Float) (a b c : ℕ) → 0 < c → HasValue x false a c → HasValue y false b c → x ⊕ y ≡ round binary64 false (a + b) c
unfolding add sum
add_at nan y a b c C h k = absurd h
add_at (inf s) y a b c C h k = absurd h
add_at (fin s m e) nan a b c C h k = absurd k
add_at (fin s m e) (inf t) a b c C h k = absurd k
add_at (fin s m e) (fin t n d) a b c C h k =
    let x = m * up e * down d in
    let y = n * up d * down e in
    let p = down e * down d in
    rw (h.0, k.0) (round_same binary64 false (x + y) p (a + b) c (mul-pos (down_pos e) (down_pos d)) C
    (add-mul x y c ∙ ap₂ (λ (u v : ℕ). u + v) (over (m * up e) a c (down e) (down d) h.1) (over_right (n * up d) b c (down d) (down e) k.1) ∙ sym (add-mul a b p)))

-- the first no smaller than what is taken off
pub less_at_is : (x y : Float) (a b c : ℕ) → 0 < c → HasValue x false a c → HasValue y true b c → b ≤ a → x ⊕ y ≡ round binary64 false (a - b) c
unfolding add sum
less_at_is nan y a b c C h k l = absurd h
less_at_is (inf s) y a b c C h k l = absurd h
less_at_is (fin s m e) nan a b c C h k l = absurd k
less_at_is (fin s m e) (inf t) a b c C h k l = absurd k
less_at_is (fin s m e) (fin t n d) a b c C h k l =
    let x = m * up e * down d in
    let y = n * up d * down e in
    let p = down e * down d in
    let o : y ≤ x = transfer (n * up d) (m * up e) (down d) (down e) b a c c C C k.1 h.1 (mul-le-mul_right c l) in
    rw (h.0, k.0, le-ltb x y o) (round_same binary64 false (x - y) p (a - b) c (mul-pos (down_pos e) (down_pos d)) C
    (sub_mul x y c ∙ ap₂ (λ (u v : ℕ). u - v) (over (m * up e) a c (down e) (down d) h.1) (over_right (n * up d) b c (down d) (down e) k.1) ∙ sym (sub_mul a b p)))

pub sub_at : (x y : Float) (a b c : ℕ) → 0 < c → HasValue x false a c → HasValue y false b c → b ≤ a → x ⊖ y ≡ round binary64 false (a - b) c
unfolding sub
sub_at x y a b c C h k l = less_at_is x (neg y) a b c C h (value_neg y false b c k) l

pub mul_at : (x y : Float) (s t : Bool) (a b c d : ℕ) → 0 < c → 0 < d → HasValue x s a c → HasValue y t b d → x ⊗ y ≡ round binary64 (unlike s t) (a * b) (c * d)
unfolding mul
mul_at nan y s t a b c d C D h k = absurd h
mul_at (inf u) y s t a b c d C D h k = absurd h
mul_at (fin u m e) nan s t a b c d C D h k = absurd k
mul_at (fin u m e) (inf v) s t a b c d C D h k = absurd k
mul_at (fin u m e) (fin v n g) s t a b c d C D h k =
    let x = m * up e in
    let y = n * up g in
    rw (h.0, k.0) (round_same binary64 (unlike s t) (x * y) (down e * down g) (a * b) (c * d) (mul-pos (down_pos e) (down_pos g)) (mul-pos C D)
    (mul-mul-mul_comm x y c d ∙ ap₂ (λ (u v : ℕ). u * v) h.1 k.1 ∙ mul-mul-mul_comm a (down e) b (down g)))

-- ---- no overflow

under : (x : Float) → Signed false x → T (le x (fin false 1 (pos 600))) → is_finite x ≡ true
unfolding le is_finite
under nan h l = absurd h
under (inf true) h l = absurd (true≢false h)
under (inf false) h l = absurd l
under (fin s m e) h l = refl

whole : round binary64 false (2 ^ 600) 1 ≡ fin false 1 (pos 600)
unfolding round lib.Count.count_trailing_zeros
whole = refl

pub round_finite : (a c : ℕ) → 0 < c → a ≤ 2 ^ 600 * c → is_finite (round binary64 false a c) ≡ true
round_finite a c C h =
    under (round binary64 false a c) (round_signed binary64 false a c)
    (rw whole at (round_mono binary64 a c (2 ^ 600) 1 C (pow_pos 0) (rw (mul-one a) h)))

-- ---- no rounding: 53 digits, in place

pub round_units : (s : Bool) (a q k : ℕ) → a ≡ q * 2 ^ k → q < 2 ^ 53 → k ≤ 2045 → Units (round binary64 s a (2 ^ 1074)) s a
round_units s a q k e h l =
    round_exact binary64 s a (2 ^ 1074) q k (pow_pos 1074) h (lt_of_lt_of_le (shl_lt 53 k h) (pow_mono {i = 53 + k} {j = 2098} (omega arith))) (ap (λ (n : ℕ). n * 2 ^ 1074) e)

-- ---- what is needed of a factor: finite, and not negative

pub record Least (x : Float) : Type 0 where
  pub finite : is_finite x ≡ true
  pub signed : Signed false x

least_round : (a : ℕ) → a ≤ 2 ^ 1674 → Least (round binary64 false a (2 ^ 1074))
least_round a h = record { finite = round_finite a (2 ^ 1074) (pow_pos 1074) h; signed = round_signed binary64 false a (2 ^ 1074) }

pub least_of : (x : Float) (a : ℕ) → Units x false a → Least x
least_of x a h = record { finite = value_finite x false a (2 ^ 1074) h; signed = value_signed x false a (2 ^ 1074) h }

pub least_add : (x y : Float) (a b : ℕ) → Units x false a → Units y false b → a + b ≤ 2 ^ 1674 → Least (x ⊕ y)
least_add x y a b h k l = rw (add_at x y a b (2 ^ 1074) (pow_pos 1074) h k) (least_round (a + b) l)

less_le : (a b c : ℕ) → a ≤ c → a - b ≤ c
less_le a b c h = omega arith

pub least_sub : (x y : Float) (a b : ℕ) → Units x false a → Units y false b → b ≤ a → a ≤ 2 ^ 1674 → Least (x ⊖ y)
least_sub x y a b h k o l = rw (sub_at x y a b (2 ^ 1074) (pow_pos 1074) h k o) (least_round (a - b) (less_le a b (2 ^ 1674) l))

-- something finite above 0 times a number that is not negative
pub times_signed : (x y : Float) (a c : ℕ) → HasValue x false a c → 0 < a → Signed false y → Signed false (x ⊗ y)
unfolding mul
times_signed nan y a c h z k = absurd h
times_signed (inf t) y a c h z k = absurd h
times_signed (fin t m e) nan a c h z k = absurd k
times_signed (fin t zero e) (inf u) a c h z k =
    let p = mul-pos z (down_pos e) in
    let o : 0 * up e * c ≡ 0 = ap (λ (n : ℕ). n * c) (zero-mul (up e)) ∙ zero-mul c in
    let q = h.1 in
    absurd (omega arith)
times_signed (fin t (suc m) e) (inf u) a c h z k = rw (ne_eqb (suc m) 0 (λ p. omega arith), h.0, k)
times_signed (fin t m e) (fin u n d) a c h z k = rw (h.0, k) (round_signed binary64 false (m * up e * (n * up d)) (down e * down d))
