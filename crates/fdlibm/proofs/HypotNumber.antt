-- The hypotenuse of two finite numbers is a number that is not negative, never NaN. A maximum ignores NaN, so a NaN here would hide an overloaded feeder.
-- Each branch hands `middle` the numbers that the bits n and m stand for, with their high words; only a subnormal's branch hands it 2^1022 times those numbers.
use mathlib.Core.Path.{◌≡◌, refl, sym, ap, subst, ◌∙◌}
use mathlib.Core.Bool.{Bool, true, false, cond, not}
use Prim.Native.Nat.{ℕ, zero, suc, ◌+◌, ◌-◌, ◌*◌, ◌/◌, ◌%◌, ◌^◌, ◌≤◌, ◌<◌}
use native.Mathlib.Omega.{arith}
use native.Mathlib.Nat.{le_trans, le_of_lt, mul-one, mul_assoc, mul-pos, mul-le-mul_left, mul-le-mul_right, pow-suc, lt_of_lt_of_le}
use lib.Dec.{T, ltb, leb, eqb}
use lib.Pow.{pow_pos, pow_mono, pow-add, shl_lt}
use lib.Ieee.{Float, binary64, to_bits, of_bits, fits, is_nan, lt, round, mul}
use lib.Ieee.Bits.{of_bits-to_bits, to_bits-of_bits}
use lib.Ieee.Exact.{HasValue}
use borrow.Author.Tests.{lt-ltb, le-ltb, lt-leb, ltb-true, ltb-false, leb-true, leb-false}
use Rattle.float.specs.Number.{◌⊖◌, ◌⊗◌, is_finite, absolute}
use Rattle.float.proofs.Really.{Signed, signed_number, finite_number}
use Rattle.float.proofs.Signs.{add_signed}
use Rattle.float.proofs.Values.{Units, value_finite, value_signed, add_at, mul_at, round_units, times_signed}
use Rattle.float.proofs.Patterns.{digits, place, worth, normal_value, pattern_value, digits_lt, digits_pos, cut_le, field_twice, field_first, absolute_bits, absolute_fits, finite_bits_is}
use Rattle.fdlibm.specs.Hypot.{set_high_word, from_high_word, wide, close, scaled, middle, small, ordered, hypotenuse}
use Rattle.fdlibm.proofs.RootNumber.{cond_signed}
use Rattle.fdlibm.proofs.HypotRoots.{Cut, Twice, wide_signed, close_signed, close_zero}

-- ---- the factor 2^k put back

scaled_signed : (k : ℕ) (w : Float) → 0 < k → k < 2047 → Signed false w → Signed false (scaled k w)
unfolding scaled
scaled_signed k w z h n =
    let e : 2 ^ 52 + (k - 1) * 2 ^ 52 ≡ k * 2 ^ 52 = omega arith in
    let v : Units (of_bits binary64 (k * 2 ^ 52)) false (2 ^ 52 * 2 ^ (k - 1)) = subst (λ (p : ℕ). Units (of_bits binary64 p) false (2 ^ 52 * 2 ^ (k - 1))) e (normal_value (2 ^ 52) (k - 1) (omega arith) (omega arith) (omega arith)) in
    cond_signed false (eqb k 1023) w (of_bits binary64 (k * 2 ^ 52) ⊗ w) n (times_signed (of_bits binary64 (k * 2 ^ 52)) w (2 ^ 52 * 2 ^ (k - 1)) (2 ^ 1074) v (mul-pos (pow_pos 52) (pow_pos (k - 1))) n)

middle_signed : (k : ℕ) (a b : Float) (ha hb : ℕ) → 0 < k → k < 2047 → Signed false (wide a b ha) → Signed false (close a b ha hb) → Signed false (middle k a b ha hb)
unfolding middle
middle_signed k a b ha hb z h p q = scaled_signed k _ z h (cond_signed false (lt b (a ⊖ b)) (wide a b ha) (close a b ha hb) p q)

-- ---- x is 2^j times the number of bits n, beside n's high word

pub grown : (a j : ℕ) → a ≤ a * 2 ^ j
grown a j = subst (λ (x : ℕ). x ≤ a * 2 ^ j) (mul-one a) (mul-le-mul_left a (pow_pos j))

pub joined : (n j : ℕ) → worth n * 2 ^ j ≡ digits n * 2 ^ (place n + j)
joined n j = mul_assoc (digits n) (2 ^ place n) (2 ^ j) ∙ ap (λ (x : ℕ). digits n * x) (sym (pow-add 2 (place n) j))

below_most : (n j : ℕ) → place n + j ≤ 1547 → worth n * 2 ^ j ≤ 2 ^ 1600
below_most n j h =
    rw (joined n j) (le_of_lt (lt_of_lt_of_le (shl_lt 53 (place n + j) (digits_lt n)) (pow_mono {i = 53 + (place n + j)} {j = 1600} (omega arith))))

cut_at : (x : Float) (n j : ℕ) → n < 2047 * 2 ^ 52 → place n + j ≤ 1547 → Units x false (worth n * 2 ^ j) → Cut x (n / 2 ^ 32)
cut_at x n j h l v =
    record {
      size = worth n * 2 ^ j;
      part = worth (n / 2 ^ 32 * 2 ^ 32);
      of_x = v;
      of_part = pattern_value (n / 2 ^ 32 * 2 ^ 32) (omega arith);
      low = le_trans (cut_le n) (grown (worth n) j);
      most = below_most n j l;
    }

pub twofold : (q k : ℕ) → q * 2 ^ k + q * 2 ^ k ≡ q * 2 ^ suc k
twofold q k = let e = ap (λ (x : ℕ). q * x) (pow-suc 2 k) ∙ sym (mul_assoc q (2 ^ k) 2) in omega arith

some : (w p : ℕ) → 0 < w → p ≤ w * p + w * p
some w p z = let c : 1 * p ≤ w * p = mul-le-mul_right p z in omega arith

both : (a b : ℕ) → a ≤ b → a + a ≤ b + b
both a b h = omega arith

-- n is normal, or j is large
pub high_part : (n j : ℕ) → 0 < n → (n / 2 ^ 32 < 2 ^ 20 → 53 ≤ j) → worth ((n / 2 ^ 32 + 2 ^ 20) * 2 ^ 32) ≤ worth n * 2 ^ j + worth n * 2 ^ j
high_part n j z s = go (ltb h (2 ^ 20)) refl
  where
    h : ℕ
    h = n / 2 ^ 32

    go : (b : Bool) → ltb h (2 ^ 20) ≡ b → worth ((h + 2 ^ 20) * 2 ^ 32) ≤ worth n * 2 ^ j + worth n * 2 ^ j
    go true q =
        let l = ltb-true h (2 ^ 20) q in
        le_trans (field_first h l) (le_trans (pow_mono {i = 53} {j = j} (s l)) (some (worth n) (2 ^ j) (mul-pos (digits_pos n z) (pow_pos (place n)))))
    go false q = rw (field_twice h (ltb-false h (2 ^ 20) q)) (both (worth (h * 2 ^ 32)) (worth n * 2 ^ j) (le_trans (cut_le n) (grown (worth n) j)))

twice_at : (x : Float) (n j : ℕ) → 0 < n → n < 1800 * 2 ^ 52 → place n + j ≤ 1547 → (n / 2 ^ 32 < 2 ^ 20 → 53 ≤ j) → Units x false (worth n * 2 ^ j) → Twice x (n / 2 ^ 32)
twice_at x n j z h l s v =
    let a = worth n * 2 ^ j in
    record {
      size = a;
      part = worth ((n / 2 ^ 32 + 2 ^ 20) * 2 ^ 32);
      of_both = rw (add_at x x a a (2 ^ 1074) (pow_pos 1074) v v) (round_units false (a + a) (digits n) (suc (place n + j)) (rw (joined n j) (twofold (digits n) (place n + j))) (digits_lt n) (omega arith));
      of_part = pattern_value ((n / 2 ^ 32 + 2 ^ 20) * 2 ^ 32) (omega arith);
      low = high_part n j z s;
      most = below_most n j l;
    }

-- ---- the medium size, the high words the numbers' own

pub unscaled : (n : ℕ) → n < 2047 * 2 ^ 52 → Units (of_bits binary64 n) false (worth n * 2 ^ 0)
unscaled n h = rw (mul-one (worth n)) (pattern_value n h)

bits_signed : (k n m : ℕ) → 0 < k → k < 2047 → 2 ^ 52 ≤ n → n < 1524 * 2 ^ 52 → m < 1524 * 2 ^ 52 → Signed false (middle k (of_bits binary64 n) (of_bits binary64 m) (n / 2 ^ 32) (m / 2 ^ 32))
bits_signed k n m z h o l r =
    let a = of_bits binary64 n in
    let b = of_bits binary64 m in
    let u = unscaled n (omega arith) in
    let v = unscaled m (omega arith) in
    middle_signed k a b (n / 2 ^ 32) (m / 2 ^ 32) z h
    (wide_signed a b (n / 2 ^ 32) (cut_at a n 0 (omega arith) (omega arith) u) (value_finite b false (worth m * 2 ^ 0) (2 ^ 1074) v))
    (close_signed a b (n / 2 ^ 32) (m / 2 ^ 32) (value_finite a false (worth n * 2 ^ 0) (2 ^ 1074) u) (twice_at a n 0 (omega arith) (omega arith) (omega arith) (λ q. absurd (omega arith)) u) (cut_at b m 0 (omega arith) (omega arith) v))

-- ---- the medium size, both multiplied by 2^1022 and the high words left as they were

abbrev pub big : Float
big = from_high_word 0x7fd00000

big_value : HasValue big false (2 ^ 1022) 1
unfolding of_bits
big_value = (refl, refl)

pub raised : (n : ℕ) → n < 61 * 2 ^ 52 → Units (of_bits binary64 n ⊗ big) false (worth n * 2 ^ 1022)
raised n h =
    rw (mul_at (of_bits binary64 n) big false false (worth n) (2 ^ 1022) (2 ^ 1074) 1 (pow_pos 1074) (pow_pos 0) (pattern_value n (omega arith)) big_value)
    (round_units false (worth n * 2 ^ 1022) (digits n) (place n + 1022) (joined n 1022) (digits_lt n) (omega arith))

pub zero_raised : of_bits binary64 0 ⊗ big ≡ from_high_word 0
unfolding of_bits mul round
zero_raised = refl

pub subnormal_worth : (m : ℕ) → m < 2 ^ 52 → worth m ≡ m
subnormal_worth m h =
    let e : m / 2 ^ 52 ≡ 0 = omega arith in
    rw e (mul-one m)

stale_signed : (k n m : ℕ) → 0 < k → k < 2047 → n < 61 * 2 ^ 52 → m < 2 ^ 52 → m / 2 ^ 32 ≤ n / 2 ^ 32
    → Signed false (middle k (of_bits binary64 n ⊗ big) (of_bits binary64 m ⊗ big) (n / 2 ^ 32) (m / 2 ^ 32))
stale_signed k zero m z h l r o =
    let b = of_bits binary64 m ⊗ big in
    let e : m / 2 ^ 32 ≡ 0 = omega arith in
    let u : Units (from_high_word 0) false (worth 0 * 2 ^ 1022) = rw zero_raised at (raised 0 (omega arith)) in
    let v = raised m (omega arith) in
    let w : Units b false (m * 2 ^ 1022) = rw (subnormal_worth m r) at v in
    rw (zero_raised, e) (middle_signed k (from_high_word 0) b 0 0 z h
    (wide_signed (from_high_word 0) b 0 (cut_at (from_high_word 0) 0 1022 (omega arith) (omega arith) u) (value_finite b false (worth m * 2 ^ 1022) (2 ^ 1074) v))
    (close_zero b m (omega arith) w))
stale_signed k (suc i) m z h l r o =
    let n = suc i in
    let a = of_bits binary64 n ⊗ big in
    let b = of_bits binary64 m ⊗ big in
    let u = raised n l in
    let v = raised m (omega arith) in
    middle_signed k a b (n / 2 ^ 32) (m / 2 ^ 32) z h
    (wide_signed a b (n / 2 ^ 32) (cut_at a n 1022 (omega arith) (omega arith) u) (value_finite b false (worth m * 2 ^ 1022) (2 ^ 1074) v))
    (close_signed a b (n / 2 ^ 32) (m / 2 ^ 32) (value_finite a false (worth n * 2 ^ 1022) (2 ^ 1074) u) (twice_at a n 1022 (omega arith) (omega arith) (omega arith) (λ q. omega arith) u) (cut_at b m 1022 (omega arith) (omega arith) v))

-- ---- the branches

pub pattern_finite : (n : ℕ) → n < 2047 * 2 ^ 52 → is_finite (of_bits binary64 n) ≡ true
pattern_finite n h = value_finite (of_bits binary64 n) false (worth n) (2 ^ 1074) (pattern_value n h)

pattern_signed : (n : ℕ) → n < 2047 * 2 ^ 52 → Signed false (of_bits binary64 n)
pattern_signed n h = value_signed (of_bits binary64 n) false (worth n) (2 ^ 1074) (pattern_value n h)

pub came_back : (n : ℕ) → n < 2047 * 2 ^ 52 → to_bits binary64 (of_bits binary64 n) ≡ n
came_back n h = to_bits-of_bits binary64 n (omega arith) (subst (λ (b : Bool). T (not b)) (sym (finite_number (of_bits binary64 n) (pattern_finite n h))) tt)

-- other high words p and q, the low words kept
moved_signed : (k n m p q : ℕ) → 0 < k → k < 2047 → n < 2047 * 2 ^ 52 → m < 2047 * 2 ^ 52 → 2 ^ 20 ≤ p → p < 1524 * 2 ^ 20 → q < 1524 * 2 ^ 20
    → Signed false (middle k (set_high_word (of_bits binary64 n) p) (set_high_word (of_bits binary64 m) q) p q)
moved_signed k n m p q z h l r o s t =
    let x = p * 2 ^ 32 + n % 2 ^ 32 in
    let y = q * 2 ^ 32 + m % 2 ^ 32 in
    let e : x / 2 ^ 32 ≡ p = omega arith in
    let f : y / 2 ^ 32 ≡ q = omega arith in
    rw (came_back n l, came_back m r) (rw (e, f) at (bits_signed k x y z h (omega arith) (omega arith) (omega arith)))

small_signed : (k n m : ℕ) → 1022 < k → k < 2047 → m / 2 ^ 32 ≤ n / 2 ^ 32 → n / 2 ^ 32 - m / 2 ^ 32 ≤ 0x3c00000 → n / 2 ^ 32 ≤ 0x5f300000
    → Signed false (small k (of_bits binary64 n) (of_bits binary64 m) (n / 2 ^ 32) (m / 2 ^ 32))
unfolding small
small_signed k n m z h l r o = go (ltb (m / 2 ^ 32) 0x20b00000) refl
  where
    Goal : Type 0
    Goal = Signed false (small k (of_bits binary64 n) (of_bits binary64 m) (n / 2 ^ 32) (m / 2 ^ 32))

    low : m / 2 ^ 32 < 0x20b00000 → (t : Bool) → leb (m / 2 ^ 32) 0x000fffff ≡ t → Goal
    low c true q =
        let d = leb-true (m / 2 ^ 32) 0x000fffff q in
        rw (lt-ltb (m / 2 ^ 32) 0x20b00000 c, q)
        (cond_signed false (eqb (to_bits binary64 (of_bits binary64 m)) 0) (of_bits binary64 n) _ (pattern_signed n (omega arith))
        (stale_signed (k - 1022) n m (omega arith) (omega arith) (omega arith) (omega arith) l))
    low c false q =
        let d = leb-false (m / 2 ^ 32) 0x000fffff q in
        rw (lt-ltb (m / 2 ^ 32) 0x20b00000 c, q)
        (moved_signed (k - 600) n m (n / 2 ^ 32 + 0x25800000) (m / 2 ^ 32 + 0x25800000) (omega arith) (omega arith) (omega arith) (omega arith) (omega arith) (omega arith) (omega arith))

    go : (t : Bool) → ltb (m / 2 ^ 32) 0x20b00000 ≡ t → Goal
    go true q = low (ltb-true (m / 2 ^ 32) 0x20b00000 q) (leb (m / 2 ^ 32) 0x000fffff) refl
    go false q =
        let c = ltb-false (m / 2 ^ 32) 0x20b00000 q in
        rw q (bits_signed k n m (omega arith) h (omega arith) (omega arith) (omega arith))

-- above 2^500
large_signed : (n m : ℕ) → n < 2047 * 2 ^ 52 → m / 2 ^ 32 ≤ n / 2 ^ 32 → n / 2 ^ 32 - m / 2 ^ 32 ≤ 0x3c00000 → 0x5f300000 < n / 2 ^ 32
    → Signed false (small 1623 (set_high_word (of_bits binary64 n) (n / 2 ^ 32 - 0x25800000)) (set_high_word (of_bits binary64 m) (m / 2 ^ 32 - 0x25800000)) (n / 2 ^ 32 - 0x25800000) (m / 2 ^ 32 - 0x25800000))
large_signed n m h l r o =
    let p = n / 2 ^ 32 - 0x25800000 in
    let q = m / 2 ^ 32 - 0x25800000 in
    let x = p * 2 ^ 32 + n % 2 ^ 32 in
    let y = q * 2 ^ 32 + m % 2 ^ 32 in
    let e : x / 2 ^ 32 ≡ p = omega arith in
    let f : y / 2 ^ 32 ≡ q = omega arith in
    rw (came_back n h, came_back m (omega arith)) (rw (e, f) at (small_signed 1623 x y (omega arith) (omega arith) (omega arith) (omega arith) (omega arith)))

ordered_signed : (n m : ℕ) → n < 2047 * 2 ^ 52 → m < 2047 * 2 ^ 52 → m / 2 ^ 32 ≤ n / 2 ^ 32 → Signed false (ordered (of_bits binary64 n) (of_bits binary64 m) (n / 2 ^ 32) (m / 2 ^ 32))
unfolding ordered
ordered_signed n m h g l = go (ltb 0x3c00000 (n / 2 ^ 32 - m / 2 ^ 32)) refl
  where
    Goal : Type 0
    Goal = Signed false (ordered (of_bits binary64 n) (of_bits binary64 m) (n / 2 ^ 32) (m / 2 ^ 32))

    near : n / 2 ^ 32 - m / 2 ^ 32 ≤ 0x3c00000 → (t : Bool) → ltb 0x5f300000 (n / 2 ^ 32) ≡ t → Goal
    near c true q =
        let d = ltb-true 0x5f300000 (n / 2 ^ 32) q in
        rw (le-ltb 0x3c00000 (n / 2 ^ 32 - m / 2 ^ 32) c, q, lt-leb 0x7ff00000 (n / 2 ^ 32) (omega arith)) (large_signed n m h l c d)
    near c false q =
        let d = ltb-false 0x5f300000 (n / 2 ^ 32) q in
        rw (le-ltb 0x3c00000 (n / 2 ^ 32 - m / 2 ^ 32) c, q) (small_signed 1023 n m (omega arith) (omega arith) l c d)

    go : (t : Bool) → ltb 0x3c00000 (n / 2 ^ 32 - m / 2 ^ 32) ≡ t → Goal
    go true q = rw q (add_signed false (of_bits binary64 n) (of_bits binary64 m) (pattern_signed n h) (pattern_signed m g))
    go false q = near (ltb-false 0x3c00000 (n / 2 ^ 32 - m / 2 ^ 32) q) (ltb 0x5f300000 (n / 2 ^ 32)) refl

-- ---- the law

pub of_bits_is : (x : Float) → T (fits binary64 x) → is_finite x ≡ true → absolute x ≡ of_bits binary64 (to_bits binary64 x % 2 ^ 63)
of_bits_is x f h = sym (of_bits-to_bits binary64 (absolute x) (absolute_fits x f)) ∙ ap (λ (n : ℕ). of_bits binary64 n) (absolute_bits x f h)

pub word : (n : ℕ) → n / 2 ^ 32 % 2 ^ 31 ≡ n % 2 ^ 63 / 2 ^ 32
word n = omega arith

pub hypotenuse_signed : (x y : Float) → T (fits binary64 x) → T (fits binary64 y) → is_finite x ≡ true → is_finite y ≡ true → Signed false (hypotenuse x y)
unfolding hypotenuse
hypotenuse_signed x y f g h k = rw (of_bits_is x f h, of_bits_is y g k, word (to_bits binary64 x), word (to_bits binary64 y)) (go (ltb (n / 2 ^ 32) (m / 2 ^ 32)) refl)
  where
    n : ℕ
    n = to_bits binary64 x % 2 ^ 63

    m : ℕ
    m = to_bits binary64 y % 2 ^ 63

    a : Float
    a = of_bits binary64 n

    b : Float
    b = of_bits binary64 m

    go : (t : Bool) → ltb (n / 2 ^ 32) (m / 2 ^ 32) ≡ t → Signed false (cond t (ordered b a (m / 2 ^ 32) (n / 2 ^ 32)) (ordered a b (n / 2 ^ 32) (m / 2 ^ 32)))
    go true q = let l = ltb-true (n / 2 ^ 32) (m / 2 ^ 32) q in ordered_signed m n (finite_bits_is y g k) (finite_bits_is x f h) (omega arith)
    go false q = ordered_signed n m (finite_bits_is x f h) (finite_bits_is y g k) (ltb-false (n / 2 ^ 32) (m / 2 ^ 32) q)

pub hypotenuse_number : (x y : Float) → T (fits binary64 x) → T (fits binary64 y) → is_finite x ≡ true → is_finite y ≡ true → is_nan (hypotenuse x y) ≡ false
hypotenuse_number x y f g h k = signed_number false (hypotenuse x y) (hypotenuse_signed x y f g h k)
