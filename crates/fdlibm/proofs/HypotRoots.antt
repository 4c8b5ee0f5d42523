-- The two roots of the hypotenuse's medium size are numbers that are not negative: what stands under each is a number and not negative, since every sum in it is of one sign, and no factor is an infinity.
use mathlib.Core.Path.{◌≡◌, refl, sym, ap, ◌∙◌}
use mathlib.Core.Bool.{Bool, true, false}
use Prim.Native.Nat.{ℕ, ◌+◌, ◌-◌, ◌*◌, ◌^◌, ◌≤◌, ◌<◌}
use native.Mathlib.Omega.{arith}
use native.Mathlib.Nat.{le_trans, mul-one, mul_assoc, mul_left_comm, mul-pos}
use lib.Dec.{lit≤}
use lib.Pow.{pow_pos}
use lib.Ieee.{Float, binary64, of_bits, neg, round, add, sub, unlike}
use lib.Ieee.Fits.{sub-fits}
use lib.Ieee.Scale.{round_same}
use Rattle.float.specs.Number.{◌⊕◌, ◌⊖◌, ◌⊗◌, is_finite}
use Rattle.float.proofs.Really.{Signed, round_signed, finite_number, less_finite}
use Rattle.float.proofs.Signs.{add_signed, sub_signed, mul_signed, square_signed, opposite_signed}
use Rattle.float.proofs.Values.{Units, Least, least_of, least_add, least_sub, sub_at, less_at_is, mul_at, round_units, value_neg}
use Rattle.fdlibm.specs.Sqrt.{square_root}
use Rattle.fdlibm.specs.Hypot.{from_high_word, wide, close}
use Rattle.fdlibm.proofs.RootNumber.{root_signed}

-- x is not negative, far from overflow, and no smaller than what h is the high word of
pub record Cut (x : Float) (h : ℕ) : Type 0 where
  pub size : ℕ
  pub part : ℕ
  pub of_x : Units x false size
  pub of_part : Units (from_high_word h) false part
  pub low : part ≤ size
  pub most : size ≤ 2 ^ 1600

-- and a + a is exact, and no smaller than what h with one more in the exponent's field is the high word of
pub record Twice (x : Float) (h : ℕ) : Type 0 where
  pub size : ℕ
  pub part : ℕ
  pub of_both : Units (x ⊕ x) false (size + size)
  pub of_part : Units (from_high_word (h + 0x00100000)) false part
  pub low : part ≤ size + size
  pub most : size ≤ 2 ^ 1600

sum_room : (a b m : ℕ) → b ≤ a → a ≤ m → a + b ≤ m + m
sum_room a b m h l = omega arith

room : (a b : ℕ) → b ≤ a → a ≤ 2 ^ 1600 → a + b ≤ 2 ^ 1674
room a b h l = le_trans (sum_room a b (2 ^ 1600) h l) (lit≤ tt)

alone : (a : ℕ) → a ≤ 2 ^ 1600 → a ≤ 2 ^ 1674
alone a h = le_trans h (lit≤ tt)

same : (a : ℕ) → a ≤ a
same a = omega arith

product : (x y : Float) → Least x → Least y → Signed false (x ⊗ y)
product x y h k = mul_signed false false x y h.finite k.finite h.signed k.signed

-- a square less (what is not positive less what is not negative)
root_of_is : (x y z : Float) → Signed false x → Signed true y → Signed false z → Signed false (square_root (x ⊖ (y ⊖ z)))
root_of_is x y z h k l = root_signed (x ⊖ (y ⊖ z)) (sub_signed false x (y ⊖ z) h (sub_signed true y z k l)) (sub-fits binary64 x (y ⊖ z))

pub wide_signed : (a b : Float) (ha : ℕ) → Cut a ha → is_finite b ≡ true → Signed false (wide a b ha)
wide_signed a b ha c f =
    let t1 = from_high_word ha in
    let t2 = a ⊖ t1 in
    let first = finite_number t1 (least_of t1 c.part c.of_part).finite in
    let rest = least_sub a t1 c.size c.part c.of_x c.of_part c.low (alone c.size c.most) in
    let sum = least_add a t1 c.size c.part c.of_x c.of_part (room c.size c.part c.low c.most) in
    root_of_is (t1 ⊗ t1) (b ⊗ neg b) (t2 ⊗ (a ⊕ t1)) (square_signed t1 first) (opposite_signed b (finite_number b f)) (product t2 (a ⊕ t1) rest sum)

-- where the last sum is not negative
close_root : (a b : Float) (ha hb t y : ℕ) → is_finite a ≡ true → is_finite b ≡ true → Units (from_high_word (ha + 0x00100000)) false t → Units (from_high_word hb) false y
    → Signed false (from_high_word (ha + 0x00100000) ⊗ (b ⊖ from_high_word hb) ⊕ (a ⊕ a ⊖ from_high_word (ha + 0x00100000)) ⊗ b) → Signed false (close a b ha hb)
close_root a b ha hb t y f g h k s =
    let t1 = from_high_word (ha + 0x00100000) in
    let y1 = from_high_word hb in
    let w = a ⊖ b in
    root_of_is (t1 ⊗ y1) (w ⊗ neg w) (t1 ⊗ (b ⊖ y1) ⊕ (a ⊕ a ⊖ t1) ⊗ b) (product t1 y1 (least_of t1 t h) (least_of y1 y k)) (opposite_signed w (less_finite a b (finite_number a f) g)) s

pub close_signed : (a b : Float) (ha hb : ℕ) → is_finite a ≡ true → Twice a ha → Cut b hb → Signed false (close a b ha hb)
close_signed a b ha hb f d c =
    let t1 = from_high_word (ha + 0x00100000) in
    let y1 = from_high_word hb in
    let lb = least_of b c.size c.of_x in
    let lt = least_of t1 d.part d.of_part in
    let y2 = least_sub b y1 c.size c.part c.of_x c.of_part c.low (alone c.size c.most) in
    let t2 = least_sub (a ⊕ a) t1 (d.size + d.size) d.part d.of_both d.of_part d.low (room d.size d.size (same d.size) d.most) in
    close_root a b ha hb d.part c.part f lb.finite d.of_part c.of_part
    (add_signed false (t1 ⊗ (b ⊖ y1)) ((a ⊕ a ⊖ t1) ⊗ b) (product t1 (b ⊖ y1) lt y2) (product (a ⊕ a ⊖ t1) b t2 lb))

-- ---- a zero and a subnormal, both of high word 0, the subnormal m * 2^-1074 scaled up: t2 is negative, and the last sum is zero

abbrev pub least_normal : Float
least_normal = from_high_word (0 + 0x00100000)

pub least_units : Units least_normal false (2 ^ 52)
unfolding of_bits
least_units = (refl, refl)

pub zero_units : Units (from_high_word 0) false 0
unfolding of_bits
zero_units = (refl, refl)

pub rest_is : from_high_word 0 ⊕ from_high_word 0 ⊖ least_normal ≡ neg least_normal
unfolding of_bits add sub neg round lib.Count.count_trailing_zeros
rest_is = refl

scale_back : (m : ℕ) → 2 ^ 52 * (m * 2 ^ 1022) * 2 ^ 1074 ≡ m * (2 ^ 1074 * 2 ^ 1074)
scale_back m = ap (λ (n : ℕ). n * 2 ^ 1074) (mul_left_comm (2 ^ 52) m (2 ^ 1022)) ∙ mul_assoc m (2 ^ 1074) (2 ^ 1074)

unlike_plus : (s : Bool) → unlike s false ≡ s
unlike_plus true = refl
unlike_plus false = refl

pub scaled_down : (x b : Float) (s : Bool) (m : ℕ) → m < 2 ^ 53 → Units x s (2 ^ 52) → Units b false (m * 2 ^ 1022) → Units (x ⊗ b) s m
scaled_down x b s m l h k =
    let d = 2 ^ 1074 in
    let z = pow_pos 1074 in
    rw (mul_at x b s false (2 ^ 52) (m * 2 ^ 1022) d d z z h k, unlike_plus s, round_same binary64 s (2 ^ 52 * (m * 2 ^ 1022)) (d * d) m d (mul-pos z z) z (scale_back m))
    (round_units s m m 0 (sym (mul-one m)) l (omega arith))

less_zero : (n : ℕ) → n - 0 ≡ n
less_zero n = omega arith

pub less_nothing : (b y : Float) (n m k : ℕ) → n ≡ m * 2 ^ k → m < 2 ^ 53 → k ≤ 2045 → Units b false n → Units y false 0 → Units (b ⊖ y) false n
less_nothing b y n m k e l u h z =
    rw (sub_at b y n 0 (2 ^ 1074) (pow_pos 1074) h z (omega arith), less_zero n) (round_units false n m k e l u)

pub close_zero : (b : Float) (m : ℕ) → m < 2 ^ 53 → Units b false (m * 2 ^ 1022) → Signed false (close (from_high_word 0) b 0 0)
close_zero b m l h =
    let o = from_high_word 0 in
    let t1 = least_normal in
    let y2 = less_nothing b o (m * 2 ^ 1022) m 1022 refl l (omega arith) h zero_units in
    let p = scaled_down t1 (b ⊖ o) false m l least_units y2 in
    let q = scaled_down (neg t1) b true m l (value_neg t1 false (2 ^ 52) (2 ^ 1074) least_units) h in
    let s : Signed false (t1 ⊗ (b ⊖ o) ⊕ (o ⊕ o ⊖ t1) ⊗ b) = rw (rest_is, less_at_is (t1 ⊗ (b ⊖ o)) (neg t1 ⊗ b) m m (2 ^ 1074) (pow_pos 1074) p q (same m)) (round_signed binary64 false (m - m) (2 ^ 1074)) in
    close_root o b 0 0 (2 ^ 52) 0 (least_of o 0 zero_units).finite (least_of b (m * 2 ^ 1022) h).finite least_units zero_units s
