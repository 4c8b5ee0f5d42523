-- The square root of a number that is not negative is a number that is not negative.
use mathlib.Core.Bool.{Bool, true, false, cond}
use Prim.Native.Nat.{ℕ, zero, suc, ◌+◌, ◌-◌, ◌*◌, ◌/◌, ◌%◌, ◌^◌, ◌≤◌, ◌<◌}
use native.Mathlib.Omega.{arith}
use lib.Dec.{T, leb, eqb, ltb}
use lib.Ieee.{Float, nan, inf, fin, binary64, of_bits, to_bits, fits, neg, top}
use lib.Ieee.Bits.{to_bits-lt}
use lib.Ieee.Fits.{neg-fits}
use borrow.Author.Tests.{lt-leb}
use Rattle.float.specs.Number.{◌⊕◌, ◌⊗◌}
use Rattle.float.proofs.Really.{Number, Signed, signed_number}
use Rattle.float.proofs.Signs.{add_signed, square_signed}
use Rattle.float.proofs.Values.{value_signed}
use Rattle.float.proofs.Patterns.{worth, pattern_value}
use Rattle.fdlibm.specs.declared.e_sqrt.Root.{Root}
use Rattle.fdlibm.specs.Sqrt.{next_bit, bit_by_bit, start, rounded, even_exponent, root_of, normalized, root_bits, square_root}

-- ---- the root's bits are below an infinity's

next_q : (r : ℕ) (v : Root) → (next_bit r v).q ≤ v.q + r
next_q r v = go (leb (v.s + r) v.ix)
  where
    go : (b : Bool) → (cond {A = Root} b (record { s = v.s + r + r; ix = (v.ix - (v.s + r)) * 2; q = v.q + r }) (record { s = v.s; ix = v.ix * 2; q = v.q })).q ≤ v.q + r
    go true = omega arith
    go false = omega arith

bits_q : (k r : ℕ) (v : Root) → (bit_by_bit k r v).q ≤ v.q + 2 * r
unfolding bit_by_bit
bits_q zero r v = omega arith
bits_q (suc k) r v = omega (arith, bits_q k (r / 2) (next_bit r v), next_q r v)

rounded_le : (v : Root) → rounded v ≤ v.q + 1
rounded_le v = go (eqb v.ix 0)
  where
    go : (b : Bool) → cond b v.q (v.q + v.q % 2) ≤ v.q + 1
    go true = omega arith
    go false = omega arith

root_le : (m e : ℕ) → root_of m e ≤ 2 ^ 53 + e / 2 * 2 ^ 52
root_le m e =
    let v = bit_by_bit 54 (2 ^ 53) (start (even_exponent m e * 2)) in
    omega (arith, bits_q 54 (2 ^ 53) (start (even_exponent m e * 2)), rounded_le v)

normalized_le : (k m e : ℕ) → normalized k m e ≤ 2 ^ 53 + e / 2 * 2 ^ 52
unfolding normalized
normalized_le zero m e = root_le m e
normalized_le (suc k) m e = go (ltb m (2 ^ 52)) (normalized_le k (m * 2) (e - 1)) (normalized_le k m e)
  where
    go : (b : Bool) → normalized k (m * 2) (e - 1) ≤ 2 ^ 53 + (e - 1) / 2 * 2 ^ 52 → normalized k m e ≤ 2 ^ 53 + e / 2 * 2 ^ 52
        → normalized k (cond b (m * 2) m) (cond b (e - 1) e) ≤ 2 ^ 53 + e / 2 * 2 ^ 52
    go true h l = omega arith
    go false h l = l

bits_le : (b : ℕ) → b < 2 ^ 63 → root_bits b ≤ 1536 * 2 ^ 52
bits_le b h = go (eqb (b / 2 ^ 52) 0)
  where
    go : (c : Bool) → cond c (normalized 52 (b % 2 ^ 52) 1022) (root_of (b % 2 ^ 52 + 2 ^ 52) (b / 2 ^ 52 + 1021)) ≤ 1536 * 2 ^ 52
    go true = omega (arith, normalized_le 52 (b % 2 ^ 52) 1022)
    go false = omega (arith, root_le (b % 2 ^ 52 + 2 ^ 52) (b / 2 ^ 52 + 1021))

-- ---- the root

drop_sign : (a b : ℕ) → top binary64 + a + b < 2 * top binary64 → 0 + a + b < 2 ^ 63
drop_sign a b h = omega arith

plus_bits : (x : Float) → Signed false x → T (fits binary64 x) → to_bits binary64 x < 2 ^ 63
unfolding to_bits neg
plus_bits nan h f = absurd h
plus_bits (inf s) h f = rw h (omega arith)
plus_bits (fin s m e) h f =
    let f' : T (fits binary64 (fin true m e)) = rw h at (neg-fits binary64 (fin s m e) f) in
    rw h (drop_sign _ _ (to_bits-lt binary64 (fin true m e) f'))

squared : (x : Float) → Signed false x → Signed false (x ⊗ x ⊕ x)
squared x h = add_signed false (x ⊗ x) x (square_signed x (signed_number false x h)) h

pub cond_signed : (s b : Bool) (x y : Float) → Signed s x → Signed s y → Signed s (cond b x y)
cond_signed s true x y h k = h
cond_signed s false x y h k = k

pub root_signed : (x : Float) → Signed false x → T (fits binary64 x) → Signed false (square_root x)
unfolding square_root
root_signed x h f =
    let b = to_bits binary64 x in
    let l = bits_le b (plus_bits x h f) in
    cond_signed false (eqb (b / 2 ^ 52 % 2 ^ 11) 0x7ff) (x ⊗ x ⊕ x) _ (squared x h)
    (cond_signed false (eqb (b % 2 ^ 63) 0) x _ h
    (rw (lt-leb (2 ^ 63) b (plus_bits x h f)) (value_signed (of_bits binary64 (root_bits b)) false (worth (root_bits b)) (2 ^ 1074) (pattern_value (root_bits b) (omega arith)))))

pub root_number : (x : Float) → Signed false x → T (fits binary64 x) → Number (square_root x)
root_number x h f = signed_number false (square_root x) (root_signed x h f)
