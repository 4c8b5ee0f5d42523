-- io's fewest digits in base 10 are the decimal digits.
use mathlib.Core.Path.{◌≡◌, refl}
use mathlib.Core.Bool.{Bool, true, false}
use Prim.Native.Nat.{ℕ, zero, suc, ◌+◌, ◌-◌, ◌/◌, ◌%◌, ◌^◌, ◌≤◌, ◌<◌}
use native.Mathlib.Omega.{arith}
use native.Mathlib.Nat.{one-le-pow, pow-le-pow_right}
use lib.Dec.{leb}
use borrow.Author.Tests.{lt-ltb, le-ltb, leb-true, leb-false}
use Rattle.io.specs.Digits.{hex_digit_ascii, last_digits, IsDigitCount}
use Rattle.depot_text.specs.Text.{decimal_within, decimal}

glyph_is : (n : ℕ) → hex_digit_ascii (n % 10) ≡ 48 + n % 10
glyph_is n = rw (lt-ltb (n % 10) 10 (omega arith))

digits_within : (most k n : ℕ) → k ≤ most → IsDigitCount 10 1 n k → last_digits 10 k n ≡ decimal_within most n
unfolding decimal_within
digits_within zero k n h f = absurd (omega (arith, f.0))
digits_within (suc most) zero n h f = absurd (omega (arith, f.0))
digits_within (suc most) (suc zero) n h f = rw (lt-ltb n 10 f.1, glyph_is n)
digits_within (suc most) (suc (suc j)) n h f =
    let one : 0 < 10 ^ j = one-le-pow j 10 (omega arith) in
    let less : suc (suc j) - 1 ≡ suc j = omega arith in
    let low : 10 ^ suc j ≤ n = rw less at (f.2 (omega arith)) in
    let high : n < 10 ^ suc (suc j) = f.1 in
    let fewer : suc j - 1 ≡ j = omega arith in
    let rest = digits_within most (suc j) (n / 10) (omega arith) (omega arith, omega arith, λ l. rw fewer (omega arith)) in
    rw (le-ltb n 10 (omega arith), glyph_is n, rest)

-- a 64-bit number has at most 20 digits
pub few_digits : (n k : ℕ) → n < 18446744073709551616 → IsDigitCount 10 1 n k → k ≤ 20
few_digits n k h f = go (leb k 20) refl
  where
    go : (b : Bool) → leb k 20 ≡ b → k ≤ 20
    go true e = leb-true k 20 e
    go false e =
        let l = leb-false k 20 e in
        let base : 0 < 10 = omega arith in
        let more : 20 ≤ k - 1 = omega arith in
        let p : 10 ^ 20 ≤ 10 ^ (k - 1) = pow-le-pow_right base more in
        absurd (omega (arith, p, f.2 (omega arith)))

pub digits_decimal : (k n : ℕ) → k ≤ 20 → IsDigitCount 10 1 n k → last_digits 10 k n ≡ decimal n
digits_decimal k n h f = digits_within 20 k n h f
