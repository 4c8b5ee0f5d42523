-- The facts that the quick root hands over.
use mathlib.Core.Path.{◌≡◌, sym, ap, ◌∙◌}
use Prim.Native.Nat.{ℕ, ◌+◌, ◌*◌, ◌/◌, ◌%◌, ◌<◌, ◌≤◌, ◌^◌}
use native.Mathlib.Omega.{arith}
use lib.Ieee.{Float, binary64, to_bits, of_bits}
use borrow.Author.Tests.{lt-leb, ne_eqb}
use Rattle.fdlibm.specs.Sqrt.{square_root, root_of, even_exponent}
use Rattle.fdlibm.specs.internal.Near.{Near}
use Rattle.fdlibm.proofs.Square.{root_near}

-- ---- root at a normal number
pub root_normal : (x : Float) → 2 ^ 52 ≤ to_bits binary64 x → to_bits binary64 x < 0x7ff0_0000_0000_0000
    → square_root x ≡ of_bits binary64 (root_of (to_bits binary64 x % 2 ^ 52 + 2 ^ 52) (to_bits binary64 x / 2 ^ 52 + 1021))
unfolding square_root
root_normal x l h =
    let b = to_bits binary64 x in
    let i : b / 2 ^ 52 % 2 ^ 11 ≡ 0x7ff → ⊥ = λ q. omega arith in
    let j : b % 2 ^ 63 ≡ 0 → ⊥ = λ q. omega arith in
    let k : b / 2 ^ 52 ≡ 0 → ⊥ = λ q. omega arith in
    rw (ne_eqb _ _ i, ne_eqb _ _ j, lt-leb (2 ^ 63) b (omega arith), ne_eqb _ _ k)

abbrev pub significand : ℕ → ℕ
significand b = even_exponent (b % 2 ^ 52 + 2 ^ 52) (b / 2 ^ 52 + 1021)

pub root_is : (x : Float) (w : ℕ) → 2 ^ 52 ≤ to_bits binary64 x → to_bits binary64 x < 0x7ff0_0000_0000_0000
    → Near (significand (to_bits binary64 x) * 2 ^ 52) w
    → of_bits binary64 (w + (to_bits binary64 x / 2 ^ 52 + 1021) / 2 * 2 ^ 52) ≡ square_root x
root_is x w l h n =
    let b = to_bits binary64 x in
    sym (root_normal x l h ∙ ap (λ (k : ℕ). of_bits binary64 k) (root_near (b % 2 ^ 52 + 2 ^ 52) (b / 2 ^ 52 + 1021) w (omega arith) (omega arith) n))
