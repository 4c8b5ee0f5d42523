use Rattle.std.proofs.Common.{◌≡◌, Bool, true, false, not, T, refl, arith}
use Rattle.std.proofs.lemmas.Float.{lt_irrefl, lt_of_lt_of_le, le_of_not-lt, T_from_true, T_from_false}
use Rattle.std.proofs.lemmas.Grind.{common_steps}
use lib.Ieee.{Float, nan, inf, fin, lt, le, is_nan}
use mathlib.Core.Bool.{false≢true}
use Rattle.float.specs.Number.{is_finite}
use Rattle.bounds.specs.Bounds.{bounds_right}
use Rattle.bounds.proofs.validate_bounds.Goals as goal

number : (x : Float) → is_finite x ≡ true → T (not (is_nan x))
unfolding is_finite is_nan
number nan h = absurd (false≢true h)
number (inf s) h = tt
number (fin s m e) h = tt

-- of two numbers one is at most the other, or above it
ordered : (x y : Float) → is_finite x ≡ true → is_finite y ≡ true → le x y ≡ not (lt y x)
ordered x y h k = go (lt y x) refl
  where
    yes : (b : Bool) → T b → b ≡ true
    yes true t = refl
    yes false t = absurd t

    no : (b : Bool) → ¬ (T b) → b ≡ false
    no true t = absurd (t tt)
    no false t = refl

    go : (b : Bool) → lt y x ≡ b → le x y ≡ not b
    go true e = no (le x y) (λ l. lt_irrefl y (lt_of_lt_of_le y x y (T_from_true _ e) l))
    go false e = yes (le x y) (le_of_not-lt y x (number y k) (number x h) (T_from_false _ e))

pub returns-then-is_finite-2 : goal.returns-then-is_finite-2
unfolding bounds_right
returns-then-is_finite-2 c = grind (arith, common_steps, ordered)

pub returns-else-is_finite-2 : goal.returns-else-is_finite-2
unfolding bounds_right
returns-else-is_finite-2 c = grind (arith, common_steps)
