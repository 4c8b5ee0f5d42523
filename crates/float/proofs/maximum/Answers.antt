use Rattle.std.proofs.Common.{◌≡◌, ◌^◌, Bool, true, false, cond, not, ◌||◌, T, ltb, sym, refl, ap, subst, true≢false, arith, le-ltb, lt-ltb}
use mathlib.Core.Logic.{inl, inr}
use lib.Ieee.{Float, nan, inf, fin, binary64, to_bits, neg, fits, lt, eq, ne, is_nan}
use lib.Ieee.Fits.{neg-fits}
use lib.Ieee.Bits.{to_bits-lt}
use Rattle.std.proofs.lemmas.Float.{lt_irrefl, le_of_lt, le_refl, le_right, lt-or-eq, T_from_true}
use Rattle.std.proofs.lemmas.Grind.{common_steps}
use Rattle.std.specs.Float.{is_sign_negative}
use Rattle.float.specs.Number.{maximum}
use Rattle.float.proofs.maximum.Goals as goal

yes : (b : Bool) → T b → b ≡ true
yes true h = refl
yes false h = absurd h

not-both : (b : Bool) → b ≡ true → T (not b) → ⊥
not-both true e n = n
not-both false e n = absurd (true≢false (sym e))

same : (x : Float) → T (not (is_nan x)) → T (eq x x)
same x n = elim (lt-or-eq x x (le_refl x n)) [ inl l ↦ absurd (lt_irrefl x l) | inr q ↦ q ]

-- only a NaN differs from itself
differs : (x : Float) → ne x x ≡ is_nan x
unfolding ne is_nan
differs nan = refl
differs (inf s) = ap not (yes (eq (inf s) (inf s)) (same (inf s) (unfold is_nan in tt)))
differs (fin s m e) = ap not (yes (eq (fin s m e) (fin s m e)) (same (fin s m e) (unfold is_nan in tt)))

-- the sign bit
sign : (x : Float) → T (fits binary64 x) → is_nan x ≡ false → ltb (to_bits binary64 x) (2 ^ 63) ≡ not (is_sign_negative x)
unfolding is_sign_negative is_nan to_bits neg
sign nan f h = absurd (true≢false h)
sign (inf true) f h = refl
sign (inf false) f h = refl
sign (fin true m e) f h = le-ltb _ _ (omega arith)
sign (fin false m e) f h = lt-ltb _ _ (let z = to_bits-lt binary64 (fin true m e) (neg-fits binary64 (fin false m e) f) in omega arith)

chosen : (a b : Float) → T (fits binary64 a) → maximum a b ≡ cond (lt a b || is_nan a) b (cond (lt b a || is_nan b) a (cond (is_sign_negative a) b a))
unfolding maximum
chosen a b f = go (is_nan a) (is_nan b) (lt a b) (lt b a) refl refl refl refl
  where
    turned : (t : Bool) → cond (not t) a b ≡ cond t b a
    turned true = refl
    turned false = refl

    go : (p q r s : Bool) → is_nan a ≡ p → is_nan b ≡ q → lt a b ≡ r → lt b a ≡ s → maximum a b ≡ cond (r || p) b (cond (s || q) a (cond (is_sign_negative a) b a))
    go true q true s p' q' r' s' = rw (differs a, p') refl
    go true q false s p' q' r' s' = rw (differs a, p') refl
    go false true true s p' q' r' s' = absurd (not-both (is_nan b) q' (le_right a b (le_of_lt a b (T_from_true _ r'))))
    go false true false true p' q' r' s' = rw (differs a, p', differs b, q') refl
    go false true false false p' q' r' s' = rw (differs a, p', differs b, q') refl
    go false false true s p' q' r' s' = rw (differs a, p', differs b, q', r') refl
    go false false false true p' q' r' s' = rw (differs a, p', differs b, q', r', s') refl
    go false false false false p' q' r' s' = rw (differs a, p', differs b, q', r', s', sign a f p') (turned (is_sign_negative a))

pub returns-then-is_nan : goal.returns-then-is_nan
returns-then-is_nan c = let e = chosen c.args.a c.args.b (subst T (sym c.well_formed.0.1) tt) in grind (arith, common_steps)

pub returns-then-is_nan-2 : goal.returns-then-is_nan-2
returns-then-is_nan-2 c = let e = chosen c.args.a c.args.b (subst T (sym c.well_formed.0.1) tt) in grind (arith, common_steps)

pub returns-then-is_sign_negative : goal.returns-then-is_sign_negative
returns-then-is_sign_negative c = let e = chosen c.args.a c.args.b (subst T (sym c.well_formed.0.1) tt) in grind (arith, common_steps)

pub returns-else-is_sign_negative : goal.returns-else-is_sign_negative
returns-else-is_sign_negative c = let e = chosen c.args.a c.args.b (subst T (sym c.well_formed.0.1) tt) in grind (arith, common_steps)
