use mathlib.Core.Path.{◌≡◌, refl, ap, ◌∙◌}
use mathlib.Core.Bool.{Bool, true, false, cond}
use mathlib.Core.List.{List}
use Prim.Native.Nat.{ℕ}
use native.Mathlib.Omega.{arith}
use lib.Dec.{ltb}
use lib.Ieee.{Float, nan}
use lib.ListN.{length, get_or}
use Rattle.std.specs.Prelude.{unwrap_or}
use Rattle.std.proofs.lemmas.Bool.{ltb-true, ltb-false}
use Rattle.std.proofs.lemmas.List.{get_or_default, get_or_past}
use Rattle.float.specs.Number.{zero64}
use Rattle.validate.specs.Check.{residual_at}
use Rattle.validate.proofs.boundary.residual.Goals as goal

read_or_zero : (l : List Float) (i : ℕ) → length l ≡ 8 → get_or l i zero64 ≡ residual_at l i
unfolding residual_at
read_or_zero l i e = go (ltb i 8) refl
  where
    go : (b : Bool) → ltb i 8 ≡ b → get_or l i zero64 ≡ cond b (get_or l i nan) zero64
    go true t = get_or_default l i zero64 nan (omega (arith, e, ltb-true i 8 t))
    go false t = get_or_past l i zero64 (omega (arith, e, ltb-false i 8 t))

pub returns : goal.returns
returns c =
    c.unwrap_or.ensures ∙ ap (λ o. unwrap_or o zero64) c.copied.ensures ∙ c.get.ensures.lookup.4 (omega arith) zero64
    ∙ read_or_zero c.args.residuals c.args.i (omega (arith, c.well_formed))
