-- `expression::inside` meets its contract.
use mathlib.Core.Path.{◌≡◌, refl}
use mathlib.Core.Bool.{Bool, true, false}
use lib.Ieee.{Float, lt, eq, le, neg}
use Rattle.std.specs.Ordering.{partial_le, float_partial_cmp}
use Rattle.expression.specs.Value.{argument_limit, inside}
use Rattle.expression.proofs.inside.Goals as goal

ordered : (x y : Float) → partial_le float_partial_cmp x y ≡ le x y
unfolding le
ordered x y = go (lt x y) (eq x y) (lt y x) refl refl refl
  where
    go : (p q r : Bool) → lt x y ≡ p → eq x y ≡ q → lt y x ≡ r → partial_le float_partial_cmp x y ≡ le x y
    go true q r h k l = rw h
    go false true r h k l = rw (h, k)
    go false false true h k l = rw (h, k, l)
    go false false false h k l = rw (h, k, l)

pub returns : goal.returns
unfolding inside
returns c =
    rw (c.contains.ensures.value, c.new.ensures.exhausted, c.new.ensures.start, c.new.ensures.end, ordered (neg argument_limit) c.args.a, ordered c.args.a argument_limit)
