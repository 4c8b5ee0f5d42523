use Rattle.std.proofs.Common.{◌≡◌, Bool, true, false, refl}
use Rattle.std.specs.Ordering.{partial_le, float_partial_cmp}
use lib.Ieee.{Float, lt, eq, le, neg}
use Rattle.bounds.specs.Bounds.{swing64, angle_right}
use Rattle.bounds.proofs.angle_right.Goals as goal

ordered : (x y : Float) → partial_le float_partial_cmp x y ≡ le x y
unfolding le
ordered x y = go (lt x y) (eq x y) (lt y x) refl refl refl
  where
    go : (p q r : Bool) → lt x y ≡ p → eq x y ≡ q → lt y x ≡ r → partial_le float_partial_cmp x y ≡ le x y
    go true q r h k l = rw h refl
    go false true r h k l = rw (h, k) refl
    go false false true h k l = rw (h, k, l) refl
    go false false false h k l = rw (h, k, l) refl

pub returns : goal.returns
unfolding angle_right
returns c =
    rw (c.contains.ensures.value, c.new.ensures.exhausted, c.new.ensures.start, c.new.ensures.end, ordered (neg swing64) c.args.x, ordered c.args.x swing64) refl
