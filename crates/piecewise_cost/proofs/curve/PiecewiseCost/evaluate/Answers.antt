use mathlib.Core.Path.{◌≡◌, sym, ◌∙◌}
use native.Mathlib.Numerals.{add-one}
use native.Mathlib.Omega.{arith}
use lib.Ieee.{of_bits}
use Rattle.piecewise_cost.proofs.Leaves.{evaluate_none, evaluate_next, prepared_get, prepared_length}
use Rattle.piecewise_cost.proofs.curve.PiecewiseCost.evaluate.Goals as goal

pub loop-segment-init : goal.loop-segment-init
unfolding of_bits
loop-segment-init c = λ xs at p. sym (evaluate_none xs at _)

pub loop-segment-preserved : goal.loop-segment-preserved
loop-segment-preserved c =
    let loop = c.loop-segment in λ xs at p.
    c.maximum-most.ensures
    ∙ rw (add-one, evaluate_next, ← loop.invariant xs at p, prepared_get {s = loop.segment-index} _ p (omega (arith, c.loop-segment-test.true, prepared_length p)))

pub returns : goal.returns
returns c =
    let loop = c.loop-segment in λ xs at p.
    let e : loop.segment-index ≡ c.args.self.count = omega (arith, prepared_length p) in
    rw (← e) (loop.invariant xs at p)
