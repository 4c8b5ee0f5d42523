use native.Mathlib.Omega.{arith}
use mathlib.Core.Path.{◌≡◌}
use lib.ListN.{length}
use lib.Seq.{take-length}
use Rattle.lists.proofs.Copy.{copy_next}
use Rattle.lists.proofs.copy_front.Goals as goal

pub loop-i-preserved : goal.loop-i-preserved
loop-i-preserved c =
    let args = c.args in
    let loop = c.loop-i in
    rw loop.invariant (copy_next args.list.now args.to.now loop.i (omega (arith, c.loop-i-test.true)) (omega (arith, c.loop-i-test.true, c.requires)))

pub returns : goal.returns
returns c =
    let e : c.loop-i.i ≡ length c.args.list.now = omega (arith, c.loop-i-test.false, c.loop-i.auto.i-end) in
    rw (e, take-length c.args.list.now) at c.loop-i.invariant
