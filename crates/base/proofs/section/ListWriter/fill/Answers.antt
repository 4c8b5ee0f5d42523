use native.Mathlib.Omega.{arith}
use lib.ListN.{length-replicate}
use Rattle.base.proofs.Sections.{added_length, added_value}
use Rattle.base.proofs.section.ListWriter.fill.Goals as goal

pub push-requires : goal.push-requires
push-requires g c =
    let sofar = c.loop.invariant in
    omega (arith, c.requires, sofar.wrote.follows, length-replicate c.loop.counter c.args.value, added_length sofar)

pub loop-preserved : goal.loop-preserved
loop-preserved g c = added_value c.loop.counter c.args.value c.loop.invariant c.push.ensures
