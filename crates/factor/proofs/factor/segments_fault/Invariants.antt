use Rattle.base.proofs.Firsts.{Clear}
use Rattle.factor.specs.internal.NonFinite.{segments_fault}
use Rattle.factor.proofs.factor.segments_fault.Given as goal

abbrev pub invariant-loop-s : goal.invariant-loop-s
invariant-loop-s l = Clear (segments_fault l.curve.numbers.now l.curve.at l.s l.place)
