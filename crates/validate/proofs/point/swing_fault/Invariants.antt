use lib.Ieee.{nan}
use lib.ListN.{get_or}
use Rattle.base.proofs.Firsts.{Clear}
use Rattle.base.specs.Fault.{fault, unless, first}
use Rattle.bounds.specs.Bounds.{angle_right}
use Rattle.validate.proofs.point.swing_fault.Given as goal

abbrev pub invariant-loop-i : goal.invariant-loop-i
invariant-loop-i l = Clear (first l.i (λ j. unless (angle_right (get_or l.candidate.point.now j nan)) (fault 14 j)))
