use Rattle.base.proofs.Firsts.{Clear}
use Rattle.base.specs.Fault.{fault, unless, first}
use Rattle.network.specs.Fault.{word_right}
use Rattle.network.proofs.Steps.{Held}
use Rattle.network.proofs.words.wrong_word.Given as goal

abbrev pub invariant-loop-i : goal.invariant-loop-i
invariant-loop-i l = Held l.words 2 l.i l.before × Clear (first l.i (λ j. unless (word_right l.words j) (fault 1 j)))
