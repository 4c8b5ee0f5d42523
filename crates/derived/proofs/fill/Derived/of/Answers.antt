use mathlib.Core.Path.{ap}
use lib.Seq.{length-take-le}
use Rattle.derived.proofs.Scratch.{outputs_are}
use Rattle.derived.proofs.fill.Derived.of.Goals as goal

pub invariant_of-result : goal.invariant_of-result
invariant_of-result c =
    let is = c.args.candidate.now.tables.laid.words.is in
    let F = c.requires in
    record {
      sized = rw c.output_count.ensures (length-take-le _ _ F.room);
      filled = rw c.output_count.ensures (outputs_are _ _ _ _ _ _ (ap (λ z. z.buses) is) (ap (λ z. z.branches) is) F.room F.injections_are F.flows_are);
    }
