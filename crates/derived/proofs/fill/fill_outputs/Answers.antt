use native.Mathlib.Omega.{arith}
use Rattle.derived.proofs.Scratch.{flows_kept}
use Rattle.derived.proofs.fill.fill_outputs.Goals as goal

pub returns : goal.returns
returns c =
    record {
      room = omega (arith, c.requires, c.flows.auto.list, c.injections.auto.list);
      injections_are = c.injections.ensures.0;
      flows_are = flows_kept c.injections.ensures.1 c.flows.ensures;
    }
