use Rattle.derived.proofs.Outputs.{flows_are}
use Rattle.derived.proofs.fill.Derived.flows.Goals as goal

pub returns : goal.returns
returns c =
    let derived = c.args.self.now in
    c.flows_at.ensures _ (flows_are _ _ _ _ derived.candidate.tables.laid derived.filled)
