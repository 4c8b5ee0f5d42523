use Rattle.derived.proofs.Outputs.{flows_are, injections_copied}
use Rattle.derived.proofs.fill.Derived.balances.Goals as goal

pub returns : goal.returns
returns c =
    let derived = c.args.self.now in
    let laid = derived.candidate.tables.laid in
    c.balances.ensures _ _ _ (flows_are _ _ _ _ laid derived.filled) (rw c.copy_front.ensures (injections_copied _ _ _ _ laid derived.filled _))
