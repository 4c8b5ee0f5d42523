use mathlib.Core.Path.{ap, ◌∙◌}
use Rattle.network.specs.Network.{bus_at}
use Rattle.network.proofs.tables.Tables.bus_start.Goals as goal

pub returns : goal.returns
returns c =
    let is = c.bus_start.ensures ∙ ap (λ ws. bus_at ws c.args.i) c.form.ensures.0 in
    (is, rw is (c.args.self.now.laid.bus_fits c.args.i c.requires))
