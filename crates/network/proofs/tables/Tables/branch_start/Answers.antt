use mathlib.Core.Path.{ap, ◌∙◌}
use native.Mathlib.Omega.{arith}
use Rattle.network.specs.Network.{branch_at}
use Rattle.network.proofs.tables.Tables.branch_start.Goals as goal

pub returns : goal.returns
returns c =
    let is = c.branch_start.ensures.0 ∙ ap (λ ws. branch_at ws c.args.b) c.form.ensures.0 in
    (is, omega (arith, c.args.self.now.laid.branch_fits c.args.b c.requires, is))
