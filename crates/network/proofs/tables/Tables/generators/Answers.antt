use native.Mathlib.Omega.{arith}
use Rattle.network.proofs.Epigraphs.{first_column}
use Rattle.network.proofs.tables.Tables.generators.Goals as goal

pub invariant_of-result-clause-counted : goal.invariant_of-result-clause-counted
invariant_of-result-clause-counted c = omega (arith, first_column c.args.self.now.laid.words c.first_generator.ensures.1)
