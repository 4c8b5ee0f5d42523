use native.Mathlib.Omega.{arith}
use mathlib.Core.Path.{◌∙◌}
use Rattle.network.proofs.Epigraphs.{bit_few, curved_is, next_column, column_few}
use Rattle.network.proofs.walk.GeneratorsIterator.next.Goals as goal

pub overflow_add-self : goal.overflow_add-self
overflow_add-self c =
    let s = c.args.self.now in
    omega (arith, column_few s.tables.laid.words s.counted s.standing.within, bit_few _ c.from.ensures)

pub invariant_of-self-clause-counted : goal.invariant_of-self-clause-counted
invariant_of-self-clause-counted c =
    next_column _ _ c.args.self.now.counted (c.curved.ensures ∙ curved_is c.here-generator.ensures) c.from.ensures c.next_generator.ensures.1
