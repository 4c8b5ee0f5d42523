use Rattle.factor.proofs.Chain.{place_is, count_is}
use Rattle.factor.proofs.clear.Clear.constants.Goals as goal

pub returns-clause-count : goal.returns-clause-count
returns-clause-count c =
    let clear = c.args.self.now in
    let ws = clear.case.tables.words.now in
    let xs = clear.case.tables.numbers.now in
    count_is ws xs clear.case.tables.laid clear.case.tallied clear.clear (place_is ws xs clear.case.tables.laid clear.case.tallied) c.objective_constants-objective.ensures.0
