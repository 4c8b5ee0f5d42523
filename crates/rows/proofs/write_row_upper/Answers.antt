use borrow.Author.Rules.{rules}
use Rattle.network.specs.declared.records.Branch.{Branch}
use Rattle.rows.proofs.Sides.{upper_is}
use Rattle.rows.proofs.write_row_upper.Goals as goal

pub returns : goal.returns
returns c =
    let case = c.args.case.now in
    rw (upper_is case.tables.words.now case.tables.numbers.now case.tables.laid case.tallied)
    (c.write_bounds.ensures (λ (branch : Branch). branch.angle_max) (λ branch v p. search rules))
