use Rattle.network.proofs.Forms.{branch_read}
use Rattle.network.proofs.tables.Tables.branch.Goals as goal

pub branch_at-requires : goal.branch_at-requires
branch_at-requires c = c.branch_start-at.ensures.1

pub returns : goal.returns
returns c =
    branch_read c.args.self.now.laid c.requires c.branch_start-at.ensures.0 c.branch_from.ensures c.branch_to.ensures c.branch_angled.ensures
    c.branch_limited.ensures c.branch_at.ensures
