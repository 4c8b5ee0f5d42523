use Rattle.std.proofs.Common.{rules}
use Rattle.pi_model.specs.Flow.{coefficients_of}
use Rattle.writer.proofs.Tokens.{written_then}
use Rattle.parts.proofs.Pieces.{parts_as}
use Rattle.parts.proofs.parts.branch_flow.Goals as goal

pub voltage_parts-requires-clause-room : goal.voltage_parts-requires-clause-room
voltage_parts-requires-clause-room c =
    let room = rw (parts_as c.args.tables.now.laid c.args.b c.branch-branch.ensures.is) at c.requires.room in
    search rules

pub flow_parts-requires-clause-room : goal.flow_parts-requires-clause-room
flow_parts-requires-clause-room c =
    let room = rw (parts_as c.args.tables.now.laid c.args.b c.branch-branch.ensures.is) at c.requires.room in
    search rules

pub flow_parts-requires-2-clause-room : goal.flow_parts-requires-2-clause-room
flow_parts-requires-2-clause-room c =
    let room = rw (parts_as c.args.tables.now.laid c.args.b c.branch-branch.ensures.is) at c.requires.room in
    search rules

pub returns : goal.returns
unfolding coefficients_of
returns c =
    let e = c.coefficients-cs.ensures in
    rw (parts_as c.args.tables.now.laid c.args.b c.branch-branch.ensures.is)
    (written_then c.voltage_parts.ensures (written_then (rw e at c.flow_parts.ensures) (rw e at c.flow_parts-2.ensures)))
