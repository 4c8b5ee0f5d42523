-- `row_values::settled` meets its contract.
use mathlib.Core.Path.{ap, sym, ◌∙◌}
use Rattle.base.specs.Fault.{shown}
use Rattle.nl.specs.Finder.{refusal_of}
use Rattle.row_values.specs.internal.Run.{Settled}
use Rattle.expression.proofs.Scans.{exit_as}
use Rattle.row_values.proofs.Answers.{counts_refuse, wrong_refuses, room_refuses, point_refuses, length_refuses, counts_pass, verdict_refuses, accepts}
use Rattle.row_values.proofs.settled.Goals as goal

pub returns-in_err-counts : goal.returns-in_err-counts
returns-in_err-counts c =
    let counts = sym (rw (c.file.ensures.0, c.file.ensures.1) at c.in_err-counts.ensures) in
    exit_as (Settled _ _ _ _ _ _ _) _ _ c.from_residual.ensures.1 (counts_refuse _ _ _ _ _ _ counts)

pub returns-in_err-room_fault : goal.returns-in_err-room_fault
returns-in_err-room_fault c =
    let counts = sym (rw (c.file.ensures.0, c.file.ensures.1) at c.in_ok-counts.ensures) in
    exit_as (Settled _ _ _ _ _ _ _) _ _ c.from_residual-in_err-room_fault.ensures.1
    (room_refuses _ _ _ _ _ _ counts _ c.in_err-room_fault.ensures)

pub returns-then-inputs-columns : goal.returns-then-inputs-columns
returns-then-inputs-columns c =
    let counts = sym (rw (c.file.ensures.0, c.file.ensures.1) at c.in_ok-counts.ensures) in
    length_refuses _ _ _ _ _ _ counts c.in_ok-room_fault.ensures c.if-inputs-columns.true

pub returns-in_err-room_fault-in-Ok : goal.returns-in_err-room_fault-in-Ok
returns-in_err-room_fault-in-Ok c =
    exit_as (Settled _ _ _ _ _ _ _) _ _ c.from_residual-in_err-room_fault-in-Ok.ensures.1
    (room_refuses _ _ _ _ _ c.in-Ok.file.counts (counts_pass _ _ _ _ c.args.lent _ _ _ c.if-inputs-columns.false _ c.in-Ok.ensures) _ c.in_err-room_fault-in-Ok.ensures)

pub returns-in_err-point_fault-in-Ok : goal.returns-in_err-point_fault-in-Ok
returns-in_err-point_fault-in-Ok c =
    exit_as (Settled _ _ _ _ _ _ _) _ _ c.from_residual-in_err-point_fault-in-Ok.ensures.1
    (point_refuses _ _ _ _ _ c.in-Ok.file.counts (counts_pass _ _ _ _ c.args.lent _ _ _ c.if-inputs-columns.false _ c.in-Ok.ensures) c.in_ok-room_fault-in-Ok.ensures _ c.in_err-point_fault-in-Ok.ensures)

pub returns-in_err-file-in-Ok : goal.returns-in_err-file-in-Ok
returns-in_err-file-in-Ok c =
    exit_as (Settled _ _ _ _ _ _ _) _ _ c.from_residual-in_err-file-in-Ok.ensures.1
    (verdict_refuses _ _ _ _ _ _ _ _ c.if-inputs-columns.false _ c.in-Ok.ensures c.in_ok-room_fault-in-Ok.ensures c.in_ok-point_fault-in-Ok.ensures _ c.in_err-file-in-Ok.was)

pub returns-in_ok-file-in-Ok : goal.returns-in_ok-file-in-Ok
returns-in_ok-file-in-Ok c =
    accepts _ _ _ _ _ _ _ _ c.if-inputs-columns.false _ c.in-Ok.ensures c.in_ok-room_fault-in-Ok.ensures c.in_ok-point_fault-in-Ok.ensures c.in_ok-file-in-Ok.was

pub returns-in-Err-Wrong : goal.returns-in-Err-Wrong
returns-in-Err-Wrong c =
    let layout = rw (c.in-Err-Wrong.field-0-is, c.if-inputs-columns.false) at c.in-Err-Wrong.ensures in
    ap shown (c.from.ensures ∙ ap refusal_of c.in-Err-Wrong.word-is) ∙ wrong_refuses _ _ _ _ _ _ layout

pub returns-in-Err-Full : goal.returns-in-Err-Full
returns-in-Err-Full c =
    let counts = rw (c.file.ensures.0, c.file.ensures.1) at c.row_counts-in-Err-Full.ensures in
    counts_refuse _ _ _ _ _ _ (sym counts ∙ c.unwrap_err.ensures)
