use mathlib.Core.Path.{refl}
use Rattle.std.proofs.lemmas.Result.{err_from_is_err_and}
use Rattle.compile.specs.Lists.{lists}
use Rattle.compile.proofs.Answer.{refused_number}
use Rattle.compile.proofs.Lent.{held_as_was, held_as_written, file_room, column_room, row_room}
use Rattle.compile.proofs.model.compile.Goals as goal

pub returns-in_err-answer : goal.returns-in_err-answer
returns-in_err-answer c =
    let s = c.args in
    let before =
    lists s.model_words.now s.constants.now s.column_lower.now s.column_upper.now s.start.now s.row_lower.now s.row_upper.now
    in
    let d = c.in_err-answer.ensures.answer in
    let p = err_from_is_err_and c.from_residual.result c.from_residual.ensures.1 in
    (rw (p.1, p.2) d, held_as_was _ _ before d (refused_number c.in_err-answer.field-0.0), c.type_inv.numbers)

pub write_model-requires : goal.write_model-requires
write_model-requires c =
    let s = c.args in
    let before =
    lists s.model_words.now s.constants.now s.column_lower.now s.column_upper.now s.start.now s.row_lower.now s.row_upper.now
    in
    let d = c.in_ok-answer.ensures in
    let room = file_room _ _ before d.answer refl in
    rw (d.words, d.numbers) (record { words = room.0; constants = room.1 })

pub write_columns-requires : goal.write_columns-requires
write_columns-requires c =
    let s = c.args in
    let before =
    lists s.model_words.now s.constants.now s.column_lower.now s.column_upper.now s.start.now s.row_lower.now s.row_upper.now
    in
    let d = c.in_ok-answer.ensures in
    rw d.words (column_room _ _ before d.answer refl)

pub write_rows-requires : goal.write_rows-requires
write_rows-requires c =
    let s = c.args in
    let before =
    lists s.model_words.now s.constants.now s.column_lower.now s.column_upper.now s.start.now s.row_lower.now s.row_upper.now
    in
    let d = c.in_ok-answer.ensures in
    rw (d.words, d.numbers) (row_room _ _ before d.answer refl)

pub returns : goal.returns
returns c =
    let s = c.args in
    let before =
    lists s.model_words.now s.constants.now s.column_lower.now s.column_upper.now s.start.now s.row_lower.now s.row_upper.now
    in
    let d = c.in_ok-answer.ensures in
    let file = c.write_model.ensures in
    let columns = rw (d.words, d.numbers) at c.write_columns.ensures in
    let rows = rw (d.words, d.numbers) at c.write_rows.ensures in
    let held = held_as_written _ _ before d.answer refl (rw (d.words, d.numbers) at file.words) (rw (d.words, d.numbers) at file.constants) columns.0 columns.1 columns.2 rows.0 rows.1 in
    (d.answer, held, c.type_inv.numbers)
