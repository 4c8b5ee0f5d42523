use Rattle.std.proofs.Common.{rules}
use mathlib.Core.Path.{refl, ◌∙◌}
use Rattle.base.proofs.Sections.{wrote_front}
use Rattle.emit.proofs.Whole.{room_shared, room_rows, both_words, both_numbers, words_at, numbers_at, few_words}
use Rattle.emit.proofs.model.write_model.Goals as goal

pub shared_parts-requires : goal.shared_parts-requires
shared_parts-requires c =
    let laid = c.args.tables.now.laid in
    room_shared (record { word = refl; constant = refl; part = refl }) _ _ (words_at laid) (numbers_at laid) c.requires.words c.requires.constants (few_words laid)

pub after_parts-requires : goal.after_parts-requires
after_parts-requires c =
    let laid = c.args.tables.now.laid in
    room_rows (record { word = refl; constant = refl; part = refl }) _ _ (words_at laid) (numbers_at laid) c.requires.words c.requires.constants (few_words laid)
    c.shared_parts.ensures

pub returns-clause-words : goal.returns-clause-words
returns-clause-words c =
    let laid = c.args.tables.now.laid in
    let whole = both_words (record { word = refl; constant = refl; part = refl }) _ _ (words_at laid) (numbers_at laid) c.shared_parts.ensures c.after_parts.ensures in
    let front = wrote_front whole c.requires.words in
    let same = c.after_parts.ensures.same_words ∙ c.shared_parts.ensures.same_words in
    search rules

pub returns-clause-constants : goal.returns-clause-constants
returns-clause-constants c =
    let laid = c.args.tables.now.laid in
    let whole = both_numbers (record { word = refl; constant = refl; part = refl }) _ _ (words_at laid) (numbers_at laid) c.shared_parts.ensures c.after_parts.ensures in
    let front = wrote_front whole c.requires.constants in
    let same = c.after_parts.ensures.same_constants ∙ c.shared_parts.ensures.same_constants in
    search rules
