use mathlib.Core.List.{[], ◌∷◌}
use mathlib.Core.Path.{refl}
use Rattle.base.specs.Word.{word}
use Rattle.writer.specs.internal.Tokens.{fixed}
use Rattle.emit.specs.internal.Whole.{objective_and_end}
use Rattle.writer.proofs.Tokens.{written_then, written_put, room_first, room_then}
use Rattle.emit.proofs.model.objective_and_end.Goals as goal

pub objective-requires : goal.objective-requires
unfolding objective_and_end
objective-requires c = room_first _ _ c.requires

pub put-requires : goal.put-requires
unfolding objective_and_end
put-requires c = let room = room_then _ _ c.requires c.objective.ensures in record { words = room.words; numbers = room.numbers; parts = room.parts }

pub returns : goal.returns
unfolding objective_and_end
returns c = written_then c.objective.ensures (written_put (fixed (word 13 0) ∷ []) c.put.ensures (cc) refl refl)
