use Prim.Native.Nat.{ℕ, ◌+◌}
use mathlib.Core.List.{List}
use Rattle.writer.specs.internal.Tokens.{Token}
use Rattle.writer.proofs.Tokens.{turns_none, turns_step, turns_room}
use Rattle.parts.specs.internal.Parts.{square_tokens}
use Rattle.parts.proofs.parts.vm_squared.Goals as goal

abbrev turn : ℕ → ℕ → List Token
turn n i = square_tokens (n + i)

pub loop-i-init : goal.loop-i-init
loop-i-init c = turns_none _ (turn c.args.n)

pub square_part-requires-clause-room : goal.square_part-requires-clause-room
square_part-requires-clause-room c = turns_room _ (turn c.args.n) _ c.loop-i-test.true c.requires.room c.loop-i.invariant

pub loop-i-preserved : goal.loop-i-preserved
loop-i-preserved c = turns_step (turn c.args.n) _ c.loop-i.invariant c.square_part.ensures
