use Prim.Native.Nat.{◌+◌}
use Rattle.base.specs.Loop.{each}
use Rattle.writer.specs.internal.Tokens.{Written}
use Rattle.parts.specs.internal.Parts.{square_tokens}
use Rattle.parts.proofs.parts.vm_squared.Given as goal

abbrev pub invariant-loop-i : goal.invariant-loop-i
invariant-loop-i l = Written l.initial.writer (each l.i (λ i. square_tokens (l.n + i))) l.writer
