use native.Mathlib.Omega.{arith}
use borrow.Author.Tests.{ne_eqb}
use Rattle.network.specs.Word.{load_right}
use Rattle.network.proofs.word.load_right.Goals as goal

pub returns-in-Ok-Header : goal.returns-in-Ok-Header
unfolding load_right
returns-in-Ok-Header c =
    let e = rw c.in-Ok-Header.field-0-is at c.in-Ok-Header.ensures in rw (c.load_of-load.ensures, ← c.kind_of.ensures, ← e)

pub returns-in-Ok-Bus : goal.returns-in-Ok-Bus
unfolding load_right
returns-in-Ok-Bus c =
    let e = rw c.in-Ok-Bus.field-0-is at c.in-Ok-Bus.ensures in rw (c.load_of-load.ensures, ← c.kind_of.ensures, ← e)

pub returns-in-Ok-Generator : goal.returns-in-Ok-Generator
unfolding load_right
returns-in-Ok-Generator c =
    let e = rw c.in-Ok-Generator.field-0-is at c.in-Ok-Generator.ensures in rw (c.load_of-load.ensures, c.generator_bus.ensures, c.generator_points-curve.ensures, ← c.kind_of.ensures, ← e)

pub returns-in-Ok-Branch : goal.returns-in-Ok-Branch
unfolding load_right
returns-in-Ok-Branch c =
    let e = rw c.in-Ok-Branch.field-0-is at c.in-Ok-Branch.ensures in rw (c.load_of-load.ensures, c.branch_from.ensures, c.branch_to.ensures, ← c.kind_of.ensures, ← e)

pub returns-in-Ok-Reference : goal.returns-in-Ok-Reference
unfolding load_right
returns-in-Ok-Reference c =
    let e = rw c.in-Ok-Reference.field-0-is at c.in-Ok-Reference.ensures in rw (c.load_of-load.ensures, c.reference_bus.ensures, ← c.kind_of.ensures, ← e)

pub returns-in-Err : goal.returns-in-Err
unfolding load_right
returns-in-Err c =
    let h = c.in-Err.ensures in
    let k = c.kind_of.result in
    rw (← c.kind_of.ensures, ne_eqb k 1 (λ z. omega (arith, h)), ne_eqb k 2 (λ z. omega (arith, h)), ne_eqb k 3 (λ z. omega (arith, h)), ne_eqb k 4 (λ z. omega (arith, h)), ne_eqb k 5 (λ z. omega (arith, h)))
