use native.Mathlib.Omega.{arith}
use Rattle.derived.proofs.Scratch.{per_bus_next, kept_two}
use Rattle.derived.proofs.bus.demands.Goals as goal

pub loop-i-preserved : goal.loop-i-preserved
loop-i-preserved c =
    let loop = c.loop-i in
    let h = c.loop-i-test.true in (
      per_bus_next _ _ _ loop.list _ _ _ h (omega (arith, c.requires, loop.auto.list)) (rw (c.bus-bus.ensures, c.vm-vm.ensures)) (rw (c.bus-bus.ensures, c.vm-vm.ensures)) loop.invariant.0,
      kept_two _ _ loop.list loop.i _ _ h loop.invariant.1,
    )
