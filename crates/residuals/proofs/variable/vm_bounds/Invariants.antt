use mathlib.Core.Path.{◌≡◌}
use Rattle.acopf.specs.Columns.{vm_lower, vm_upper}
use Rattle.residuals.specs.internal.Section.{largest_with, outside}
use Rattle.residuals.proofs.variable.vm_bounds.Given as goal

abbrev pub invariant-loop-i : goal.invariant-loop-i
invariant-loop-i l =
    let ws = l.tables.words.now in
    let xs = l.tables.numbers.now in
    l.most ≡ largest_with l.start l.i (outside l.columns (vm_lower ws xs) (vm_upper ws xs))
