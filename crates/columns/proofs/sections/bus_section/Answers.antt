use mathlib.Core.Path.{◌≡◌, refl, ap, ◌∙◌}
use native.Mathlib.Omega.{arith}
use Rattle.base.proofs.Sections.{table_none, added_table, added_length}
use Rattle.columns.proofs.sections.bus_section.Goals as goal

pub loop-i-init : goal.loop-i-init
loop-i-init g c = (refl, omega arith, λ f h. table_none _ _)

pub loop-i-preserved : goal.loop-i-preserved
loop-i-preserved g c =
    let inv = c.loop-i.invariant in
    let push = c.push.ensures in (
      added_length push ∙ inv.0,
      omega (arith, inv.1, push.wrote.follows),
      λ f h. added_table _ _ (h _ _ c.value.ensures ∙ ap f c.bus.ensures) (inv.2 f h) push,
    )

pub returns-clause-section : goal.returns-clause-section
returns-clause-section g c f h =
    let e : c.loop-i.i ≡ c.args.tables.now.layout.buses = omega arith in
    rw e at (c.loop-i.invariant.2 f h)

pub returns-clause-next : goal.returns-clause-next
returns-clause-next g c = let inv = c.loop-i.invariant in record { at = omega (arith, inv.1); length = inv.0 }
