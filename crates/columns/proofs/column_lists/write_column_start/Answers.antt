use mathlib.Core.Path.{refl, ap, ◌∙◌}
use mathlib.Core.Bool.{cond}
use borrow.Author.Rules.{rules}
use native.Mathlib.Omega.{arith}
use lib.Ieee.{neg}
use Rattle.float.specs.Number.{zero64}
use Rattle.bounds.specs.Bounds.{huge64, finite_or, clamp_start}
use Rattle.network.specs.declared.records.Bus.{Bus}
use Rattle.network.specs.declared.records.Generator.{Generator}
use Rattle.acopf.specs.Columns.{vm_lower, vm_upper, pg_lower, pg_upper, qg_lower, qg_upper, va_start, vm_start, pg_start, qg_start, epigraph_start, column_start}
use Rattle.acopf.proofs.Counts.{start_columns}
use Rattle.columns.proofs.Front.{columns_are, list_is}
use Rattle.columns.proofs.column_lists.write_column_start.Goals as goal

pub bus_section-requires-clause-room : goal.bus_section-requires-clause-room
bus_section-requires-clause-room c = omega (arith, columns_are c.args.tables.now.laid, c.requires)

pub bus_section-requires-2-clause-room : goal.bus_section-requires-2-clause-room
bus_section-requires-2-clause-room c =
    let va = c.bus_section.ensures.next in
    omega (arith, columns_are c.args.tables.now.laid, c.requires, va.at, va.length)

pub generator_section-requires-clause-room : goal.generator_section-requires-clause-room
generator_section-requires-clause-room c =
    let va = c.bus_section.ensures.next in
    let vm = c.bus_section-2.ensures.next in
    omega (arith, columns_are c.args.tables.now.laid, c.requires, va.at, va.length, vm.at, vm.length)

pub generator_section-requires-2-clause-room : goal.generator_section-requires-2-clause-room
generator_section-requires-2-clause-room c =
    let va = c.bus_section.ensures.next in
    let vm = c.bus_section-2.ensures.next in
    let pg = c.generator_section.ensures.next in
    omega (arith, columns_are c.args.tables.now.laid, c.requires, va.at, va.length, vm.at, vm.length, pg.at, pg.length)

pub epigraph_section-requires : goal.epigraph_section-requires
epigraph_section-requires c =
    let va = c.bus_section.ensures.next in
    let vm = c.bus_section-2.ensures.next in
    let pg = c.generator_section.ensures.next in
    let qg = c.generator_section-2.ensures.next in
    omega (arith, columns_are c.args.tables.now.laid, c.requires, va.at, va.length, vm.at, vm.length, pg.at, pg.length, qg.at, qg.length)

pub returns : goal.returns
unfolding column_start va_start vm_start pg_start qg_start epigraph_start vm_lower vm_upper pg_lower pg_upper qg_lower qg_upper
returns c =
    let tables = c.args.tables.now in
    let ws = tables.words.now in
    let xs = tables.numbers.now in
    let n = ap (λ l. l.buses) tables.laid.words.is in
    let k = ap (λ l. l.generators) tables.laid.words.is in
    let va = c.bus_section.ensures.section (λ (bus : Bus). finite_or bus.va zero64) (λ bus r p. search rules) in
    let vm = c.bus_section-2.ensures.section (λ (bus : Bus). clamp_start bus.vm (cond bus.bounded bus.vm_min zero64) (cond bus.bounded bus.vm_max huge64)) (λ bus r p. search rules) in
    let pg = c.generator_section.ensures.section (λ (g : Generator). clamp_start g.pg (cond g.bounded g.p_min (neg huge64)) (cond g.bounded g.p_max huge64)) (λ g r p. search rules) in
    let qg = c.generator_section-2.ensures.section (λ (g : Generator). clamp_start g.qg (cond g.bounded g.q_min (neg huge64)) (cond g.bounded g.q_max huge64)) (λ g r p. search rules) in
    let whole = list_is refl (rw n at va) (rw n at vm) (rw k at pg) (rw k at qg) (rw k at c.epigraph_section.ensures) (omega (arith, start_columns ws xs, c.requires)) in
    let same = c.epigraph_section.ensures.same ∙ qg.same ∙ pg.same ∙ vm.same ∙ va.same in
    search rules
