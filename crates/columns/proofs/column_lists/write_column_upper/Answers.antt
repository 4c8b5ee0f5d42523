use mathlib.Core.Path.{refl, ap, ◌∙◌}
use mathlib.Core.Bool.{cond}
use borrow.Author.Rules.{rules}
use native.Mathlib.Omega.{arith}
use Rattle.bounds.specs.Bounds.{huge64}
use Rattle.base.proofs.Sections.{table_value, filled_ends}
use Rattle.network.specs.declared.records.Bus.{Bus}
use Rattle.network.specs.declared.records.Generator.{Generator}
use Rattle.acopf.specs.Columns.{vm_upper, pg_upper, qg_upper, column_upper}
use Rattle.acopf.proofs.Counts.{upper_columns}
use Rattle.columns.proofs.Front.{columns_are, epigraphs_are, list_is}
use Rattle.columns.proofs.column_lists.write_column_upper.Goals as goal

pub fill-requires : goal.fill-requires
fill-requires c = omega (arith, columns_are c.args.case.now.tables.laid, c.requires)

pub bus_section-requires-clause-room : goal.bus_section-requires-clause-room
bus_section-requires-clause-room c =
    let va = filled_ends _ _ c.fill.ensures in
    omega (arith, columns_are c.args.case.now.tables.laid, c.requires, va.at, va.length)

pub generator_section-requires-clause-room : goal.generator_section-requires-clause-room
generator_section-requires-clause-room c =
    let va = filled_ends _ _ c.fill.ensures in
    let vm = c.bus_section.ensures.next in
    omega (arith, columns_are c.args.case.now.tables.laid, c.requires, va.at, va.length, vm.at, vm.length)

pub generator_section-requires-2-clause-room : goal.generator_section-requires-2-clause-room
generator_section-requires-2-clause-room c =
    let va = filled_ends _ _ c.fill.ensures in
    let vm = c.bus_section.ensures.next in
    let pg = c.generator_section.ensures.next in
    omega (arith, columns_are c.args.case.now.tables.laid, c.requires, va.at, va.length, vm.at, vm.length, pg.at, pg.length)

pub fill-requires-2 : goal.fill-requires-2
fill-requires-2 c =
    let case = c.args.case.now in
    let va = filled_ends _ _ c.fill.ensures in
    let vm = c.bus_section.ensures.next in
    let pg = c.generator_section.ensures.next in
    let qg = c.generator_section-2.ensures.next in
    omega (arith, columns_are case.tables.laid, epigraphs_are case.tables.laid case.tallied, c.requires, va.at, va.length, vm.at, vm.length, pg.at, pg.length, qg.at, qg.length)

pub returns : goal.returns
unfolding column_upper vm_upper pg_upper qg_upper
returns c =
    let case = c.args.case.now in
    let ws = case.tables.words.now in
    let xs = case.tables.numbers.now in
    let n = ap (λ l. l.buses) case.tables.laid.words.is in
    let k = ap (λ l. l.generators) case.tables.laid.words.is in
    let vm = c.bus_section.ensures.section (λ (bus : Bus). cond bus.bounded bus.vm_max huge64) (λ bus r p. search rules) in
    let pg = c.generator_section.ensures.section (λ (g : Generator). cond g.bounded g.p_max huge64) (λ g r p. search rules) in
    let qg = c.generator_section-2.ensures.section (λ (g : Generator). cond g.bounded g.q_max huge64) (λ g r p. search rules) in
    let whole = list_is refl (rw (← table_value case.tables.layout.buses huge64, n) at c.fill.ensures) (rw n at vm) (rw k at pg) (rw k at qg)
    (rw (← table_value case.tallies.epigraphs huge64, epigraphs_are case.tables.laid case.tallied, k) at c.fill-2.ensures)
    (omega (arith, upper_columns ws xs, c.requires)) in
    let same = c.fill-2.ensures.same ∙ qg.same ∙ pg.same ∙ vm.same ∙ c.fill.ensures.same in
    search rules
