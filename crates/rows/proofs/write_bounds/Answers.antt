use mathlib.Core.Path.{refl, ◌∙◌}
use borrow.Author.Rules.{rules}
use native.Mathlib.Omega.{arith}
use Rattle.base.proofs.Sections.{filled_ends}
use Rattle.rows.proofs.Steps.{rows_are, bounds_done}
use Rattle.rows.proofs.write_bounds.Goals as goal

pub fill-requires : goal.fill-requires
fill-requires g c =
    let case = c.args.case.now in
    omega (arith, rows_are case.tables.laid case.tallied, c.requires.room)

pub write_angles-requires-clause-room : goal.write_angles-requires-clause-room
write_angles-requires-clause-room g c =
    let case = c.args.case.now in
    let balances = filled_ends _ _ c.fill.ensures in
    omega (arith, rows_are case.tables.laid case.tallied, c.requires.room, balances.at, balances.length)

pub fill-requires-2 : goal.fill-requires-2
fill-requires-2 g c =
    let case = c.args.case.now in
    let balances = filled_ends _ _ c.fill.ensures in
    let angles = c.write_angles.ensures.next in
    omega (arith, rows_are case.tables.laid case.tallied, c.requires.room, balances.at, balances.length, angles.at, angles.length)

pub returns : goal.returns
returns g c f h =
    let case = c.args.case.now in
    let angles = c.write_angles.ensures.bounds f h in
    let whole = bounds_done case.tables.laid case.tallied f c.args.free refl c.requires.room c.fill.ensures angles c.fill-2.ensures in
    let same = c.fill-2.ensures.same ∙ angles.same ∙ c.fill.ensures.same in
    search rules
