use native.Mathlib.Omega.{arith}
use mathlib.Core.Path.{◌≡◌, sym}
use Rattle.network.proofs.Epigraphs.{bit_few}
use Rattle.acopf.proofs.Tallied.{tally_none, angles_turn, rated_turn}
use Rattle.acopf.proofs.tallies.branch_tallies.Goals as goal

pub loop-b-init : goal.loop-b-init
loop-b-init c = (omega arith, omega arith, sym (tally_none _), sym (tally_none _))

pub overflow_add-angles : goal.overflow_add-angles
overflow_add-angles c =
    omega (arith, c.args.tables.now.laid.words.few_branches, c.loop-b.auto.b-end, c.loop-b.invariant.0, bit_few _ c.from-angles.ensures)

pub overflow_add-ratings : goal.overflow_add-ratings
overflow_add-ratings c =
    omega (arith, c.args.tables.now.laid.words.few_branches, c.loop-b.auto.b-end, c.loop-b.invariant.1, bit_few _ c.from-ratings.ensures)

pub loop-b-preserved : goal.loop-b-preserved
loop-b-preserved c =
    let inv = c.loop-b.invariant in
    let read = c.branch-branch.ensures in (
      omega (arith, bit_few _ c.from-angles.ensures, inv.0),
      omega (arith, bit_few _ c.from-ratings.ensures, inv.1),
      angles_turn read c.from-angles.ensures inv.2,
      rated_turn read c.rated.ensures c.from-ratings.ensures inv.3,
    )

pub returns : goal.returns
returns c =
    let inv = c.loop-b.invariant in
    let e : c.loop-b.b ≡ c.args.tables.now.layout.branches = omega (arith, c.loop-b-test.false, c.loop-b.auto.b-end) in
    rw (← e) (inv.2, inv.0, inv.3, inv.1)
