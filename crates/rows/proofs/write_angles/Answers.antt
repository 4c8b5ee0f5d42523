use Prim.Native.Nat.{◌+◌}
use native.Mathlib.Omega.{arith}
use mathlib.Core.Path.{◌≡◌, refl, ◌∙◌}
use Rattle.base.proofs.Loops.{length_keep, tally_up}
use Rattle.base.proofs.Sections.{added_length}
use Rattle.acopf.proofs.Tallied.{tally_none}
use Rattle.network.specs.Network.{angled}
use Rattle.rows.proofs.Steps.{angles_none, angles_place, angles_turn}
use Rattle.rows.proofs.write_angles.Goals as goal

pub loop-b-init : goal.loop-b-init
loop-b-init g c = (refl, omega (arith, tally_none (angled c.args.tables.now.words.now)), λ f h. angles_none _ _ f _)

pub push_if-requires : goal.push_if-requires
push_if-requires g c =
    let inv = c.loop-b.invariant in
    let up = tally_up (c.loop-b.b + 1) c.args.tables.now.layout.branches (angled c.args.tables.now.words.now) (omega arith) in
    omega (arith, c.requires.room, inv.0, inv.1, up, angles_place c.branch-branch.ensures)

pub loop-b-preserved : goal.loop-b-preserved
loop-b-preserved g c =
    let inv = c.loop-b.invariant in
    let read = c.branch-branch.ensures in
    let push = c.push_if.ensures in (
      added_length push ∙ inv.0,
      omega (arith, push.wrote.follows, length_keep c.branch-branch.result.angled c.angle.result, inv.1, angles_place read),
      λ f h. angles_turn read f (h _ _ c.angle.ensures) (inv.2 f h) push,
    )

pub returns-clause-bounds : goal.returns-clause-bounds
returns-clause-bounds g c f h =
    let e : c.loop-b.b ≡ c.args.tables.now.layout.branches = omega arith in
    rw e at (c.loop-b.invariant.2 f h)

pub returns-clause-next : goal.returns-clause-next
returns-clause-next g c =
    let inv = c.loop-b.invariant in
    let e : c.loop-b.b ≡ c.args.tables.now.layout.branches = omega arith in
    record { at = rw e at inv.1; length = inv.0 }
