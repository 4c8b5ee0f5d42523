use mathlib.Core.Path.{refl, sym, ap, ◌∙◌}
use Prim.Native.Nat.{◌≤◌}
use native.Mathlib.Omega.{arith}
use lib.Seq.{length-take-le}
use lib.ListN.{length}
use Rattle.base.proofs.Sections.{wrote_length}
use Rattle.depot_text.specs.Text.{output}
use Rattle.depot_text.proofs.Writes.{wrote_ends, wrote_take}
use Rattle.depot_text.proofs.Texts.{output_fits, answered_short, answered_written}
use Rattle.depot_text.proofs.answer.depot.Goals as goal

pub returns-then-text-n : goal.returns-then-text-n
returns-then-text-n c = answered_short c.args.input.now c.args.text.now (omega (arith, wrote_ends c.write_output-n.ensures, c.if-text-n.true))

pub slice_bounds-space-end : goal.slice_bounds-space-end
slice_bounds-space-end c =
    let written = c.write_output-n.ensures in
    omega (arith, wrote_ends written, output_fits c.args.input.now, wrote_length written)

pub slice_bounds-copy_from_slice-end-3 : goal.slice_bounds-copy_from_slice-end-3
slice_bounds-copy_from_slice-end-3 c =
    let written = c.write_output-n.ensures in
    sym (length-take-le _ _ (omega (arith, wrote_ends written, output_fits c.args.input.now, wrote_length written)))

pub copy_from_slice-requires : goal.copy_from_slice-requires
copy_from_slice-requires c =
    let written = c.write_output-n.ensures in
    length-take-le _ _ c.if-text-n.false ∙ wrote_ends written ∙ sym (ap length (wrote_take written (output_fits c.args.input.now)))

pub returns : goal.returns
returns c =
    let written = c.write_output-n.ensures in
    let n = c.write_output-n.result in
    let whole = wrote_take written (output_fits c.args.input.now) in
    let fits : length (output c.args.input.now) ≤ length c.args.text.now = omega (arith, wrote_ends written, c.if-text-n.false) in
    answered_written c.args.input.now c.args.text.now _ _ _ whole (wrote_ends written ∙ sym (ap length whole)) (rw whole fits) (rw c.copy_from_slice.ensures.after refl)
