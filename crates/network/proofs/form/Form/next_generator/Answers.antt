use mathlib.Core.Path.{refl}
use native.Mathlib.Omega.{arith}
use Rattle.network.proofs.Forms.{cursor_ends, next_standing}
use Rattle.network.proofs.form.Form.next_generator.Goals as goal

pub record_end-requires : goal.record_end-requires
record_end-requires c =
    let laid = c.args.self.now.laid in
    let h = cursor_ends laid c.requires.0 c.requires.1 c.generator_points-points.ensures in omega (arith, laid.few_needed)

pub returns : goal.returns
returns c =
    let laid = c.args.self.now.laid in (next_standing laid c.requires.0 c.requires.1 c.generator_points-points.ensures refl c.record_end.ensures, refl)
