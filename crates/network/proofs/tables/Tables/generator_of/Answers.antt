use mathlib.Core.Path.{refl}
use native.Mathlib.Omega.{arith}
use Rattle.network.proofs.Forms.{cursor_fits, generator_read}
use Rattle.network.proofs.tables.Tables.generator_of.Goals as goal

pub generator_at-requires : goal.generator_at-requires
generator_at-requires c =
    omega (arith, cursor_fits c.args.self.now.laid c.requires.0 c.requires.1 c.generator_points-points.ensures)

pub returns : goal.returns
returns c =
    let laid = c.args.self.now.laid in
    let h = c.requires.1 in
    let some = rw c.form.ensures.1 at c.has_epigraph.ensures in
    let is =
    generator_read laid c.args.epigraph c.requires.0 c.generator_bus.ensures c.generator_bounded.ensures
    c.generator_points-points.ensures some c.then_some.ensures c.generator_at.ensures in
    rw is (record {
      is = refl;
      bus = laid.words.generator_bus_is c.args.cursor.index h;
      points = laid.words.few_points c.args.cursor.index h;
      curve = laid.generator_fits c.args.cursor.index h;
    })
