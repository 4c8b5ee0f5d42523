use mathlib.Core.Path.{refl}
use Rattle.network.proofs.Forms.{first_standing}
use Rattle.network.proofs.form.Form.first_generator.Goals as goal

pub returns : goal.returns
returns c = (first_standing c.args.self.now.laid refl refl, refl)
