use Rattle.network.proofs.Forms.{reference_read}
use Rattle.network.proofs.form.Form.reference.Goals as goal

pub returns : goal.returns
returns c = reference_read c.args.self.now.laid c.requires c.reference_bus.ensures
