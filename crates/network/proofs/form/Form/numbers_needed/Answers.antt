use Rattle.network.proofs.Forms.{needed_is}
use Rattle.network.proofs.form.Form.numbers_needed.Goals as goal

pub returns : goal.returns
returns c = needed_is c.args.self.now.laid
