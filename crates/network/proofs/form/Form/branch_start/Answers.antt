use Rattle.network.proofs.Forms.{branch_start}
use native.Mathlib.Omega.{arith}
use Rattle.network.proofs.form.Form.branch_start.Goals as goal

pub returns : goal.returns
returns c = let laid = c.args.self.now.laid in (branch_start laid c.args.b, omega (arith, laid.few_needed, c.requires))
