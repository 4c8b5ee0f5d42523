use mathlib.Core.Path.{◌∙◌}
use Rattle.factor.proofs.Chain.{pair_is}
use Rattle.factor.proofs.factor.segment_fault.Goals as goal

pub returns : goal.returns
returns c = c.first_non_finite.ensures ∙ pair_is c.args.segment.slope c.args.segment.intercept c.args.place
