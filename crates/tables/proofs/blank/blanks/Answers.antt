use mathlib.Core.Path.{◌∙◌}
use Rattle.tables.proofs.Steps.{blanks_are}
use Rattle.tables.proofs.blank.blanks.Goals as goal

pub returns : goal.returns
returns c = c.first_non_finite.ensures ∙ blanks_are _ _ _ c.requires
