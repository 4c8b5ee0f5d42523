-- `nl::row_span` meets its contract: the part lies inside the words.
use native.Mathlib.Omega.{arith}
use Rattle.std.proofs.lemmas.Grind.{common_steps}
use Rattle.nl.proofs.Finds.{inside_words}
use Rattle.nl.proofs.row_span.Goals as goal

pub returns-clause-inside : goal.returns-clause-inside
returns-clause-inside c = inside_words _ c.args.constants c.args.columns c.args.r _ (grind (arith, common_steps))
