use mathlib.Core.Path.{refl}
use Rattle.base.proofs.Sections.{wrote_mid}
use Rattle.base.proofs.section.ListWriter.put.Goals as goal

pub returns : goal.returns
returns g c = record { wrote = wrote_mid _ _ c.copy_from_slice.ensures.after c.requires; same = refl }
