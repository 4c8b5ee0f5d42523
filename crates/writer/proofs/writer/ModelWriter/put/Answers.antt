use mathlib.Core.Path.{refl}
use Rattle.base.proofs.Sections.{wrote_mid}
use Rattle.writer.proofs.Tokens.{bits_same}
use Rattle.writer.proofs.writer.ModelWriter.put.Goals as goal

pub returns : goal.returns
returns c =
    record {
      words = wrote_mid _ _ c.copy_from_slice.ensures.after c.requires.words;
      numbers = rw (bits_same _ c.type_inv.numbers) (wrote_mid _ _ c.copy_from_slice-2.ensures.after c.requires.numbers);
      parts = refl;
      same_words = refl;
      same_constants = refl;
    }
