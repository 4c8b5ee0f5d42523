use Rattle.network.proofs.word.flag.Goals as goal

pub returns : goal.returns
returns c = rw c.field.ensures
