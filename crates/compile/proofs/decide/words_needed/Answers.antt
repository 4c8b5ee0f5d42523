use Rattle.compile.proofs.Needed.{words_are}
use Rattle.compile.proofs.decide.words_needed.Goals as goal

pub returns : goal.returns
returns c = let clear = c.args.clear.now in words_are clear.case.tables.laid clear.case.tallied clear.clear c.objective_words-objective.ensures.0
