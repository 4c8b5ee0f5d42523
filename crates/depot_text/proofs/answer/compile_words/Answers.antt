use Rattle.depot_text.proofs.answer.compile_words.Goals as goal

pub returns : goal.returns
returns c =
    let lent = c.requires in
    (rw lent at c.compile.ensures.0, rw lent at c.compile.ensures.1.words)
