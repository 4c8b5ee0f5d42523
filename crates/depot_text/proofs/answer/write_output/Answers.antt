use Rattle.std.proofs.Common.{rules}
use Rattle.depot_text.proofs.answer.write_output.Goals as goal

pub returns : goal.returns
returns c =
    let whole = c.put_output.ensures.wrote in
    let same = c.put_output.ensures.same in
    search rules
