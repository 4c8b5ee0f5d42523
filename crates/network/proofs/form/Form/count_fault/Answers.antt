use Rattle.network.proofs.form.Form.count_fault.Goals as goal

pub returns : goal.returns
returns c = rw c.numbers_needed-needed.ensures at c.unless.ensures
