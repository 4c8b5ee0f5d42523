use Rattle.std.proofs.Common.{rules, refl}
use Rattle.little_endian.proofs.records.RecordsIterator.next.Goals as goal

pub returns-clause-steps : goal.returns-clause-steps
returns-clause-steps g c = (refl, (refl, (c.in_ok-size.size, c.in_ok-size.ensures, search rules)))
