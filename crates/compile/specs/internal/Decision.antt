-- What compile says before it writes.
use Rattle.std.specs.Prelude.{Result, Ok, Err}
use Rattle.base.specs.Fault.{shown}
use Rattle.base.specs.declared.refusal.Refusal.{Refusal}
use Rattle.acopf.specs.declared.case.Case.{Case}
use Rattle.compile.specs.declared.Compiled.{Compiled}
use Rattle.compile.specs.Compile.{Answer, counted, refused}

abbrev pub decision_of : Result (Compiled × Case) Refusal → Answer
decision_of (Ok d) = counted d.0
decision_of (Err r) = refused (shown r)
