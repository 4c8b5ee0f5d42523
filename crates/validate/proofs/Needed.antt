-- The length of the outputs, whether the network is refused or not.
use mathlib.Core.Path.{◌≡◌, sym, ◌∙◌}
use mathlib.Core.List.{List}
use Prim.Native.Nat.{ℕ, ◌+◌, ◌*◌}
use lib.Ieee.{Float}
use Rattle.std.specs.Prelude.{Result, Ok, Err, IfOk, MatchResult}
use Rattle.base.specs.declared.refusal.Refusal.{Refusal}
use Rattle.base.specs.Fault.{fault_of}
use Rattle.base.proofs.Refusals.{shown_number}
use Rattle.acopf.specs.Factor.{network_fault}
use Rattle.factor.specs.declared.clear.Clear.{Clear}
use Rattle.validate.specs.Check.{outputs_needed}
use Rattle.validate.proofs.Entry.{needed_refused, needed_is}

pub needed : (ws : List ℕ) (xs : List Float) (r : Result Clear Refusal) (n : ℕ) {Q : Clear → Type 0} → fault_of r ≡ network_fault ws xs
    → IfOk r (λ c. c.case.tables.words.now ≡ ws) → IfOk r (λ c. c.case.tables.numbers.now ≡ xs)
    → ((c : Clear) → Q c → n ≡ 2 * c.case.tables.layout.buses + 4 * c.case.tables.layout.branches) → MatchResult r Q (λ _. n ≡ 0) → n ≡ outputs_needed ws xs
needed ws xs (Ok c) n f w x q m = q c m ∙ needed_is ws xs (sym f) (rw (w, x) at c.case.tables.laid)
needed ws xs (Err e) n f w x q m = m ∙ needed_refused ws xs (f, shown_number e)
