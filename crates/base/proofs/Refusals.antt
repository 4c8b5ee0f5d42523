-- Laws of a check's answer: a refusal's number is not 0, and a chain of checks by `?`.
use mathlib.Core.Path.{◌≡◌, refl, ap, sym, ◌∙◌}
use Prim.Native.Nat.{ℕ, ◌+◌, ◌<◌}
use native.Mathlib.Omega.{arith}
use Rattle.base.specs.declared.refusal.Reason.{Reason}
use Rattle.base.specs.declared.refusal.Reason.TheVariants.{Words, Size, Count, Blank, Curve, Shift, Bounds, Spread, Rating, Square, Factor, Short, Point, Swing, Derived, Residual, Model, Row, Value, Tolerance}
use Rattle.base.specs.declared.refusal.Refusal.{Refusal}
use Rattle.base.specs.Refusal.{number_of}
use Rattle.base.specs.Fault.{Fault}
use Rattle.base.specs.Fault.{clear, or_else, first, shown, fault_of}
use Rattle.std.specs.Prelude.{Result}
use Rattle.std.specs.Result.{IsErrAnd}
use Rattle.std.proofs.lemmas.Result.{err_from_is_err_and}
use Rattle.base.proofs.Firsts.{Clear, or_go, or_stop}
use Rattle.base.proofs.Turns.{first_step, first_here}

pub number_positive : (reason : Reason) → 0 < number_of reason
number_positive Words = omega arith
number_positive Size = omega arith
number_positive Count = omega arith
number_positive Blank = omega arith
number_positive Curve = omega arith
number_positive Shift = omega arith
number_positive Bounds = omega arith
number_positive Spread = omega arith
number_positive Rating = omega arith
number_positive Square = omega arith
number_positive Factor = omega arith
number_positive Short = omega arith
number_positive Point = omega arith
number_positive Swing = omega arith
number_positive Derived = omega arith
number_positive Residual = omega arith
number_positive Model = omega arith
number_positive Row = omega arith
number_positive Value = omega arith
number_positive Tolerance = omega arith

-- what a refusal shows is not clear
pub shown_number : (r : Refusal) → Clear (shown r) → ⊥
shown_number r h = let p = number_positive r.reason in omega arith

-- a chain of two: the first refuses, or it does not
pub link_err : (whole a b : Fault) (r : Refusal) → whole ≡ or_else a b → shown r ≡ a → shown r ≡ whole
link_err whole a b r w e = e ∙ sym (w ∙ or_stop a b (λ h. shown_number r (ap (λ (f : Fault). f.number) e ∙ h)))

pub link_ok : (whole a b : Fault) → whole ≡ or_else a b → clear ≡ a → whole ≡ b
link_ok whole a b w e = w ∙ or_go a b (ap (λ (f : Fault). f.number) (sym e))

-- at the exit of a `?`: what is returned shows what the callee's refusal shows
pub exit_shown : {A : Type 0} (r : Result A Refusal) (e : Refusal) → IsErrAnd r (λ y. y ≡ e) → fault_of r ≡ shown e
exit_shown r e h = let p = err_from_is_err_and r h in rw (p.1, p.2)

-- there, where the callee is the first of two
pub link_exit : {A : Type 0} (r : Result A Refusal) (e : Refusal) (whole a b : Fault) → IsErrAnd r (λ y. y ≡ e) → whole ≡ or_else a b → shown e ≡ a
    → fault_of r ≡ whole
link_exit r e whole a b h w q = exit_shown r e h ∙ link_err whole a b e w q

-- a loop of checks: one turn that goes on, and the turn whose check refuses
pub first_pass : (f : ℕ → Fault) (i : ℕ) → Clear (first i f) → clear ≡ f i → Clear (first (i + 1) f)
first_pass f i h e = first_step f i clear h e refl

pub first_exit : {A : Type 0} (r : Result A Refusal) (e : Refusal) (f : ℕ → Fault) (n i : ℕ) → IsErrAnd r (λ y. y ≡ e) → i < n → Clear (first i f) → shown e ≡ f i
    → fault_of r ≡ first n f
first_exit r e f n i x l h q = exit_shown r e x ∙ first_here f n i (shown e) l h q (shown_number e)
