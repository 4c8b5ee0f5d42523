-- What a lent list holds after the call (document 00, condition 1): the result in its front part and the rest as it was, or all as it was.
use mathlib.Core.Path.{◌≡◌, ap, ◌∙◌}
use mathlib.Core.List.{List, ◌++◌}
use Prim.Native.Nat.{ℕ, ◌≤◌}
use native.Mathlib.Omega.{arith}
use lib.ListN.{length, length-append, length-drop, take, drop}
use lib.Seq.{take_at, drop_at}
use borrow.Author.Tests.{eq-eqb, ne_eqb}
use Rattle.base.specs.Fault.{Fault}
use Rattle.base.specs.Fault.{left}
use Rattle.base.proofs.Firsts.{Clear}

module _ {A : Type 0} (f : Fault) (result before : List A) where
  pub left_refused : (Clear f → ⊥) → left f result before ≡ before
  left_refused h = rw (ne_eqb f.number 0 h)

  left_clear : Clear f → left f result before ≡ result ++ drop (length result) before
  left_clear h = rw (eq-eqb f.number 0 h)

  -- the front part that a count names is the result, and from there on it is as it was
  pub left_front : (count : ℕ) → Clear f → count ≡ length result → take count (left f result before) ≡ result
  left_front count h e = ap (take count) (left_clear h) ∙ take_at result (drop (length result) before) count (rw e)

  pub left_rest : (count : ℕ) → Clear f → count ≡ length result → drop count (left f result before) ≡ drop count before
  left_rest count h e = ap (drop count) (left_clear h) ∙ drop_at result (drop (length result) before) count (rw e) ∙ rw e

  pub left_length : Clear f → length result ≤ length before → length (left f result before) ≡ length before
  left_length h l =
      ap length (left_clear h) ∙ length-append result (drop (length result) before) ∙ omega (arith, length-drop (length result) before)
