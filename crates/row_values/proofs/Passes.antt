-- One part: its fault by what was worked out, and its value and fault by its place. And what follows where there are too many shared parts.
use mathlib.Core.Path.{◌≡◌, refl, ap, sym, ◌∙◌}
use mathlib.Core.List.{List}
use mathlib.Core.Bool.{Bool, true, false, cond}
use Prim.Native.Nat.{ℕ, zero, suc, ◌+◌, ◌-◌, ◌≤◌, ◌<◌}
use native.Mathlib.Omega.{arith}
use lib.ListN.{length}
use lib.Ieee.{Float}
use borrow.Author.Tests.{lt-ltb}
use Rattle.std.specs.Prelude.{Option, Result, Ok, Err}
use Rattle.std.specs.Result.{result_and}
use Rattle.base.specs.declared.refusal.Refusal.{Refusal}
use Rattle.base.specs.Fault.{Fault, fault, clear, unless, or_else, shown, fault_of}
use Rattle.base.specs.Refusal.{SWING, VALUE}
use Rattle.base.proofs.Firsts.{Proper, or_stop, unless_proper}
use Rattle.base.proofs.Refusals.{shown_number}
use Rattle.float.specs.Number.{is_finite}
use Rattle.nl.specs.declared.reader.Cursor.{Cursor}
use Rattle.nl.specs.declared.reader.Parts.{Parts}
use Rattle.nl.specs.declared.reader.Span.{Span}
use Rattle.nl.specs.File.{depth_limit}
use Rattle.nl.specs.Reader.{Read, stop, after, read_expr, is_mark, read_parts}
use Rattle.nl.proofs.PartSteps.{mark_inside}
use Rattle.model_reading.specs.Parse.{part}
use Rattle.model_reading.specs.Reading.{shared_limit}
use Rattle.expression.specs.declared.Scanned.{Scanned}
use Rattle.expression.specs.Value.{patterns}
use Rattle.expression.specs.internal.Scan.{Reads, evaluated, worth}
use Rattle.row_values.specs.Answer.{refused_value, value_fault}
use Rattle.row_values.specs.internal.Run.{scanned_fault, part_value, part_fault, TooMany}

-- ---- the first refusal so far, and one part's

-- 14 refuses, or it does not
pub swings : (ranged : Bool) (v : Float) (at : ℕ) (r : Refusal) → shown r ≡ unless ranged (fault SWING at) → shown r ≡ refused_value ranged v at
unfolding unless
swings true v at r e = absurd (shown_number r (ap (λ (f : Fault). f.number) e))
swings false v at r e = e

pub spared : (ranged : Bool) (v : Float) (at : ℕ) (f : Fault) → clear ≡ unless ranged (fault SWING at) → f ≡ unless (is_finite v) (fault VALUE at) → f ≡ refused_value ranged v at
unfolding unless
spared true v at f e h = h
spared false v at f e h = absurd (omega (arith, ap (λ (f : Fault). f.number) e))

abbrev pub Verdict : Type 0
Verdict = Result (Unit {0}) Refusal

-- one verdict after another
pub then_fault : (v a b : Verdict) (f : Fault) → v ≡ result_and a b → fault_of b ≡ f → fault_of v ≡ or_else (fault_of a) f
unfolding or_else
then_fault v (Ok x) b f e h = ap (λ z. fault_of z) e ∙ h
then_fault v (Err r) b f e h = ap (λ z. fault_of z) e ∙ sym (or_stop (shown r) f (shown_number r))

-- a fault whose number is 0 has place 0
pub verdict_proper : {A : Type 0} (a : Result A Refusal) → Proper (fault_of a)
verdict_proper (Ok x) h = refl
verdict_proper (Err r) h = absurd (shown_number r h)

pub refused_proper : (ranged : Bool) (v : Float) (at : ℕ) → Proper (refused_value ranged v at)
refused_proper true v at = unless_proper (is_finite v) VALUE at (omega arith)
refused_proper false v at = λ z. absurd (omega arith)

module _ (ws : List ℕ) (xs point : List Float) where
  -- ---- a part that was scanned, by its place

  module _ (values : List Float) (at k : ℕ) (s : Scanned) (h : at < length ws) (p : Reads ws xs point values depth_limit (at + 1) k s) where
    is_part : worth s ≡ evaluated point values (part ws (patterns xs) at)
    unfolding part
    is_part = rw (lt-ltb at (length ws) h) (sym p.is)

    pub part_value_is : s.value ≡ part_value ws xs point values at
    part_value_is = ap (λ w. w.its) is_part

    pub part_end : s.end.at ≡ (part ws (patterns xs) at).end
    part_end = ap (λ w. w.end) is_part

    pub part_fault_is : scanned_fault s at ≡ part_fault ws xs point values at
    unfolding value_fault
    part_fault_is = ap (λ w. cond w.spared (unless (is_finite w.its) (fault VALUE at)) (fault SWING at)) is_part

  -- ---- too many shared parts

  abbrev shared_from : ℕ → ℕ → ℕ → ℕ → Option Span → Read Parts
  shared_from = read_parts ws (length xs) (length point) (λ j. j) 10 shared_limit

  one_more_is : (x : Read Cursor) (f : ℕ → ℕ → Read Parts) → ((a b : ℕ) → TooMany ws xs point (f a b)) → TooMany ws xs point (after x f)
  one_more_is (Ok c) f h = h c.at c.next
  one_more_is (Err w) f h = tt

  either : (b : Bool) (p q : Read Parts) → TooMany ws xs point p → TooMany ws xs point q → TooMany ws xs point (cond b p q)
  either true p q h k = h
  either false p q h k = k

  -- the count never falls
  counts_up : (n i at k : ℕ) (found : Option Span) → shared_limit < i → TooMany ws xs point (shared_from n i at k found)
  unfolding read_parts
  counts_up zero i at k found h = h
  counts_up (suc n) i at k found h =
      either (is_mark ws 10 i at) _ (stop i at k found)
      (one_more_is (read_expr ws (length xs) (length point) i depth_limit (at + 1) k) _ (λ a b. counts_up n (i + 1) a b _ (omega arith)))
      h

  -- a shared part begins after as many as may be worked out
  pub too_many : (i at k : ℕ) (found : Option Span) (ok : Bool) (whole : Read Parts) → i ≤ at → shared_limit ≤ i → ok ≡ is_mark ws 10 i at → ok ≡ true
      → whole ≡ shared_from (length ws - i) i at k found → TooMany ws xs point whole
  unfolding read_parts
  too_many i at k found ok whole l h m t w =
      let inside = mark_inside ws 10 i at ok m t in
      let z : length ws - i ≡ suc (length ws - (i + 1)) = omega arith in
      rw (w, z, sym m ∙ t)
      (one_more_is (read_expr ws (length xs) (length point) i depth_limit (at + 1) k) _ (λ a b. counts_up (length ws - (i + 1)) (i + 1) a b _ (omega arith)))
