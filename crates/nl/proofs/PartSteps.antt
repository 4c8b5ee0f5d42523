-- Reading parts, objective and end a step at a time, as the code does.
use mathlib.Core.Path.{◌≡◌, refl, ap, sym, ◌∙◌}
use mathlib.Core.List.{List}
use mathlib.Core.Bool.{Bool, true, false, cond}
use Prim.Native.Nat.{ℕ, zero, suc, ◌+◌, ◌-◌, ◌<◌}
use native.Mathlib.Omega.{arith}
use lib.ListN.{length, get_or}
use lib.Dec.{ltb, eqb}
use borrow.Author.Tests.{ltb-true, eqb-true}
use Rattle.std.specs.Prelude.{Option}
use Rattle.base.specs.Word.{kind_of, load_of}
use Rattle.nl.specs.Finder.{found}
use Rattle.nl.specs.File.{depth_limit}
use Rattle.nl.specs.declared.reader.Cursor.{Cursor}
use Rattle.nl.specs.declared.reader.Span.{Span}
use Rattle.nl.specs.declared.reader.Parts.{Parts}
use Rattle.nl.specs.Reader.{Read, wrong, went, stop, span, after, read_expr, is_mark, read_parts, read_last, read_end}

pub both_true : (b c : Bool) → cond b c false ≡ true → (b ≡ true) × (c ≡ true)
both_true true c e = (refl, e)
both_true false c e = absurd (cc)

-- a mark stands inside, and its word has that kind and load
pub marked : (ws : List ℕ) (kind load at : ℕ) → is_mark ws kind load at ≡ true → (at < length ws) × (kind_of (get_or ws at 0) ≡ kind) × (load_of (get_or ws at 0) ≡ load)
unfolding is_mark
marked ws kind load at e =
    let (a, b) = both_true (ltb at (length ws)) _ e in
    let (c, d) = both_true (eqb (kind_of (get_or ws at 0)) kind) _ b in
    (ltb-true at (length ws) a, eqb-true (kind_of (get_or ws at 0)) kind c, eqb-true (load_of (get_or ws at 0)) load d)

pub mark_inside : (ws : List ℕ) (kind load at : ℕ) (ok : Bool) → ok ≡ is_mark ws kind load at → ok ≡ true → at < length ws
mark_inside ws kind load at ok p q = (marked ws kind load at (sym p ∙ q)).0

module _ (ws : List ℕ) (constants columns : ℕ) (named : ℕ → ℕ) (kind r : ℕ) where
  pub no_more : (n i at k : ℕ) (found : Option Span) (ok : Bool) → ok ≡ is_mark ws kind i at → ok ≡ false → read_parts ws constants columns named kind r n i at k found ≡ stop i at k found
  unfolding read_parts
  no_more zero i at k found ok p q = refl
  no_more (suc n) i at k found ok p q = rw (sym p ∙ q)

  pub from_start : (most at k : ℕ) (found : Option Span) → read_parts ws constants columns named kind r most 0 at k found ≡ read_parts ws constants columns named kind r (most - 0) 0 at k found
  from_start most at k found = let z : most - 0 ≡ most = omega arith in rw z

  module _ (most i at k : ℕ) (found : Option Span) (parts : ℕ) (ok : Bool) (x : Read Cursor) (whole : Read Parts) (h : i < most) (p : ok ≡ is_mark ws kind i at) (q : ok ≡ true) (l : parts ≡ named i)
      (e : x ≡ read_expr ws constants columns parts depth_limit (at + 1) k) (w : whole ≡ read_parts ws constants columns named kind r (most - i) i at k found) where
    abbrev go_on : ℕ → ℕ → Read Parts
    go_on a b = read_parts ws constants columns named kind r (most - (i + 1)) (i + 1) a b (cond (eqb i r) (span (at + 1) a) found)

    part : whole ≡ after x go_on
    unfolding read_parts
    part = let z : most - i ≡ suc (most - (i + 1)) = omega arith in w ∙ rw (z, sym p ∙ q, e, l)

    pub part_more : (a b : ℕ) (found' : Option Span) → x ≡ went a b → found' ≡ cond (eqb i r) (span (at + 1) a) found
        → whole ≡ read_parts ws constants columns named kind r (most - (i + 1)) (i + 1) a b found'
    part_more a b found' g u = rw u (part ∙ ap (λ y. after y go_on) g)

    pub part_bad : (bad : ℕ) → x ≡ wrong bad → wrong bad ≡ whole
    part_bad bad g = sym (part ∙ ap (λ y. after y go_on) g)

module _ (ws : List ℕ) (constants columns shared at k : ℕ) (ok : Bool) (p : ok ≡ is_mark ws 12 0 at) where
  pub no_objective : ok ≡ false → wrong at ≡ read_end ws constants columns shared at k
  unfolding read_end
  no_objective q = rw (← p, q)

  pub objective : (r x : Read Cursor) (a b : ℕ) → ok ≡ true → r ≡ read_expr ws constants columns shared depth_limit (at + 1) k → r ≡ went a b → x ≡ read_last ws constants a b → x ≡ read_end ws constants columns shared at k
  unfolding read_end
  objective r x a b q e f g = rw (← p, q, ← e, f) g

  pub objective_wrong : (r : Read Cursor) (a : ℕ) → ok ≡ true → r ≡ read_expr ws constants columns shared depth_limit (at + 1) k → r ≡ wrong a → wrong a ≡ read_end ws constants columns shared at k
  unfolding read_end
  objective_wrong r a q e f = rw (← p, q, ← e, f)
