-- Laws of writers: a loop of writers from the list's first place on, and what the list then holds.
use mathlib.Core.Path.{◌≡◌, sym, ap, subst, ◌∙◌}
use mathlib.Core.List.{List, [], ◌∷◌, ◌++◌}
use Prim.Native.Nat.{ℕ, ◌+◌, ◌≤◌}
use native.Mathlib.Nat.{zero-add}
use native.Mathlib.Numerals.{add-one}
use lib.ListN.{length, drop, take, set}
use lib.Seq.{take_at, length-sets}
use Rattle.base.specs.Loop.{loop, table}
use Rattle.base.specs.internal.Section.{Wrote}
use Rattle.base.proofs.Sections.{wrote_none, wrote_one, then, wrote_front}

module _ {A : Type 0} where
  pub wrote_more : {l m part : List A} {at k : ℕ} (w : A) → Wrote l at part m k → Wrote l at (part ++ (w ∷ [])) (set m k w) (k + 1)
  wrote_more w p = then p (wrote_one _ _ w)

  -- ---- one element a turn

  pub table_none : (l : List A) (f : ℕ → A) → Wrote l 0 (table 0 f) l 0
  unfolding loop table
  table_none l f = wrote_none l 0

  pub table_step : {l m : List A} {i : ℕ} (f : ℕ → A) (w : A) → w ≡ f i → Wrote l 0 (table i f) m i → Wrote l 0 (table (i + 1) f) (set m i w) (i + 1)
  unfolding loop table
  table_step {l} {m} {i} f w e p =
      subst (λ n. Wrote l 0 (table n f) (set m i w) (i + 1)) (sym (add-one i)) (rw e (wrote_more (f i) p))

  -- ---- from the list's first place on

  pub wrote_ends : {l l' part : List A} {k : ℕ} → Wrote l 0 part l' k → k ≡ length part
  wrote_ends {l} {l'} {part} p = p.follows ∙ zero-add (length part)

  pub wrote_take : {l l' part : List A} {k : ℕ} → Wrote l 0 part l' k → length part ≤ length l → take k l' ≡ part
  wrote_take {l} {l'} {part} {k} p h = ap (take k) (wrote_front p h) ∙ take_at part (drop (length part) l) k (sym (wrote_ends p))
