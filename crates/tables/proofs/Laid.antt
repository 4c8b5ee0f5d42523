-- What 1 to 10 leave: the network is laid out, and every index of code that follows them is in range.
use mathlib.Core.Path.{◌≡◌, refl, sym, ◌∙◌}
use mathlib.Core.Bool.{Bool, true, false, cond}
use mathlib.Core.List.{List}
use Prim.Native.Nat.{ℕ}
use lib.Dec.{eqb}
use lib.ListN.{length}
use lib.Ieee.{Float}
use Rattle.base.proofs.Firsts.{Clear, or_left, or_right}
use Rattle.base.specs.Fault.{or_else}
use Rattle.base.specs.Fault.{Fault}
use Rattle.float.specs.Doubles.{Doubles}
use Rattle.network.specs.Fault.{fault_count, words_fault, form_fault}
use Rattle.tables.specs.Fault.{fault_blank, fault_curve, fault_shift, fault_bounds, fault_branches, fault_tables}
use Rattle.network.specs.declared.layout.Layout.{Layout}
use Rattle.network.specs.Layout.{layout_of, LaidWords, Laid}
use Rattle.network.proofs.Forms.{laid_words, laid_form}

or_assoc : (f g h : Fault) → or_else (or_else f g) h ≡ or_else f (or_else g h)
unfolding or_else
or_assoc f g h = go (eqb f.number 0) refl
  where
    go : (t : Bool) → eqb f.number 0 ≡ t → cond (eqb (cond t g f).number 0) h (cond t g f) ≡ cond t (cond (eqb g.number 0) h g) f
    go true e = refl
    go false e = rw e

pub tables_form : (ws : List ℕ) (xs : List Float) → fault_tables ws xs
    ≡ or_else (form_fault ws (length xs)) (or_else (fault_blank ws xs) (or_else (fault_curve ws xs) (or_else (fault_shift ws xs) (or_else (fault_bounds ws xs) (fault_branches ws xs)))))
unfolding fault_tables form_fault words_fault fault_count
tables_form ws xs = sym (or_assoc _ _ _ ∙ or_assoc _ _ _)

module _ (ws : List ℕ) (xs : List Float) where
  pub words_laid : Clear (fault_tables ws xs) → LaidWords ws (layout_of ws)
  unfolding fault_tables
  words_laid h = laid_words ws (or_left _ _ h) (or_left _ _ (or_right _ _ h)) refl

  pub laid : Clear (fault_tables ws xs) → Doubles xs → {l : Layout} → l ≡ layout_of ws → Laid ws xs l
  unfolding fault_tables
  laid h D e =
      let h1 = or_right _ _ h in
      laid_form ws xs (or_left _ _ h) (or_left _ _ h1) (or_left _ _ (or_right _ _ h1)) D e
