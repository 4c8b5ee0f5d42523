-- From what factor_fault holds to the parts of refusal 11.
use mathlib.Core.Path.{◌≡◌, refl, ap, ◌∙◌}
use mathlib.Core.Bool.{cond, not, ◌&&◌}
use mathlib.Core.List.{List, [], ◌∷◌}
use Prim.Native.Nat.{ℕ, ◌+◌, ◌-◌, ◌*◌}
use native.Mathlib.Nat.{add-zero}
use native.Mathlib.Omega.{arith}
use lib.Dec.{eqb}
use lib.Ieee.{Float}
use lib.ListN.{length}
use Rattle.base.specs.Fault.{or_else, first}
use Rattle.base.specs.Loop.{loop, tally}
use Rattle.base.specs.Refusal.{FACTOR}
use Rattle.lists.specs.internal.From.{non_finite_from}
use Rattle.base.proofs.Firsts.{Clear}
use Rattle.tables.specs.Fault.{fault_tables}
use Rattle.network.specs.Layout.{Laid}
use Rattle.network.specs.declared.layout.Layout.{Layout}
use Rattle.network.specs.Network.{buses, branches, rated}
use Rattle.tables.proofs.Right.{words_clear}
use Rattle.acopf.specs.Factor.{constants64}
use Rattle.acopf.specs.Model.{objective_constant}
use Rattle.acopf.specs.Tallies.{Tallied}
use Rattle.acopf.specs.declared.tallies.Tallies.{Tallies}
use Rattle.factor.specs.internal.NonFinite.{non_finite, epigraphs_factor}
use Rattle.acopf.proofs.Sizes.{objective_constants, count_of_constants}

module _ (ws : List ℕ) (xs : List Float) {l : Layout} {t : Tallies} (L : Laid ws xs l) (T : Tallied ws xs t) where
  abbrev first_slope : ℕ
  first_slope = 4 * buses ws + 16 * branches ws + 2 * tally (branches ws) (rated ws xs)

  -- the place of the first slope
  pub place_is : 4 * l.buses + 16 * l.branches + 2 * t.rated ≡ first_slope
  place_is = rw (T.of_rated, L.words.is)

  -- the objective constant's place is the number of constants
  pub count_is : Clear (fault_tables ws xs) → {start own : ℕ} → start ≡ first_slope → own ≡ cond (l.costs && not (eqb l.generators 0)) (2 * (l.generators - t.epigraphs)) 1
      → start + 2 * t.segments + own ≡ length (constants64 ws xs)
  unfolding objective_constants
  count_is right {start} {own} s o =
      let same : own ≡ objective_constants ws = o ∙ rw (T.of_epigraphs, L.words.is) in
      omega (arith, T.of_segments, count_of_constants ws xs (words_clear ws xs right))

pub later_at : (ws : List ℕ) (xs : List Float) {a b : ℕ} → a ≡ b
    → or_else (non_finite (objective_constant ws xs) a) (epigraphs_factor ws xs (a + 1)) ≡ or_else (non_finite (objective_constant ws xs) b) (epigraphs_factor ws xs (b + 1))
later_at ws xs e = ap (λ p. or_else (non_finite (objective_constant ws xs) p) (epigraphs_factor ws xs (p + 1))) e

-- two numbers, one after the other
pub pair_is : (x y : Float) (place : ℕ) → non_finite_from FACTOR place (x ∷ y ∷ []) ≡ or_else (non_finite x place) (non_finite y (place + 1))
unfolding non_finite_from first loop or_else
pair_is x y place = rw (add-zero place) refl
