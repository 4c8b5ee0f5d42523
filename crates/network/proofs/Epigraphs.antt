-- How many epigraph columns the first generators have, and what a generator's says.
use mathlib.Core.Path.{◌≡◌, refl, sym, ap, ◌∙◌}
use mathlib.Core.Bool.{Bool, true, false}
use mathlib.Core.List.{List}
use Prim.Native.Nat.{ℕ, ◌+◌, ◌*◌, ◌≤◌, ◌<◌}
use native.Mathlib.Numerals.{add-one}
use native.Mathlib.Omega.{arith}
use lib.Ieee.{Float}
use Rattle.std.specs.Prelude.{Some, None, is_some}
use Rattle.std.specs.Bool.{then_some}
use Rattle.std.specs.Int.{from_bool}
use Rattle.std.proofs.lemmas.Option.{none-some, same_Some}
use Rattle.base.specs.Loop.{loop, tally}
use Rattle.base.proofs.Loops.{bit, tally_bit, tally_le, tally_counts}
use Rattle.network.specs.Limits.{most_buses, most_generators}
use Rattle.network.specs.Network.{curved, epigraphs_before, epigraph_column}
use Rattle.network.specs.declared.layout.Layout.{Layout}
use Rattle.network.specs.declared.records.Generator.{Generator}
use Rattle.network.specs.Layout.{LaidWords}
use Rattle.network.specs.internal.Records.{GeneratorRead}

module _ (ws : List ℕ) where
  pub epigraphs_none : epigraphs_before ws 0 ≡ 0
  unfolding epigraphs_before tally loop
  epigraphs_none = refl

  pub epigraphs_next : (g : ℕ) → epigraphs_before ws (g + 1) ≡ epigraphs_before ws g + bit (curved ws g)
  unfolding epigraphs_before
  epigraphs_next g = rw add-one (tally_bit g (curved ws))

  pub epigraphs_le : (g : ℕ) → epigraphs_before ws g ≤ g
  unfolding epigraphs_before
  epigraphs_le g = tally_le g (curved ws)

-- a test as a number
pub bit_of : (b : Bool) → from_bool b ≡ bit b
bit_of true = refl
bit_of false = refl

pub bit_few : (b : Bool) {n : ℕ} → n ≡ from_bool b → n ≤ 1
bit_few true e = omega (arith, e)
bit_few false e = omega (arith, e)

-- the column of the next epigraph: after a generator, at the first one, and that the columns are so few
pub next_column : (ws : List ℕ) (g : ℕ) {h e k : ℕ} {on : Bool} → e ≡ epigraph_column ws g → on ≡ curved ws g → k ≡ from_bool on → h ≡ g + 1
    → e + k ≡ epigraph_column ws h
next_column ws g {on = on} e y f n = rw (n, epigraphs_next ws g, ← y) (omega (arith, e, f ∙ bit_of on))

module _ {ws : List ℕ} {l : Layout} (L : LaidWords ws l) where
  pub first_column : {g : ℕ} → g ≡ 0 → 2 * l.buses + 2 * l.generators ≡ epigraph_column ws g
  first_column e = rw (L.is, e) (omega (arith, epigraphs_none ws))

  pub column_few : {g e : ℕ} → e ≡ epigraph_column ws g → g ≤ l.generators → e ≤ 2 * most_buses + 3 * most_generators
  column_few {g} e h =
      omega (arith, e, h, epigraphs_le ws g, L.few_buses, L.few_generators, ap (λ x. x.buses) L.is, ap (λ x. x.generators) L.is)

then_is_some : {T : Type 0} (b : Bool) (x : T) → is_some (then_some b x) ≡ b
then_is_some true x = refl
then_is_some false x = refl

then_has : {T : Type 0} (b : Bool) {x y : T} → then_some b x ≡ Some y → (b ≡ true) × (y ≡ x)
then_has true {x} {y} e = (refl, sym (same_Some x y e))
then_has false {x} {y} e = absurd (none-some y e)

module _ {ws : List ℕ} {xs : List Float} {l : Layout} {g : ℕ} {r : Generator} (G : GeneratorRead ws xs l g r) where
  -- it has one where it is curved
  pub curved_is : is_some r.epigraph ≡ curved ws g
  curved_is = rw G.is (then_is_some (curved ws g) (epigraph_column ws g))

  pub curved_none : r.epigraph ≡ None → curved ws g ≡ false
  curved_none e = sym curved_is ∙ ap is_some e

  module _ {e : ℕ} (has : r.epigraph ≡ Some e) where
    pub curved_some : curved ws g ≡ true
    curved_some = sym curved_is ∙ ap is_some has

    pub epigraph_is : e ≡ epigraph_column ws g
    epigraph_is = (then_has (curved ws g) (rw G.is at has)).1

    pub epigraph_fits : LaidWords ws l → g < l.generators → e < 2 * l.buses + 2 * l.generators + epigraphs_before ws l.generators
    unfolding epigraphs_before
    epigraph_fits L h =
        omega (arith, epigraph_is, tally_counts g l.generators (curved ws) curved_some h, ap (λ x. x.buses) L.is, ap (λ x. x.generators) L.is)

    pub epigraph_few : LaidWords ws l → g < l.generators → e < 2 * most_buses + 3 * most_generators
    epigraph_few L h =
        omega (arith, epigraph_is, epigraphs_le ws g, L.few_buses, L.few_generators, ap (λ x. x.buses) L.is, ap (λ x. x.generators) L.is)
