-- One turn of the passes that count: the definitions with one more.
use mathlib.Core.Path.{◌≡◌, refl, ap, sym, ◌∙◌}
use mathlib.Core.Bool.{Bool, cond, not, ◌&&◌}
use mathlib.Core.List.{List}
use Prim.Native.Nat.{ℕ, ◌+◌, ◌-◌, ◌*◌, ◌≤◌}
use native.Mathlib.Numerals.{add-one}
use native.Mathlib.Omega.{arith}
use lib.Ieee.{Float}
use Rattle.base.specs.Loop.{loop, tally}
use Rattle.std.specs.Prelude.{is_some}
use Rattle.std.specs.Float.Ieee.{lt}
use Rattle.std.specs.Int.{from_bool}
use Rattle.base.proofs.Loops.{bit, tally_bit}
use Rattle.float.specs.Number.{◌⊕◌, zero64}
use Rattle.network.specs.Network.{costs, curved, cost0, angled, rated, epigraphs_before, columns}
use Rattle.network.specs.declared.layout.Layout.{Layout}
use Rattle.network.specs.declared.records.Generator.{Generator}
use Rattle.network.specs.declared.records.Branch.{Branch}
use Rattle.network.specs.Layout.{Laid}
use Rattle.network.specs.internal.Records.{GeneratorRead, BranchRead}
use Rattle.network.specs.Limits.{most_points}
use Rattle.network.proofs.Epigraphs.{epigraphs_next, bit_of, curved_is}
use Rattle.network.proofs.Forms.{rated_is}
use Rattle.acopf.specs.Tallies.{row_segments, segments_before, Tallied, Few}
use Rattle.acopf.specs.declared.tallies.Tallies.{Tallies}

pub tally_none : (t : ℕ → Bool) → tally 0 t ≡ 0
unfolding tally loop
tally_none t = refl

pub tally_next : (t : ℕ → Bool) (i : ℕ) → tally (i + 1) t ≡ tally i t + bit (t i)
tally_next t i = rw add-one (tally_bit i t)

module _ (ws : List ℕ) where
  pub segments_none : segments_before ws 0 ≡ 0
  unfolding segments_before loop
  segments_none = refl

  pub segments_next : (g : ℕ) → segments_before ws (g + 1) ≡ segments_before ws g + row_segments ws g
  unfolding segments_before loop
  segments_next g = rw add-one

  -- the objective constant of the first g generators
  abbrev pub costs_before : List Float → ℕ → Float
  costs_before xs g = loop (λ c j. cond (costs ws && not (curved ws j)) (c ⊕ cost0 ws xs j) c) zero64 g

  pub costs_none : (xs : List Float) → costs_before xs 0 ≡ zero64
  unfolding loop
  costs_none xs = refl

  pub costs_next : (xs : List Float) (g : ℕ) → costs_before xs (g + 1) ≡ cond (costs ws && not (curved ws g)) (costs_before xs g ⊕ cost0 ws xs g) (costs_before xs g)
  unfolding loop
  costs_next xs g = rw add-one

-- ---- the same by what the code holds

module _ {ws : List ℕ} {xs : List Float} {l : Layout} where
  pub epigraphs_turn : {g count r : ℕ} {on : Bool} {p : Generator} → GeneratorRead ws xs l g p → on ≡ is_some p.epigraph → r ≡ from_bool on
      → count ≡ epigraphs_before ws g → count + r ≡ epigraphs_before ws (g + 1)
  epigraphs_turn {g} {count} {r} {on} G o e c =
      let t : on ≡ curved ws g = o ∙ curved_is G in
      rw (epigraphs_next ws g, c, e, t, bit_of (curved ws g))

  pub segments_turn : {g count r : ℕ} {on : Bool} {p : Generator} → GeneratorRead ws xs l g p → on ≡ is_some p.epigraph → r ≡ cond on (p.points - 1) 0
      → count ≡ segments_before ws g → count + r ≡ segments_before ws (g + 1)
  segments_turn {g} {count} {r} {on} G o e c =
      let t : on ≡ curved ws g = o ∙ curved_is G in
      rw (e, t, G.is, c) (sym (segments_next ws g))

  pub costs_turn : {g : ℕ} {sum r : Float} {p : Generator} → Laid ws xs l → GeneratorRead ws xs l g p
      → {on : Bool} → on ≡ is_some p.epigraph → r ≡ cond (l.costs && not on) (sum ⊕ p.cost_0) sum → sum ≡ costs_before ws xs g → r ≡ costs_before ws xs (g + 1)
  costs_turn {g} L G {on} o e c =
      let t : on ≡ curved ws g = o ∙ curved_is G in
      e ∙ rw (t, G.is, ap (λ x. x.costs) L.words.is, c) (sym (costs_next ws xs g))

  pub angles_turn : {b count r : ℕ} {p : Branch} → BranchRead ws xs l b p → r ≡ from_bool p.angled → count ≡ tally b (angled ws)
      → count + r ≡ tally (b + 1) (angled ws)
  angles_turn {b} B e c = rw (tally_next (angled ws) b, c, e, B.is, bit_of (angled ws b))

  pub rated_turn : {b count r : ℕ} {p : Branch} {on : Bool} → BranchRead ws xs l b p → on ≡ (p.limited && lt zero64 p.s_max) → r ≡ from_bool on
      → count ≡ tally b (rated ws xs) → count + r ≡ tally (b + 1) (rated ws xs)
  rated_turn {b} B o e c = rw (tally_next (rated ws xs) b, c, e, o, rated_is B, bit_of (rated ws xs b))

  pub tallied_is : {a r s e : ℕ} → Laid ws xs l → a ≡ tally l.branches (angled ws) → a ≤ l.branches → r ≡ tally l.branches (rated ws xs) → r ≤ l.branches
      → s ≡ segments_before ws l.generators → s ≤ most_points * l.generators → e ≡ epigraphs_before ws l.generators → e ≤ l.generators
      → Tallied ws xs (record { angles = a; rated = r; segments = s; epigraphs = e })
  tallied_is L a la r lr s ls e le =
      let m = ap (λ x. x.branches) L.words.is in
      let k = ap (λ x. x.generators) L.words.is in
      record {
        of_angles = rw m at a;
        of_rated = rw m at r;
        of_segments = rw k at s;
        of_epigraphs = rw k at e;
        few_angles = rw m at la;
        few_rated = rw m at lr;
        few_segments = rw k at ls;
        few_epigraphs = rw k at le;
      }

  pub columns_are : {t : Tallies} → Laid ws xs l → Tallied ws xs t → 2 * l.buses + 2 * l.generators + t.epigraphs ≡ columns ws
  unfolding columns
  columns_are L T = rw (T.of_epigraphs, L.words.is)

  -- the counts in the code's terms
  pub few : {t : Tallies} → Laid ws xs l → Tallied ws xs t → Few l t
  few L T =
      let m = ap (λ x. x.branches) L.words.is in
      let k = ap (λ x. x.generators) L.words.is in
      record {
        angles = omega (arith, T.few_angles, L.words.few_branches);
        rated = omega (arith, T.few_rated, L.words.few_branches);
        segments = omega (arith, T.few_segments, L.words.few_generators);
        epigraphs = omega (arith, T.few_epigraphs);
      }
