-- The walk over the generators: what they cost, added one after the other, and the largest so far of residual 7.
use mathlib.Core.Path.{◌≡◌, sym, ap, ◌∙◌}
use mathlib.Core.Bool.{true, false}
use mathlib.Core.List.{List}
use Prim.Native.Nat.{ℕ, ◌+◌, ◌-◌}
use native.Mathlib.Numerals.{add-one}
use lib.Ieee.{Float}
use Rattle.std.specs.Prelude.{Some, None}
use Rattle.base.specs.Loop.{loop}
use Rattle.float.specs.Number.{◌⊕◌, ◌⊖◌, ◌⊗◌, zero64, half64, maximum}
use Rattle.network.specs.Network.{generators, curved, number}
use Rattle.network.specs.declared.layout.Layout.{Layout}
use Rattle.network.specs.declared.records.Generator.{Generator}
use Rattle.network.specs.Layout.{Laid}
use Rattle.network.specs.internal.Records.{GeneratorRead}
use Rattle.piecewise_cost.specs.Curve.{evaluate, curve_value}
use Rattle.network.proofs.Epigraphs.{curved_none, curved_some, epigraph_is}
use Rattle.derived.specs.Outputs.{pg, epigraph, cost, own_objective}
use Rattle.residuals.specs.declared.cost.Costs.{Costs}
use Rattle.residuals.specs.Residuals.{largest_where, epigraphs}
use Rattle.residuals.specs.internal.Derived.{CostsAre}
use Rattle.residuals.proofs.Section.{where_none, where_next, where_never}

-- what a generator adds to residual 7
abbrev epigraph_off : List ℕ → List Float → List Float → ℕ → Float
epigraph_off ws xs x g = maximum (curve_value ws xs g (pg ws x g) ⊖ epigraph ws x g) zero64

-- after the first g generators
pub record Walked (ws : List ℕ) (xs x : List Float) (g : ℕ) (c : Costs) : Type 0 where
  pub objective_is : c.objective ≡ loop (λ s j. s ⊕ cost ws xs x j) zero64 g
  pub epigraph_is : c.epigraph ≡ largest_where g (curved ws) (epigraph_off ws xs x)

pub walked_none : (ws : List ℕ) (xs x : List Float) {c : Costs} → c.objective ≡ zero64 → c.epigraph ≡ zero64 → Walked ws xs x 0 c
unfolding loop
walked_none ws xs x o e = record { objective_is = o; epigraph_is = e ∙ where_none _ _ }

module _ {ws : List ℕ} {xs : List Float} (x : List Float) {l : Layout} {g : ℕ} {r : Generator} {value p : Float} (G : GeneratorRead ws xs l g r) (at_p : p ≡ pg ws x g) where
  pub quadratic_is : r.epigraph ≡ None → value ≡ half64 ⊗ r.cost_q ⊗ (p ⊗ p) ⊕ r.cost_c ⊗ p ⊕ r.cost_0 → value ≡ cost ws xs x g
  unfolding cost
  quadratic_is h e = rw (e, at_p, curved_none G h, G.is)

  pub curve_is : {e : ℕ} → r.epigraph ≡ Some e → value ≡ evaluate xs r.curve (r.points - 1) p → value ≡ cost ws xs x g
  unfolding cost
  curve_is h e = rw (e, at_p, curved_some G h, G.is)

module _ {ws : List ℕ} {xs x : List Float} {g : ℕ} {c : Costs} (W : Walked ws xs x g c) where
  module _ {l : Layout} {r : Generator} (G : GeneratorRead ws xs l g r) {value : Float} (v : value ≡ cost ws xs x g) where
    pub walked_plain : r.epigraph ≡ None → Walked ws xs x (g + 1) (record c { objective = c.objective ⊕ value })
    unfolding loop
    walked_plain h =
        record {
          objective_is = rw (add-one g, W.objective_is, v);
          epigraph_is = where_next (curved ws) (epigraph_off ws xs x) g c.epigraph c.epigraph W.epigraph_is (rw (curved_none G h));
        }

    pub walked_curved : {e : ℕ} → r.epigraph ≡ Some e
        → Walked ws xs x (g + 1) (record { objective = c.objective ⊕ value; epigraph = maximum c.epigraph (maximum (value ⊖ number x e) zero64) })
    unfolding loop cost
    walked_curved {e} h =
        let t = curved_some G h in
        let same : value ≡ curve_value ws xs g (pg ws x g) = rw t at v in
        record {
          objective_is = rw (add-one g, W.objective_is, v);
          epigraph_is = where_next (curved ws) (epigraph_off ws xs x) g c.epigraph _ W.epigraph_is (rw (t, same, epigraph_is G h));
        }

  pub walked_all : {l : Layout} → Laid ws xs l → g ≡ generators ws → l.costs ≡ true → CostsAre ws xs x c
  unfolding own_objective epigraphs
  walked_all L e t =
      record { objective_is = rw (← ap (λ z. z.costs) L.words.is, t, W.objective_is, e); epigraph_is = rw e at W.epigraph_is }

-- without costs
pub costs_none : {ws : List ℕ} {xs x : List Float} {l : Layout} {c : Costs} → Laid ws xs l → l.costs ≡ false → c.objective ≡ zero64 → c.epigraph ≡ zero64
    → CostsAre ws xs x c
unfolding own_objective epigraphs
costs_none {ws} L t o e =
    let off = sym (ap (λ z. z.costs) L.words.is) ∙ t in
    record { objective_is = rw (o, off); epigraph_is = e ∙ where_never (curved ws) _ (generators ws) (λ i. rw off) }
