-- One turn of each loop of refusal 11: what the records say is what the definitions look at, and the next place.
use mathlib.Core.Path.{◌≡◌, refl, sym, ◌∙◌}
use mathlib.Core.Bool.{true, false, cond, not, ◌||◌}
use mathlib.Core.List.{List}
use lib.ListN.{length}
use Prim.Native.Nat.{ℕ, ◌+◌, ◌-◌, ◌*◌}
use native.Mathlib.Omega.{arith}
use lib.Ieee.{Float, neg}
use Rattle.std.specs.Prelude.{Some, None, is_some}
use Rattle.base.specs.Fault.{Fault}
use Rattle.lists.specs.internal.From.{non_finite_from}
use Rattle.base.specs.Fault.{fault, clear, unless, first}
use Rattle.base.specs.Loop.{loop}
use Rattle.base.specs.Refusal.{FACTOR}
use Rattle.base.proofs.Firsts.{Proper, or_proper, unless_proper, first_proper}
use Rattle.float.specs.Number.{is_finite}
use Rattle.bounds.specs.Bounds.{huge64, clamp_start}
use Rattle.network.specs.Network.{curved, curve_at, epigraph_column}
use Rattle.network.specs.declared.layout.Layout.{Layout}
use Rattle.network.specs.declared.records.Generator.{Generator}
use Rattle.network.specs.declared.records.Branch.{Branch}
use Rattle.network.specs.Layout.{branch_record}
use Rattle.network.specs.internal.Records.{GeneratorRead, BranchRead}
use Rattle.network.proofs.Epigraphs.{curved_is, curved_some, curved_none, epigraph_is}
use Rattle.acopf.specs.Columns.{pg_lower, pg_upper, pg_start, epigraph_start}
use Rattle.piecewise_cost.specs.Curve.{evaluate}
use Rattle.pi_model.specs.Flow.{coefficients_of, coefficients}
use Rattle.acopf.specs.Tallies.{row_segments, segments_before}
use Rattle.acopf.proofs.Tallied.{segments_next}
use Rattle.factor.specs.internal.NonFinite.{coefficients_fault, segments_fault}

-- an epigraph column's start, as refusal 11 looks at it
abbrev pub epigraph_factor : List ℕ → List Float → ℕ → ℕ → Fault
epigraph_factor ws xs start g = unless (not (curved ws g) || is_finite (epigraph_start ws xs g)) (fault FACTOR (start + epigraph_column ws g))

-- a curve's slopes and intercepts, as refusal 11 looks at them
abbrev pub curve_factor : List ℕ → List Float → ℕ → ℕ → Fault
curve_factor ws xs start g = segments_fault xs (curve_at ws g) (row_segments ws g) (start + 2 * segments_before ws g)

pub curve_proper : (ws : List ℕ) (xs : List Float) (start g : ℕ) → Proper (curve_factor ws xs start g)
unfolding segments_fault
curve_proper ws xs start g = first_proper _ _ (λ s. or_proper _ _ (unless_proper _ FACTOR _ (omega arith)))

pub coefficients_proper : (cs : List Float) (place : ℕ) → Proper (coefficients_fault cs place)
unfolding coefficients_fault
coefficients_proper cs place = first_proper _ _ (λ c. unless_proper _ FACTOR _ (omega arith))

twelve_of : (r : Branch) → length (coefficients_of r) ≡ 12
unfolding coefficients_of
twelve_of r = refl

twelve_fault : (cs : List Float) (place : ℕ) → length cs ≡ 12 → non_finite_from FACTOR place cs ≡ coefficients_fault cs place
unfolding non_finite_from coefficients_fault
twelve_fault cs place h = rw h

-- ---- over the layout

module _ {ws : List ℕ} {xs : List Float} {l : Layout} where
  -- a curve that has rows, and what has none
  module _ (start : ℕ) {g place : ℕ} {p : Generator} (G : GeneratorRead ws xs l g p) (e : place ≡ start + 2 * segments_before ws g) where
    pub curved_read : is_some p.epigraph ≡ true → segments_fault xs p.curve (p.points - 1) place ≡ curve_factor ws xs start g
    curved_read h =
        let on : curved ws g ≡ true = sym (curved_is G) ∙ h in
        rw (e, on, G.is)

    pub curved_next : is_some p.epigraph ≡ true → place + 2 * (p.points - 1) ≡ start + 2 * segments_before ws (g + 1)
    curved_next h =
        let on : curved ws g ≡ true = sym (curved_is G) ∙ h in
        rw (segments_next ws g, on, G.is) (omega (arith, e))

    pub plain_read : is_some p.epigraph ≡ false → clear ≡ curve_factor ws xs start g
    unfolding segments_fault first loop
    plain_read h = rw (sym (curved_is G) ∙ h)

    pub plain_next : is_some p.epigraph ≡ false → place ≡ start + 2 * segments_before ws (g + 1)
    plain_next h = rw (segments_next ws g, sym (curved_is G) ∙ h) (omega (arith, e))

  -- the start of an epigraph, and what has none
  module _ (start : ℕ) {g : ℕ} {p : Generator} (G : GeneratorRead ws xs l g p) where
    pub epigraph_read : {e : ℕ} {v : Float} → p.epigraph ≡ Some e
        → v ≡ evaluate xs p.curve (p.points - 1) (clamp_start p.pg (cond p.bounded p.p_min (neg huge64)) (cond p.bounded p.p_max huge64))
        → unless (is_finite v) (fault FACTOR (start + e)) ≡ epigraph_factor ws xs start g
    unfolding epigraph_start pg_start pg_lower pg_upper
    epigraph_read h d = rw (curved_some G h, epigraph_is G h, d, G.is)

    pub epigraph_none : p.epigraph ≡ None → clear ≡ epigraph_factor ws xs start g
    unfolding unless
    epigraph_none h = rw (curved_none G h)

  pub coefficients_read : (place : ℕ) {b : ℕ} {r : Branch} {cs : List Float} → BranchRead ws xs l b r → cs ≡ coefficients_of r
      → non_finite_from FACTOR place cs ≡ coefficients_fault (coefficients ws xs b) place
  coefficients_read place {b} {r} {cs} B e = rw (e, B.is) (twelve_fault (coefficients ws xs b) place (twelve_of (branch_record ws xs b)))
