-- The model's pieces as tokens over the numbers that the code holds.
use Prim.Native.Nat.{ℕ, ◌+◌, ◌-◌, ◌*◌, ◌<◌}
use native.Mathlib.Omega.{arith}
use mathlib.Core.Path.{◌≡◌, refl}
use mathlib.Core.Bool.{Bool, true, false, cond, ◌&&◌}
use mathlib.Core.List.{List, []}
use lib.Ieee.{Float}
use Rattle.std.specs.Float.Ieee.{lt}
use Rattle.std.specs.Prelude.{Option, Some, None, IfSome}
use Rattle.std.specs.Bool.{then_some}
use Rattle.base.specs.Loop.{each, keep}
use Rattle.float.specs.Number.{half64, zero64, ◌⊗◌}
use Rattle.nl.specs.Expr.{Expr, column}
use Rattle.network.specs.declared.layout.Layout.{Layout}
use Rattle.network.specs.declared.records.Generator.{Generator}
use Rattle.network.specs.declared.records.Branch.{Branch}
use Rattle.network.specs.Layout.{Laid, branch_record}
use Rattle.network.specs.internal.Records.{GeneratorRead}
use Rattle.network.proofs.Epigraphs.{curved_some, curved_none, epigraph_is, epigraph_few}
use Rattle.network.specs.Network.{curved}
use Rattle.acopf.specs.Build.{subtract}
use Rattle.acopf.specs.Model.{cost_term}
use Rattle.writer.specs.internal.Tokens.{part_tokens}
use Rattle.writer.proofs.Tokens.{each_zero}
use Rattle.emit.specs.internal.Rows.{angle_tokens, thermal_pair, thermal_tokens, segment_tokens, curve_tokens}
use Rattle.emit.specs.internal.Objective.{cost_of, term_of}

module _ {ws : List ℕ} {xs : List Float} {l : Layout} (L : Laid ws xs l) where
  -- ---- a branch's rows

  pub angle_is : (b : ℕ) {r : Branch} → r ≡ branch_record ws xs b → part_tokens 11 (keep r.angled (subtract (column r.from) (column r.to))) ≡ angle_tokens ws b
  angle_is b e = rw e

  pub thermal_is : (b : ℕ) {r : Branch} {on : Bool} → r ≡ branch_record ws xs b → on ≡ (r.limited && lt zero64 r.s_max)
      → part_tokens 11 (thermal_pair on (l.buses + 8 * b) (r.s_max ⊗ r.s_max)) ≡ thermal_tokens ws xs l.buses b
  thermal_is b e t = rw (t, e)

  -- ---- a generator's segments and cost

  term_either : (on : Bool) (e : ℕ) (quadratic : Expr) → cond on (column e) quadratic ≡ term_of (then_some on e) quadratic
  term_either true e quadratic = refl
  term_either false e quadratic = refl

  if_some : {P : ℕ → Type 0} (o : Option ℕ) → ((e : ℕ) → o ≡ Some e → P e) → IfSome o P
  if_some None h = tt
  if_some (Some e) h = h e refl

  module _ {g : ℕ} {r : Generator} (G : GeneratorRead ws xs l g r) where
    pub curve_is : {e : ℕ} → r.epigraph ≡ Some e → curve_tokens ws xs g ≡ each (r.points - 1) (segment_tokens xs r.curve e (2 * l.buses + g))
    unfolding curve_tokens
    curve_is h = rw (epigraph_is G h, curved_some G h, G.is, L.words.is)

    pub epigraph_small : g < l.generators → IfSome r.epigraph (λ e. e < 4096)
    epigraph_small h = if_some r.epigraph (λ e t. omega (arith, epigraph_few G t L.words h))

    pub curve_none : r.epigraph ≡ None → curve_tokens ws xs g ≡ []
    unfolding curve_tokens
    curve_none h = rw (curved_none G h) (each_zero _)

    pub cost_is : cost_term ws xs g ≡ term_of r.epigraph (cost_of (2 * l.buses + g) (half64 ⊗ r.cost_q) r.cost_c)
    unfolding cost_term
    cost_is = rw (G.is, L.words.is) (term_either (curved ws g) _ _)
