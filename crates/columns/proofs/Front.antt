-- Room for the sections of a list, one turn over the epigraphs, and that five sections, one after the other, are a list.
use mathlib.Core.Path.{◌≡◌, sym, ◌∙◌}
use mathlib.Core.Bool.{true, false, cond}
use mathlib.Core.List.{List, [], ◌∷◌, ◌++◌}
use Prim.Native.Nat.{ℕ, ◌+◌, ◌-◌, ◌*◌, ◌≤◌, ◌<◌}
use native.Mathlib.Omega.{arith}
use lib.Ieee.{Float, neg}
use lib.ListN.{length, drop}
use Rattle.base.specs.Loop.{each, keep}
use Rattle.base.specs.internal.Section.{Added}
use Rattle.base.proofs.Loops.{length_kept, tally_counts}
use Rattle.std.specs.Prelude.{is_some}
use Rattle.network.proofs.Epigraphs.{curved_is}
use Rattle.base.specs.declared.section.ListWriter.{ListWriter}
use Rattle.base.proofs.Sections.{added_none, added_then, added_front, added_each}
use Rattle.network.specs.Network.{curved, epigraphs_before, columns}
use Rattle.network.specs.declared.layout.Layout.{Layout}
use Rattle.network.specs.declared.records.Generator.{Generator}
use Rattle.network.specs.Layout.{Laid}
use Rattle.network.specs.internal.Records.{GeneratorRead}
use Rattle.bounds.specs.Bounds.{huge64, clamp_start}
use Rattle.piecewise_cost.specs.Curve.{evaluate}
use Rattle.acopf.specs.Columns.{pg_lower, pg_upper, pg_start, epigraph_start}
use Rattle.acopf.specs.Tallies.{Tallied}
use Rattle.acopf.specs.declared.tallies.Tallies.{Tallies}

-- ---- room

module _ {ws : List ℕ} {xs : List Float} {l : Layout} (L : Laid ws xs l) where
  pub columns_are : columns ws ≡ 2 * l.buses + 2 * l.generators + epigraphs_before ws l.generators
  unfolding columns
  columns_are = rw L.words.is

  pub epigraphs_are : {t : Tallies} → Tallied ws xs t → t.epigraphs ≡ epigraphs_before ws l.generators
  epigraphs_are T = rw L.words.is T.of_epigraphs

-- ---- one turn over the epigraphs

module _ (ws : List ℕ) (xs : List Float) where
  -- those of the first k generators
  abbrev pub epigraphs : ℕ → List Float
  epigraphs k = each k (λ g. keep (curved ws g) (epigraph_start ws xs g))

module _ {ws : List ℕ} {xs : List Float} {l : Layout} {g : ℕ} {r : Generator} (G : GeneratorRead ws xs l g r) where
  -- the starts of all epigraphs have room for the next one
  pub epigraph_room : g < l.generators → is_some r.epigraph ≡ true → length (epigraphs ws xs g) < epigraphs_before ws l.generators
  unfolding epigraphs_before
  epigraph_room h t =
      let start = epigraph_start ws xs in
      let here = tally_counts g l.generators (curved ws) (sym (curved_is G) ∙ t) h in
      omega (arith, here, length_kept g (curved ws) start)

  pub epigraph_turn : {p q t : ListWriter Float} {v : Float} → is_some r.epigraph ≡ true
      → v ≡ evaluate xs r.curve (r.points - 1) (clamp_start r.pg (cond r.bounded r.p_min (neg huge64)) (cond r.bounded r.p_max huge64))
      → Added p (epigraphs ws xs g) q → Added q (v ∷ []) t → Added p (epigraphs ws xs (g + 1)) t
  unfolding epigraph_start pg_start pg_lower pg_upper
  epigraph_turn c e before w = added_each _ g before (rw (sym (curved_is G) ∙ c) (rw (e, G.is) at w))

  pub epigraph_skip : {p q : ListWriter Float} → is_some r.epigraph ≡ false → Added p (epigraphs ws xs g) q → Added p (epigraphs ws xs (g + 1)) q
  epigraph_skip {p} {q} c before = added_each _ g before (rw (sym (curved_is G) ∙ c) (added_none q))

-- ---- the five sections

pub list_is : {p a b c d q : ListWriter Float} {u v w s t : List Float} → p.at ≡ 0 → Added p u a → Added a v b → Added b w c → Added c s d
    → Added d t q → length (u ++ v ++ w ++ s ++ t) ≤ length p.out.now
    → q.out.now ≡ u ++ v ++ w ++ s ++ t ++ drop (length (u ++ v ++ w ++ s ++ t)) p.out.now
list_is e x y z s t h = added_front e (added_then (added_then (added_then (added_then x y) z) s) t) h
