-- Row lower and row upper, section by section.
use Prim.Native.Nat.{ℕ, zero, suc, ◌+◌, ◌*◌}
use native.Mathlib.Omega.{arith}
use mathlib.Core.Path.{◌≡◌, refl, sym, ap, ap₂, ◌∙◌}
use mathlib.Core.Bool.{Bool, true, false}
use mathlib.Core.List.{List, [], ◌∷◌, ◌++◌, map, map-append, append_assoc}
use lib.ListN.{length, length-append, replicate}
use lib.Ieee.{Float}
use Rattle.base.specs.Loop.{loop, table, each, keep}
use Rattle.base.proofs.Loops.{Every, AllFrom, every_append, every_table, every_each, every_keep, every_cond, length_table, length_kept}
use Rattle.float.specs.Number.{zero64}
use Rattle.bounds.specs.Bounds.{huge64}
use Rattle.network.specs.declared.layout.Layout.{Layout}
use Rattle.network.specs.declared.records.Branch.{Branch}
use Rattle.network.specs.Layout.{Laid, branch_record}
use Rattle.network.specs.Network.{buses, generators, branches, references, angled, curved, segments}
use Rattle.acopf.specs.declared.tallies.Tallies.{Tallies}
use Rattle.acopf.specs.Rows.{Row, balance_row, p_balance_row, q_balance_row, reference_row, angle_row, rated, thermal_rows, segment_row, segment_rows, rows, row_lower, row_upper}
use Rattle.acopf.specs.Tallies.{Tallied}
use Rattle.acopf.proofs.Sizes.{count_rows}
use Rattle.rows.specs.internal.Bounds.{angle_bounds, row_bounds}

-- ---- mapped lists

module _ {A : Type 0} {B : Type 0} (f : A → B) where
  -- one value throughout
  map_same : (c : B) (i : ℕ) (l : List A) → AllFrom (λ j a. f a ≡ c) i l → map f l ≡ replicate (length l) c
  map_same c i [] h = refl
  map_same c i (a ∷ l) h = ap₂ (λ x y. x ∷ y) h.0 (map_same c (i + 1) l h.1)

  map_kept : (n : ℕ) (t : ℕ → Bool) (g : ℕ → A) → map f (each n (λ j. keep (t j) (g j))) ≡ each n (λ j. keep (t j) (f (g j)))
  unfolding loop each
  map_kept zero t g = refl
  map_kept (suc n) t g =
      map-append f (each n (λ j. keep (t j) (g j))) (keep (t n) (g n)) ∙ ap₂ (λ x y. x ++ y) (map_kept n t g) (one (t n))
    where
      one : (b : Bool) → map f (keep b (g n)) ≡ keep b (f (g n))
      one true = refl
      one false = refl

-- ---- the rows in three sections: balances and references, angle differences, margins

module _ (ws : List ℕ) (xs : List Float) where
  abbrev balances : List Row
  balances = table (buses ws) (p_balance_row ws xs) ++ table (buses ws) (q_balance_row ws xs) ++ table (references ws) (reference_row ws xs)

  abbrev angles : List Row
  angles = each (branches ws) (λ b. keep (angled ws b) (angle_row ws xs b))

  abbrev margins : List Row
  margins = each (branches ws) (thermal_rows ws xs) ++ each (generators ws) (segment_rows ws xs)

  in_three : rows ws xs ≡ balances ++ angles ++ margins
  unfolding rows
  in_three = append_assoc (balances ++ angles) (each (branches ws) (thermal_rows ws xs)) (each (generators ws) (segment_rows ws xs))

  length_balances : length balances ≡ 2 * buses ws + references ws
  length_balances =
      let p = table (buses ws) (p_balance_row ws xs) in
      let q = table (buses ws) (q_balance_row ws xs) in
      let f = table (references ws) (reference_row ws xs) in
      omega (
        arith,
        length-append (p ++ q) f,
        length-append p q,
        length_table (buses ws) (p_balance_row ws xs),
        length_table (buses ws) (q_balance_row ws xs),
        length_table (references ws) (reference_row ws xs),
      )

  module _ {layout : Layout} {tallies : Tallies} (L : Laid ws xs layout) (T : Tallied ws xs tallies) where
    in_balances : length balances ≡ 2 * layout.buses + layout.references
    in_balances = rw L.words.is length_balances

    -- what the row count leaves
    in_margins : length margins ≡ 2 * tallies.rated + tallies.segments
    in_margins =
        omega (
          arith,
          ap length in_three,
          length-append (balances ++ angles) margins,
          length-append balances angles,
          length_balances,
          length_kept (branches ws) (angled ws) (angle_row ws xs),
          count_rows ws xs,
          T.of_rated,
          T.of_segments,
        )

    -- ---- a bound: 0 at every balance, `free` at every margin, and the branch's at an angle difference

    module _ (bound : Row → Float) (angle_of : Branch → Float) (free : Float) where
      record Sided : Type 0 where
        pub p : (i : ℕ) → bound (p_balance_row ws xs i) ≡ zero64
        pub q : (i : ℕ) → bound (q_balance_row ws xs i) ≡ zero64
        pub reference : (r : ℕ) → bound (reference_row ws xs r) ≡ zero64
        pub angle : (b : ℕ) → bound (angle_row ws xs b) ≡ angle_of (branch_record ws xs b)
        pub thermal : (b i : ℕ) → Every (λ j r. bound r ≡ free) i (thermal_rows ws xs b)
        pub segment : (g s : ℕ) → bound (segment_row ws xs g s) ≡ free

      module _ (S : Sided) where
        of_balances : map bound balances ≡ replicate (2 * layout.buses + layout.references) zero64
        of_balances =
            map_same bound zero64 0 balances
            (every_append (every_append (every_table (buses ws) _ (λ j l. S.p j)) (every_table (buses ws) _ (λ j l. S.q j)))
            (every_table (references ws) _ (λ j l. S.reference j))).all
            ∙ ap (λ k. replicate k zero64) in_balances

        of_margins : map bound margins ≡ replicate (2 * tallies.rated + tallies.segments) free
        unfolding segment_rows
        of_margins =
            map_same bound free 0 margins
            (every_append (every_each (branches ws) _ (λ b l. S.thermal b _)) (every_each (generators ws) _ (λ g l. of_curve g))).all
            ∙ ap (λ k. replicate k free) in_margins
          where
            of_curve : {i : ℕ} (g : ℕ) → Every (λ j r. bound r ≡ free) i (segment_rows ws xs g)
            of_curve g = every_cond (curved ws g) _ (λ e. every_table (segments ws g) _ (λ s m. S.segment g s))

        of_angles : map bound angles ≡ angle_bounds ws xs angle_of layout.branches
        unfolding angle_bounds loop each
        of_angles =
            map_kept bound (branches ws) (angled ws) (angle_row ws xs) ∙ same (branches ws)
            ∙ ap (λ l. angle_bounds ws xs angle_of l.branches) (sym L.words.is)
          where
            same : (m : ℕ) → each m (λ b. keep (angled ws b) (bound (angle_row ws xs b))) ≡ angle_bounds ws xs angle_of m
            same zero = refl
            same (suc m) = ap₂ (λ x y. x ++ y) (same m) (ap (λ x. keep (angled ws m) x) (S.angle m))

        bounds_are : map bound (rows ws xs) ≡ row_bounds ws xs angle_of layout tallies free
        unfolding row_bounds
        bounds_are =
            ap (map bound) in_three ∙ map-append bound (balances ++ angles) margins
            ∙ ap₂ (λ x y. x ++ y) (map-append bound balances angles ∙ ap₂ (λ x y. x ++ y) of_balances of_angles) of_margins

    lower_sided : Sided (λ r. r.lower) (λ branch. branch.angle_min) zero64
    unfolding p_balance_row q_balance_row balance_row thermal_rows segment_row
    lower_sided = record {
      p = λ i. refl;
      q = λ i. refl;
      reference = λ r. refl;
      angle = λ b. refl;
      thermal = λ b i. every_append (every_keep (rated ws xs b) _ (λ e. refl)) (every_keep (rated ws xs b) _ (λ e. refl));
      segment = λ g s. refl;
    }

    upper_sided : Sided (λ r. r.upper) (λ branch. branch.angle_max) huge64
    unfolding p_balance_row q_balance_row balance_row thermal_rows segment_row
    upper_sided = record {
      p = λ i. refl;
      q = λ i. refl;
      reference = λ r. refl;
      angle = λ b. refl;
      thermal = λ b i. every_append (every_keep (rated ws xs b) _ (λ e. refl)) (every_keep (rated ws xs b) _ (λ e. refl));
      segment = λ g s. refl;
    }

    pub lower_is : row_lower ws xs ≡ row_bounds ws xs (λ branch. branch.angle_min) layout tallies zero64
    unfolding row_lower
    lower_is = bounds_are (λ r. r.lower) (λ branch. branch.angle_min) zero64 lower_sided

    pub upper_is : row_upper ws xs ≡ row_bounds ws xs (λ branch. branch.angle_max) layout tallies huge64
    unfolding row_upper
    upper_is = bounds_are (λ r. r.upper) (λ branch. branch.angle_max) huge64 upper_sided
