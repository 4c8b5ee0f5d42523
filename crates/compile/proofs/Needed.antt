-- The counts are those of the lists: each is a sum over what the network has.
use mathlib.Core.Path.{◌≡◌, ap, ◌∙◌}
use mathlib.Core.List.{List}
use mathlib.Core.Bool.{cond, not, ◌&&◌}
use Prim.Native.Nat.{ℕ, ◌+◌, ◌-◌, ◌*◌}
use native.Mathlib.Omega.{arith}
use lib.Dec.{eqb, ltb}
use lib.ListN.{length}
use lib.Ieee.{Float}
use Rattle.base.specs.Fault.{clear}
use Rattle.base.proofs.Firsts.{Clear}
use Rattle.base.proofs.Loops.{bit}
use Rattle.network.specs.declared.layout.Layout.{Layout}
use Rattle.network.specs.Layout.{Laid}
use Rattle.network.specs.Network.{buses, generators, branches, references, columns}
use Rattle.tables.specs.Fault.{fault_tables}
use Rattle.tables.proofs.Right.{words_clear}
use Rattle.acopf.specs.declared.tallies.Tallies.{Tallies}
use Rattle.acopf.specs.Tallies.{Tallied}
use Rattle.acopf.specs.Model.{objective_constant, file_words}
use Rattle.acopf.specs.Parts.{shared_parts}
use Rattle.acopf.specs.Rows.{rows}
use Rattle.acopf.specs.Factor.{constants64}
use Rattle.acopf.proofs.Counts.{length_shared}
use Rattle.acopf.proofs.Sizes.{objective_words, count_rows, count_of_words}
use Rattle.compile.specs.Compile.{Answer, accepted}

module _ {ws : List ℕ} {xs : List Float} {l : Layout} (L : Laid ws xs l) where
  n_is : l.buses ≡ buses ws
  n_is = ap (λ x. x.buses) L.words.is

  k_is : l.generators ≡ generators ws
  k_is = ap (λ x. x.generators) L.words.is

  m_is : l.branches ≡ branches ws
  m_is = ap (λ x. x.branches) L.words.is

  r_is : l.references ≡ references ws
  r_is = ap (λ x. x.references) L.words.is

  pub shared_are : l.buses + 8 * l.branches ≡ length (shared_parts ws xs)
  shared_are = omega (arith, length_shared ws xs, n_is, m_is)

  module _ {t : Tallies} (T : Tallied ws xs t) where
    -- the objective's shares, by the network's own numbers
    own_words : cond (l.costs && not (eqb l.generators 0)) (bit (ltb 1 l.generators) + (t.epigraphs + 8 * (l.generators - t.epigraphs))) 1
        ≡ objective_words ws
    unfolding objective_words
    own_words = rw (L.words.is, T.of_epigraphs)

    pub words_are : Clear (fault_tables ws xs) → {own : ℕ}
        → own ≡ cond (l.costs && not (eqb l.generators 0)) (bit (ltb 1 l.generators) + (t.epigraphs + 8 * (l.generators - t.epigraphs))) 1
        → 15 * l.buses + 2 * l.generators + 74 * l.branches + 2 * l.references + 4 * t.angles + 16 * t.rated + 8 * t.segments + 2 + own
        ≡ length (file_words ws xs)
    words_are right {own} e =
        let o : own ≡ objective_words ws = e ∙ own_words in
        let all = count_of_words ws xs (words_clear ws xs right) in
        omega (arith, all, o, n_is, k_is, m_is, r_is, T.of_angles, T.of_rated, T.of_segments)

    pub rows_are : 2 * l.buses + l.references + t.angles + 2 * t.rated + t.segments ≡ length (rows ws xs)
    rows_are = omega (arith, count_rows ws xs, n_is, r_is, T.of_angles, T.of_rated, T.of_segments)

pub accepted_is : (ws : List ℕ) (xs : List Float) {w c n r s : ℕ} {o : Float} → w ≡ length (file_words ws xs) → c ≡ length (constants64 ws xs)
    → n ≡ columns ws → r ≡ length (rows ws xs) → s ≡ length (shared_parts ws xs) → o ≡ objective_constant ws xs
    → ◌≡◌ {A = Answer} (record { fault = clear; words = w; constants = c; columns = n; rows = r; shared = s; objective = o }) (accepted ws xs)
unfolding accepted
accepted_is ws xs w c n r s o = rw (w, c, n, r, s, o)
