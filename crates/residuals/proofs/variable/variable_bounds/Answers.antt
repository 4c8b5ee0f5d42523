use mathlib.Core.Path.{◌≡◌, ap, refl}
use Prim.Native.Nat.{◌+◌, ◌*◌, ◌-◌}
use borrow.Author.Rules.{rules}
use native.Mathlib.Omega.{arith}
use lib.ListN.{length, take, drop}
use Rattle.std.proofs.lemmas.List.{length-take-le, length-take, length-drop}
use Rattle.network.specs.Network.{generators, epigraphs_before}
use Rattle.network.specs.declared.records.Generator.{Generator}
use Rattle.acopf.specs.Columns.{pg_lower, pg_upper, qg_lower, qg_upper}
use Rattle.residuals.proofs.Section.{sections_are, front_part, inner_part}
use Rattle.residuals.proofs.variable.variable_bounds.Goals as goal

pub returns : goal.returns
unfolding pg_lower pg_upper qg_lower qg_upper
returns c =
    let candidate = c.args.candidate.now in
    let ws = candidate.tables.words.now in
    let x = candidate.point.now in
    let n = candidate.tables.layout.buses in
    let k = candidate.tables.layout.generators in
    let is = candidate.tables.laid.words.is in
    let size : length (take n x) ≡ n = length-take-le n x (omega (arith, candidate.given)) in
    let rest = take (length x - (2 * n + 2 * k)) (drop (2 * n + 2 * k) x) in
    let e : length rest ≡ epigraphs_before ws (generators ws) =
    simp (length-take, length-drop) (omega (arith, candidate.given, ap (λ z. epigraphs_before ws z.generators) is)) in
    let pg = c.generator_bounds-pg.ensures (λ (g : Generator). (g.p_min, g.p_max)) (λ g b p. search rules) in
    let qg = c.generator_bounds-qg.ensures (λ (g : Generator). (g.q_min, g.q_max)) (λ g b p. search rules) in
    sections_are ws candidate.tables.numbers.now x n k _ (ap (λ z. z.buses) is) (ap (λ z. z.generators) is) e (take n x) (take (2 * n - n) (drop n x)) _ _ rest size refl
    (front_part x n) (inner_part x n n _ (omega arith)) (inner_part x (2 * n) k _ (omega arith)) (inner_part x (2 * n + k) k _ (omega arith)) (inner_part x (2 * n + 2 * k) _ _ (omega arith))
    c.free_bounds-va.ensures c.vm_bounds-vm.ensures pg qg c.free_bounds.ensures
