-- The Rust's own test, `residuals.max_violation() > PRIMAL_TOLERANCE` (000), refuses exactly where 16 does with eight tolerances of 1e-6.
use mathlib.Core.Path.{◌≡◌}
use mathlib.Core.List.{List}
use mathlib.Core.Logic.{◌↔◌}
use mathlib.Core.Bool.{false}
use Prim.Native.Nat.{ℕ, ◌<◌}
use native.Mathlib.Omega.{arith}
use lib.ListN.{get_or}
use lib.Ieee.{Float, nan, lt}
use Rattle.base.proofs.Firsts.{Clear}
use Rattle.base.proofs.Loops.{Every, every_nil, every_cons}
use Rattle.float.proofs.Above.{maximum_law}
use Rattle.float.specs.Number.{maximum}
use Rattle.derived.specs.Outputs.{flows}
use Rattle.residuals.specs.Residuals.{residuals}
use Rattle.validate.specs.Tolerances.{tiny64, primal_tolerances, fault_residual}
use Rattle.validate.specs.Check.{solved}
use Rattle.validate.proofs.Tolerances.{none_above}
use Rattle.accepted.proofs.Accepts.{within_residual}

-- max_violation
abbrev pub max_violation : List Float → Float
max_violation r =
    maximum (maximum (maximum (maximum (maximum (maximum (maximum (get_or r 0 nan) (get_or r 1 nan)) (get_or r 2 nan)) (get_or r 3 nan)) (get_or r 4 nan)) (get_or r 5 nan)) (get_or r 6 nan)) (get_or r 7 nan)

module _ (ws : List ℕ) (xs x : List Float) (solver : Float) where
  abbrev r : ℕ → Float
  r i = get_or (residuals ws xs x (flows ws xs x) solver) i nan

  pub as_the_rust : (lt tiny64 (max_violation (residuals ws xs x (flows ws xs x) solver)) ≡ false) ↔ Clear (fault_residual primal_tolerances (solved ws xs x solver).residuals)
  unfolding solved primal_tolerances residuals
  as_the_rust = (to, from)
    where
      law : (a b : Float) → (lt tiny64 (maximum a b) ≡ false) ↔ ((lt tiny64 a ≡ false) × (lt tiny64 b ≡ false))
      law a b = maximum_law tiny64 a b

      one : Clear (fault_residual primal_tolerances (solved ws xs x solver).residuals) → (i : ℕ) → i < 8 → lt (get_or primal_tolerances i nan) (r i) ≡ false
      one c i l = none_above _ _ c i l

      from : Clear (fault_residual primal_tolerances (solved ws xs x solver).residuals) → lt tiny64 (max_violation (residuals ws xs x (flows ws xs x) solver)) ≡ false
      from c =
          (law _ _).1 ((law _ _).1 ((law _ _).1 ((law _ _).1 ((law _ _).1 ((law _ _).1 ((law _ _).1 (one c 0 (omega arith), one c 1 (omega arith)), one c 2 (omega arith)), one c 3 (omega arith)), one c 4 (omega arith)), one c 5 (omega arith)), one c 6 (omega arith)), one c 7 (omega arith))

      to : lt tiny64 (max_violation (residuals ws xs x (flows ws xs x) solver)) ≡ false → Clear (fault_residual primal_tolerances (solved ws xs x solver).residuals)
      to h =
          let h6 = (law _ _).0 h in
          let h5 = (law _ _).0 h6.0 in
          let h4 = (law _ _).0 h5.0 in
          let h3 = (law _ _).0 h4.0 in
          let h2 = (law _ _).0 h3.0 in
          let h1 = (law _ _).0 h2.0 in
          let h0 = (law _ _).0 h1.0 in
          let e : Every (λ i v. lt (get_or primal_tolerances i nan) v ≡ false) 0 (residuals ws xs x (flows ws xs x) solver) =
          every_cons h0.0 (every_cons h0.1 (every_cons h1.1 (every_cons h2.1 (every_cons h3.1 (every_cons h4.1 (every_cons h5.1 (every_cons h6.1 every_nil))))))) in
          within_residual ws xs x solver primal_tolerances e
