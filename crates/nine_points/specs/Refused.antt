-- Document 02 (b): "Ten points are now refused as size".
use Rattle.std.specs.Prelude.{ℕ, ◌≤◌, ◌<◌, ◌≡◌, List, Float}
use Rattle.base.specs.Fault.{Fault}
use Rattle.network.specs.Network.{buses, generators, branches, references, points}
use Rattle.network.specs.Fault.{fault_words, words_fault}
use Rattle.acopf.specs.Factor.{network_fault}
use Rattle.compile.specs.Compile.{compile_fault}
use Rattle.validate.specs.Check.{check_fault, residuals_fault}

-- generator g's curve is the first above nine points, in words that 1 does not refuse and whose counts are within their limits
pub record FirstLong (ws : List ℕ) (g : ℕ) : Type 0 where
  pub words : (fault_words ws).number ≡ 0
  pub some_bus : 1 ≤ buses ws
  pub few_buses : buses ws ≤ 256
  pub few_generators : generators ws ≤ 256
  pub few_branches : branches ws ≤ 512
  pub few_references : references ws ≤ 256
  pub there : g < generators ws
  pub long : 10 ≤ points ws g
  pub before : (h : ℕ) → h < g → points ws h ≤ 9

-- with this refusal, whichever header and numbers, whatever is lent
pub record RefusedWith (ws : List ℕ) (xs : List Float) (f : Fault) : Type 0 where
  pub words : words_fault ws ≡ f
  pub network : network_fault ws xs ≡ f
  pub compile : (lent : List ℕ) → compile_fault ws xs lent ≡ f
  pub check : (x : List Float) (solver : Float) (ts : List Float) (lent : ℕ) → check_fault ws xs x solver ts lent ≡ f
  pub residuals : (x : List Float) (solver : Float) (lent : ℕ) → residuals_fault ws xs x solver lent ≡ f
