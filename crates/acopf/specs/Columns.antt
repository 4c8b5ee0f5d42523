-- Document 01, "The model file": the columns' bounds and starts.
use Rattle.std.specs.Prelude.{ℕ, cond, List, ◌++◌, Float}
use Rattle.std.specs.Float.Ieee.{neg}
use Rattle.base.specs.Loop.{table, each, keep}
use Rattle.float.specs.Number.{zero64}
use Rattle.bounds.specs.Bounds.{huge64, finite_or, clamp_start}
use Rattle.network.specs.Network.{buses, generators, vm_bounded, capable, curved, epigraphs_before}
use Rattle.network.specs.Network.{vm_min, vm_max, va_given, vm_given, p_min, p_max, q_min, q_max, pg_given, qg_given}
use Rattle.piecewise_cost.specs.Curve.{curve_value}

module _ (ws : List ℕ) (xs : List Float) where
  -- "vm's lower is 0; active flags put the table's bounds"
  unfoldable pub vm_lower : ℕ → Float
  vm_lower i = cond (vm_bounded ws i) (vm_min ws xs i) zero64

  unfoldable pub vm_upper : ℕ → Float
  vm_upper i = cond (vm_bounded ws i) (vm_max ws xs i) huge64

  unfoldable pub pg_lower : ℕ → Float
  pg_lower g = cond (capable ws g) (p_min ws xs g) (neg huge64)

  unfoldable pub pg_upper : ℕ → Float
  pg_upper g = cond (capable ws g) (p_max ws xs g) huge64

  unfoldable pub qg_lower : ℕ → Float
  qg_lower g = cond (capable ws g) (q_min ws xs g) (neg huge64)

  unfoldable pub qg_upper : ℕ → Float
  qg_upper g = cond (capable ws g) (q_max ws xs g) huge64

  -- "non-finite becomes 0; vm, pg and qg are then clamped, va is not .. An epigraph starts at the curve's value at the pg start"
  unfoldable pub va_start : ℕ → Float
  va_start i = finite_or (va_given ws xs i) zero64

  unfoldable pub vm_start : ℕ → Float
  vm_start i = clamp_start (vm_given ws xs i) (vm_lower i) (vm_upper i)

  unfoldable pub pg_start : ℕ → Float
  pg_start g = clamp_start (pg_given ws xs g) (pg_lower g) (pg_upper g)

  unfoldable pub qg_start : ℕ → Float
  qg_start g = clamp_start (qg_given ws xs g) (qg_lower g) (qg_upper g)

  unfoldable pub epigraph_start : ℕ → Float
  epigraph_start g = curve_value ws xs g (pg_start g)

  -- "columns are va, vm, pg, qg, then under header 1 one epigraph (cost) column per curve"
  unfoldable pub column_lower : List Float
  column_lower =
      table (buses ws) (λ i. neg huge64) ++ table (buses ws) vm_lower ++ table (generators ws) pg_lower
      ++ table (generators ws) qg_lower ++ table (epigraphs_before ws (generators ws)) (λ e. neg huge64)

  unfoldable pub column_upper : List Float
  column_upper =
      table (buses ws) (λ i. huge64) ++ table (buses ws) vm_upper ++ table (generators ws) pg_upper
      ++ table (generators ws) qg_upper ++ table (epigraphs_before ws (generators ws)) (λ e. huge64)

  unfoldable pub column_start : List Float
  column_start =
      table (buses ws) va_start ++ table (buses ws) vm_start ++ table (generators ws) pg_start
      ++ table (generators ws) qg_start ++ each (generators ws) (λ g. keep (curved ws g) (epigraph_start g))
