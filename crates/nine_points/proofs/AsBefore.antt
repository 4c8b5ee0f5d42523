-- Document 02 (b): "a network with no curve above nine points gets every answer and list it got before".
use Prim.Native.Nat.{ℕ, ◌+◌, ◌*◌, ◌≤◌, ◌<◌}
use native.Mathlib.Omega.{arith}
use mathlib.Core.Path.{◌≡◌, refl, ap}
use mathlib.Core.Bool.{Bool, true, false, cond}
use mathlib.Core.List.{List}
use lib.ListN.{length}
use lib.Dec.{eqb, leb}
use lib.Ieee.{Float}
use borrow.Author.Tests.{le-leb, eqb-true}
use Rattle.base.specs.Fault.{Fault}
use Rattle.base.specs.Fault.{fault, unless, or_else, left}
use Rattle.base.specs.Refusal.{SIZE}
use Rattle.base.proofs.Firsts.{Clear}
use Rattle.base.proofs.Scans.{first_same}
use Rattle.network.specs.Network.{buses, generators, branches, generator_place, points}
use Rattle.network.specs.Fault.{fault_words, fault_size_at, fault_size, words_fault, form_fault, count_fault}
use Rattle.tables.specs.Fault.{table_sections, fault_tables}
use Rattle.acopf.specs.Factor.{network_sections, network_fault}
use Rattle.compile.specs.Compile as compile
use Rattle.compile.specs.Compile.{lengths, compile_fault, compiled, sized}
use Rattle.validate.specs.Check as validate
use Rattle.validate.specs.Check.{solved, fault_of, check_fault, checked, residuals_fault, reported, outputs_needed}
use Rattle.depot_text.specs.Input.{formed, input_words, input_numbers}
use Rattle.depot_text.specs.Text.{input_line, lent, answer_text, network_text, output}
use Rattle.nine_points.specs.Before.{NoLongCurve, first_before, NetworkAsBefore, compile_before, CompileAsBefore}
use Rattle.nine_points.specs.Before.{check_before, residuals_before, CheckAsBefore, output_before}

-- what follows a clear fault alone decides
or_else_later : (f a b : Fault) → (Clear f → a ≡ b) → or_else f a ≡ or_else f b
unfolding or_else
or_else_later f a b h = go (eqb f.number 0) refl
  where
    go : (c : Bool) → eqb f.number 0 ≡ c → cond c a f ≡ cond c b f
    go true e = h (eqb-true f.number 0 e)
    go false e = refl

module _ (ws : List ℕ) where
  -- "no curve above" either limit: 2 is the same with both
  pub size_same : (most more : ℕ) → most ≤ more → ((g : ℕ) → g < generators ws → points ws g ≤ most) → fault_size_at ws more ≡ fault_size_at ws most
  size_same most more m h = rw (first_same (generators ws) (points_fault more) (points_fault most) (λ g l. kept g (h g l)))
    where
      points_fault : ℕ → ℕ → Fault
      points_fault limit g = unless (leb (points ws g) limit) (fault SIZE (generator_place ws g))

      kept : (g : ℕ) → points ws g ≤ most → points_fault more g ≡ points_fault most g
      kept g p = rw (le-leb (points ws g) most p, le-leb (points ws g) more (omega arith))

  size_before : NoLongCurve ws → Clear (fault_words ws) → fault_size_at ws 16 ≡ fault_size ws
  unfolding fault_size
  size_before h c = size_same 9 16 (omega arith) (λ g l. omega (arith, h c g l))

  -- whatever refusals come after 1 and 2
  pub refusals_same : NoLongCurve ws → (later : Fault) → or_else (fault_words ws) (or_else (fault_size_at ws 16) later) ≡ or_else (fault_words ws) (or_else (fault_size ws) later)
  refusals_same h later = or_else_later (fault_words ws) _ _ (λ c. ap (λ f. or_else f later) (size_before h c))

  words_same : NoLongCurve ws → or_else (fault_words ws) (fault_size_at ws 16) ≡ words_fault ws
  unfolding words_fault
  words_same h = or_else_later (fault_words ws) _ _ (size_before h)

module _ (ws : List ℕ) (xs : List Float) (h : NoLongCurve ws) where
  network_same : first_before ws (network_sections ws xs) ≡ network_fault ws xs
  unfolding network_fault
  network_same = refusals_same ws h _

  tables_same : first_before ws (table_sections ws xs) ≡ fault_tables ws xs
  unfolding fault_tables
  tables_same = refusals_same ws h _

  pub network_as_before : NetworkAsBefore ws xs
  unfolding form_fault
  network_as_before =
      record {
        words = words_same ws h;
        form = λ count. ap (λ f. or_else f (count_fault ws count)) (words_same ws h);
        tables = tables_same;
        network = network_same;
      }

  compile_same : (lent : List ℕ) → compile_before ws xs lent ≡ compile_fault ws xs lent
  unfolding compile_fault
  compile_same lent = refusals_same ws h _

  pub compile_as_before : CompileAsBefore ws xs
  unfolding compiled sized
  compile_as_before =
      record {
        answer = λ lent. ap (compile.answered ws xs) (compile_same lent);
        list = λ lent result before. ap (λ f. left f result before) (compile_same lent);
        getters = ap (compile.answered ws xs) (compile_same (lengths ws xs));
      }

  module _ (x : List Float) (solver : Float) where
    check_same : (ts : List Float) (lent : ℕ) → check_before ws xs x solver ts lent ≡ check_fault ws xs x solver ts lent
    unfolding check_fault fault_of
    check_same ts lent = refusals_same ws h _

    residuals_same : (lent : ℕ) → residuals_before ws xs x solver lent ≡ residuals_fault ws xs x solver lent
    unfolding residuals_fault
    residuals_same lent = refusals_same ws h _

    pub check_as_before : CheckAsBefore ws xs x solver
    unfolding checked check_fault outputs_needed
    check_as_before =
        record {
          answer = λ ts lent. ap (λ f. validate.answered f (solved ws xs x solver)) (check_same ts lent);
          outputs = λ ts before. ap (λ f. left f (solved ws xs x solver).outputs before) (check_same ts (length before));
          residuals = residuals_same;
          report = λ before. ap (λ f. left f (reported ws xs x solver (solved ws xs x solver)) before) (residuals_same (length before));
          needed = ap (λ f. cond (eqb f.number 0) (2 * buses ws + 4 * branches ws) 0) network_same;
        }

-- the program depot prints what it printed
pub depot_as_before : (bytes : List ℕ) → NoLongCurve (input_words bytes) → output_before bytes ≡ output bytes
unfolding output network_text
depot_as_before bytes h =
    let ws = input_words bytes in
    let xs = input_numbers bytes in
    ap (λ c. cond (formed bytes) (answer_text ws xs c.fault) input_line) ((compile_as_before ws xs h).answer lent)
