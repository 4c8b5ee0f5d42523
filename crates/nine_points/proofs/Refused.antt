-- Document 02 (b): "Ten points are now refused as size", at the word of the first generator above nine, whichever function is asked.
use Prim.Native.Nat.{ℕ}
use native.Mathlib.Omega.{arith}
use mathlib.Core.Path.{◌≡◌, ap, sym, ◌∙◌}
use mathlib.Core.List.{List}
use lib.Dec.{leb}
use lib.Ieee.{Float}
use borrow.Author.Tests.{le-leb, lt-leb}
use Rattle.base.specs.Fault.{Fault}
use Rattle.base.specs.Fault.{fault, unless, or_else, first}
use Rattle.base.specs.Refusal.{SIZE}
use Rattle.base.proofs.Firsts.{Clear, unless_clear, all_clear, or_go, or_stop}
use Rattle.base.proofs.Turns.{test_here}
use Rattle.network.specs.Network.{buses, generators, branches, references, generator_place, points}
use Rattle.network.specs.Fault.{fault_words, fault_size, words_fault}
use Rattle.acopf.specs.Factor.{network_fault}
use Rattle.compile.specs.Compile.{compile_fault}
use Rattle.validate.specs.Check.{fault_of, check_fault, residuals_fault}
use Rattle.nine_points.specs.Refused.{FirstLong, RefusedWith}

module _ (ws : List ℕ) (g : ℕ) (L : FirstLong ws g) where
  before_clear : Clear (first g (λ h. unless (leb (points ws h) 9) (fault SIZE (generator_place ws h))))
  before_clear = all_clear g _ (λ h l. ap (λ f. f.number) (unless_clear _ (fault SIZE (generator_place ws h)) (le-leb (points ws h) 9 (L.before h l))))

  size_is : fault_size ws ≡ fault SIZE (generator_place ws g)
  unfolding fault_size unless or_else
  size_is =
      rw (le-leb 1 (buses ws) L.some_bus, le-leb (buses ws) 256 L.few_buses, le-leb (generators ws) 256 L.few_generators, le-leb (branches ws) 512 L.few_branches, le-leb (references ws) 256 L.few_references)
      (sym (test_here (λ h. leb (points ws h) 9) SIZE (generator_place ws) (generators ws) g (omega arith) L.there (lt-leb (points ws g) 9 (omega (arith, L.long))) before_clear))

  -- whatever refusals come after 1 and 2
  pub refused_first : (later : Fault) → or_else (fault_words ws) (or_else (fault_size ws) later) ≡ fault SIZE (generator_place ws g)
  refused_first later =
      or_go (fault_words ws) (or_else (fault_size ws) later) L.words
      ∙ or_stop (fault_size ws) later (λ z. omega (arith, z, ap (λ f. f.number) size_is)) ∙ size_is

  words_refused : words_fault ws ≡ fault SIZE (generator_place ws g)
  unfolding words_fault
  words_refused = or_go (fault_words ws) (fault_size ws) L.words ∙ size_is

  pub ten_refused : (xs : List Float) → RefusedWith ws xs (fault SIZE (generator_place ws g))
  unfolding network_fault compile_fault check_fault fault_of residuals_fault
  ten_refused xs =
      record {
        words = words_refused;
        network = refused_first _;
        compile = λ lent. refused_first _;
        check = λ x solver ts lent. refused_first _;
        residuals = λ x solver lent. refused_first _;
      }
