-- Document 02 (b): "a network with no curve above nine points gets every answer and list it got before". Each field has on its left what
-- was answered or left in a list before, on its right what is now. The rule before is fault_size_at at 16; no other definition by which a
-- public function answers has the limit (tests/limit holds them to that).
use Rattle.std.specs.Prelude.{ℕ, ◌+◌, ◌*◌, ◌≤◌, ◌<◌, ◌≡◌, cond, List, [], ◌∷◌, ◌++◌, length, drop, eqb, Float}
use Rattle.base.specs.Fault.{Fault}
use Rattle.base.specs.Fault.{or_else, Section, section, first_of, left}
use Rattle.base.specs.Refusal.{WORDS, SIZE}
use Rattle.network.specs.Network.{buses, generators, branches, points}
use Rattle.network.specs.Fault.{fault_words, fault_size_at, count_fault, words_fault, form_fault}
use Rattle.tables.specs.Fault.{table_sections, fault_tables}
use Rattle.acopf.specs.Factor.{network_sections, network_fault}
use Rattle.compile.specs.Compile as compile
use Rattle.compile.specs.Compile.{lengths, compile_sections, compile_fault, compiled, sized}
use Rattle.validate.specs.Check as validate
use Rattle.validate.specs.Check.{solved, outputs_needed, check_sections, checked, outputs_after}
use Rattle.validate.specs.Check.{reported, report_sections, residuals_fault, report_after}
use Rattle.depot_text.specs.Input.{formed, input_words, input_numbers}
use Rattle.depot_text.specs.Text.{input_line, lent, answer_text}

module _ (ws : List ℕ) where
  -- "a network with no curve above nine points"; of words that 1 refuses nothing is asked
  abbrev pub NoLongCurve : Type 0
  NoLongCurve = (fault_words ws).number ≡ 0 → (g : ℕ) → g < generators ws → points ws g ≤ 9

  -- the first refusal before: 1, then 2 with 16 points a curve, then what comes after these two among the sections of now
  abbrev pub first_before : List Section → Fault
  first_before sections = first_of (section (WORDS ∷ []) (fault_words ws) ∷ section (SIZE ∷ []) (fault_size_at ws 16) ∷ drop 2 sections)

module _ (ws : List ℕ) (xs : List Float) where
  -- refusals 1 and 2, 1 to 3, 1 to 10, 1 to 11
  pub record NetworkAsBefore : Type 0 where
    pub words : or_else (fault_words ws) (fault_size_at ws 16) ≡ words_fault ws
    pub form : (count : ℕ) → or_else (or_else (fault_words ws) (fault_size_at ws 16)) (count_fault ws count) ≡ form_fault ws count
    pub tables : first_before ws (table_sections ws xs) ≡ fault_tables ws xs
    pub network : first_before ws (network_sections ws xs) ≡ network_fault ws xs

  abbrev pub compile_before : List ℕ → Fault
  compile_before lent = first_before ws (compile_sections ws xs lent)

  -- compile's answer, what each of its seven lists then holds, whichever its result is, and the getters' numbers
  pub record CompileAsBefore : Type 1 where
    pub answer : (lent : List ℕ) → compile.answered ws xs (compile_before lent) ≡ compiled ws xs lent
    pub list : (lent : List ℕ) {A : Type 0} (result before : List A)
        → left (compile_before lent) result before ≡ left (compile_fault ws xs lent) result before
    pub getters : compile.answered ws xs (compile_before (lengths ws xs)) ≡ sized ws xs

  module _ (x : List Float) (solver : Float) where
    abbrev pub check_before : List Float → ℕ → Fault
    check_before ts lent = first_before ws (check_sections ws xs x solver ts lent (solved ws xs x solver))

    abbrev pub residuals_before : ℕ → Fault
    residuals_before lent = first_before ws (network_sections ws xs ++ report_sections ws xs x solver lent (solved ws xs x solver))

    -- the check's answer and its output list, that of the residuals and its list, and the outputs' length
    pub record CheckAsBefore : Type 0 where
      pub answer : (ts : List Float) (lent : ℕ)
          → validate.answered (check_before ts lent) (solved ws xs x solver) ≡ checked ws xs x solver ts lent
      pub outputs : (ts before : List Float)
          → left (check_before ts (length before)) (solved ws xs x solver).outputs before ≡ outputs_after ws xs x solver ts before
      pub residuals : (lent : ℕ) → residuals_before lent ≡ residuals_fault ws xs x solver lent
      pub report : (before : List Float)
          → left (residuals_before (length before)) (reported ws xs x solver (solved ws xs x solver)) before
          ≡ report_after ws xs x solver before
      pub needed :
          cond (eqb (first_before ws (network_sections ws xs)).number 0) (2 * buses ws + 4 * branches ws) 0 ≡ outputs_needed ws xs

-- what the program depot printed for the bytes of standard input
abbrev pub output_before : List ℕ → List ℕ
output_before bytes =
    let ws = input_words bytes in
    let xs = input_numbers bytes in
    cond (formed bytes) (answer_text ws xs (compile.answered ws xs (compile_before ws xs lent)).fault) input_line
