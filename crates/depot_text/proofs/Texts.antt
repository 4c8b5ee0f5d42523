-- The length of a line, the text of a network from compile's answer, what `depot` ensures, and that the program writes the whole text.
use mathlib.Core.Path.{◌≡◌, refl, ap, sym, ◌∙◌}
use mathlib.Core.Bool.{Bool, true, false, cond}
use mathlib.Core.List.{List, [], ◌∷◌, ◌++◌}
use Prim.Native.Nat.{ℕ, zero, suc, ◌+◌, ◌*◌, ◌/◌, ◌%◌, ◌≤◌, ◌<◌}
use native.Mathlib.Omega.{arith}
use lib.ListN.{length, get_or, take, drop, length-append}
use lib.Dec.{eqb, ltb}
use lib.Ieee.{Float}
use lib.Seq.{length-take-le, take_at}
use borrow.Author.Tests.{eq-eqb, ne_eqb, eqb-true, le-leb, lt-leb}
use Rattle.base.proofs.Loops.{length_each}
use Rattle.acopf.specs.Model.{file_words}
use Rattle.compile.specs.declared.Compiled.{Compiled}
use Rattle.base.specs.declared.refusal.Refusal.{Refusal}
use Rattle.base.specs.Refusal.{number_of}
use Rattle.base.specs.Fault.{shown}
use Rattle.base.proofs.Refusals.{shown_number}
use Rattle.compile.specs.Compile.{refused, compiled, words_after, counted as said}
use Rattle.compile.proofs.Counts.{counted, compiled_exactly, fronts}
use Rattle.io.specs.Counts.{IsPrefixLen}
use Rattle.depot_text.specs.Input.{formed, input_words, input_numbers}
use Rattle.depot_text.specs.Text.{hex_line, hex_lines, decimal_within, input_line, refused_line, lent, network_text, output, text_after, text_length}

pub length_line : (w : ℕ) → length (hex_line w) ≡ 9
unfolding hex_line
length_line w = refl

-- compile's answer, and its words where nothing is refused
module _ (ws : List ℕ) (xs : List Float) where
  counted_clear : (c : Compiled) → said c ≡ compiled ws xs lent → (compiled ws xs lent).fault.number ≡ 0
  counted_clear c is = ap (λ a. a.fault.number) (sym is)

  pub few_words : (c : Compiled) → said c ≡ compiled ws xs lent → c.words ≤ 512
  few_words c is =
      let z = counted_clear c is in
      omega (arith, ap (λ a. a.words) is, (counted ws xs lent z).words, ((compiled_exactly ws xs lent).0 z).1.words)

  pub network_lines : (c : Compiled) → said c ≡ compiled ws xs lent → (before after : List ℕ) → after ≡ words_after ws xs lent before
      → hex_lines (take c.words after) ≡ network_text ws xs
  unfolding network_text
  network_lines c is before after e =
      let z = counted_clear c is in
      let n : c.words ≡ (compiled ws xs lent).words = ap (λ a. a.words) is in
      let front : take c.words after ≡ file_words ws xs = rw (e, n) ((fronts ws xs lent z).words before) in
      rw (front, eq-eqb (compiled ws xs lent).fault.number 0 z)

  pub network_refused : (r : Refusal) → refused (shown r) ≡ compiled ws xs lent → refused_line (number_of r.reason) r.place ≡ network_text ws xs
  unfolding network_text refused
  network_refused r is =
      let f : (compiled ws xs lent).fault ≡ shown r = ap (λ a. a.fault) (sym is) in
      rw (f, ne_eqb (number_of r.reason) 0 (shown_number r))

-- the text for the bytes of the input
module _ (bytes : List ℕ) (right : Bool) (is : right ≡ formed bytes) where
  pub output_none : right ≡ false → input_line ≡ output bytes
  unfolding output
  output_none h = let e : formed bytes ≡ false = sym is ∙ h in rw e

  pub output_some : (ws : List ℕ) (xs : List Float) → right ≡ true → ws ≡ input_words bytes → xs ≡ input_numbers bytes → network_text ws xs ≡ output bytes
  unfolding output
  output_some ws xs h p q = let e : formed bytes ≡ true = sym is ∙ h in rw (e, p, q)

-- what `depot` ensures: of a list too short for the text, and of one that the text was written into
abbrev pub Answered : List ℕ → List ℕ → List ℕ → ℕ → Type 0
Answered bytes before after count = (count ≡ text_length bytes before) × (after ≡ text_after bytes before) × (IsPrefixLen count after)

pub answered_short : (bytes before : List ℕ) → length before < length (output bytes) → Answered bytes before before 0
answered_short bytes before h =
    let e = lt-leb (length (output bytes)) (length before) h in
    (rw e, rw e, (omega arith, refl))

pub answered_written : (bytes before after part : List ℕ) (count : ℕ) → part ≡ output bytes → count ≡ length part → length part ≤ length before
    → after ≡ part ++ drop count before → Answered bytes before after count
answered_written bytes before after part count e n h w =
    let l : length (output bytes) ≤ length before = rw e at h in
    let t = le-leb (length (output bytes)) (length before) l in
    let k : count ≤ length after = omega (arith, n, ap length w, length-append part (drop count before)) in
    (rw (t, ← e) n, rw (t, ← e) (rw n at w), (k, sym (length-take-le count after k)))

-- ---- 4,608 bytes are always enough

length_decimal : (most n : ℕ) → length (decimal_within most n) ≤ most
unfolding decimal_within
length_decimal zero n = omega arith
length_decimal (suc most) n = go (ltb n 10) (length_decimal most (n / 10))
  where
    go : (b : Bool) → length (decimal_within most (n / 10)) ≤ most → length (cond b [] (decimal_within most (n / 10)) ++ ((48 + n % 10) ∷ [])) ≤ suc most
    go true h = omega arith
    go false h = omega (arith, length-append (decimal_within most (n / 10)) ((48 + n % 10) ∷ []))

refused_fits : (number place : ℕ) → length (refused_line number place) ≤ 50
unfolding refused_line
refused_fits number place = simp length-append (omega (arith, length_decimal 20 number, length_decimal 20 place))

lines_length : (ws : List ℕ) → length (hex_lines ws) ≡ 9 * length ws
unfolding hex_lines
lines_length ws = length_each 9 (length ws) _ (λ i. length_line (get_or ws i 0))

network_fits : (ws : List ℕ) (xs : List Float) → length (network_text ws xs) ≤ 4608
unfolding network_text
network_fits ws xs = go (eqb (compiled ws xs lent).fault.number 0) refl
  where
    go : (b : Bool) → eqb (compiled ws xs lent).fault.number 0 ≡ b → length (cond b (hex_lines (file_words ws xs)) (refused_line (compiled ws xs lent).fault.number (compiled ws xs lent).fault.place)) ≤ 4608
    go true e = omega (arith, lines_length (file_words ws xs), ((compiled_exactly ws xs lent).0 (eqb-true _ 0 e)).1.words)
    go false e = omega (arith, refused_fits (compiled ws xs lent).fault.number (compiled ws xs lent).fault.place)

pub output_fits : (bytes : List ℕ) → length (output bytes) ≤ 4608
unfolding output
output_fits bytes = go (formed bytes)
  where
    go : (b : Bool) → length (cond b (network_text (input_words bytes) (input_numbers bytes)) input_line) ≤ 4608
    go true = network_fits (input_words bytes) (input_numbers bytes)
    go false = omega arith

-- what the program writes: of a list of 4,608 bytes or more, the front that `depot` counts is the whole text
pub text_whole : (bytes before : List ℕ) → 4608 ≤ length before → take (text_length bytes before) (text_after bytes before) ≡ output bytes
text_whole bytes before h =
    let e = le-leb (length (output bytes)) (length before) (omega (arith, output_fits bytes)) in
    rw e (take_at (output bytes) (drop (length (output bytes)) before) (length (output bytes)) refl)
