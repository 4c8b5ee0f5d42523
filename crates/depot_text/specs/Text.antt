-- Document 01, "Depot M": the text that the program prints, as its bytes in ASCII. 10 ends a line.
use Rattle.std.specs.Prelude.{cond, List, [], ◌∷◌, ◌++◌, ℕ, zero, suc, ◌+◌, ◌/◌, ◌%◌, length, get_or, drop, replicate, eqb, leb, ltb, Float}
use Rattle.base.specs.Fault.{Fault}
use Rattle.base.specs.Loop.{each}
use Rattle.acopf.specs.Model.{file_words}
use Rattle.compile.specs.Compile.{compiled}
use Rattle.depot_text.specs.Input.{formed, input_words, input_numbers}

-- an upper-case hexadecimal digit: 0 to 9, A to F
abbrev pub hex_digit : ℕ → ℕ
hex_digit d = cond (ltb d 10) (48 + d) (55 + d)

-- "eight upper-case hexadecimal digits a line"
unfoldable pub hex_line : ℕ → List ℕ
hex_line w =
    hex_digit (w / 0x1000_0000 % 16) ∷ hex_digit (w / 0x100_0000 % 16) ∷ hex_digit (w / 0x10_0000 % 16) ∷ hex_digit (w / 0x1_0000 % 16)
    ∷ hex_digit (w / 0x1000 % 16) ∷ hex_digit (w / 0x100 % 16) ∷ hex_digit (w / 0x10 % 16) ∷ hex_digit (w % 16) ∷ 10 ∷ []

unfoldable pub hex_lines : List ℕ → List ℕ
hex_lines ws = each (length ws) (λ i. hex_line (get_or ws i 0))

-- "in decimal": the last digit, and before it those of the tenth, where the number is 10 or more; at most `most` digits
unfoldable pub decimal_within : ℕ → ℕ → List ℕ
decimal_within zero n = []
decimal_within (suc most) n = cond (ltb n 10) [] (decimal_within most (n / 10)) ++ ((48 + n % 10) ∷ [])

-- 20 digits hold every 64-bit number
abbrev pub decimal : ℕ → List ℕ
decimal n = decimal_within 20 n

-- "input"
abbrev pub input_line : List ℕ
input_line = 105 ∷ 110 ∷ 112 ∷ 117 ∷ 116 ∷ 10 ∷ []

-- "refused", then number and place in decimal, a space between
unfoldable pub refused_line : ℕ → ℕ → List ℕ
refused_line number place =
    (114 ∷ 101 ∷ 102 ∷ 117 ∷ 115 ∷ 101 ∷ 100 ∷ 32 ∷ []) ++ decimal number ++ (32 ∷ []) ++ decimal place ++ (10 ∷ [])

-- "lends compile lists of 512 each"
abbrev pub lent : List ℕ
lent = replicate 7 512

-- what is printed for a network with this refusal, or with none: the model words, or the refusal
abbrev pub answer_text : List ℕ → List Float → Fault → List ℕ
answer_text ws xs f = cond (eqb f.number 0) (hex_lines (file_words ws xs)) (refused_line f.number f.place)

unfoldable pub network_text : List ℕ → List Float → List ℕ
network_text ws xs =
    let f = (compiled ws xs lent).fault in
    answer_text ws xs f

-- what is printed for the bytes of standard input
unfoldable pub output : List ℕ → List ℕ
output bytes = cond (formed bytes) (network_text (input_words bytes) (input_numbers bytes)) input_line

-- what a lent text list then holds, and how many of its bytes are the text: a list too short for all of it is left as it was, and the
-- count is 0
abbrev pub text_after : List ℕ → List ℕ → List ℕ
text_after bytes before = cond (leb (length (output bytes)) (length before)) (output bytes ++ drop (length (output bytes)) before) before

abbrev pub text_length : List ℕ → List ℕ → ℕ
text_length bytes before = cond (leb (length (output bytes)) (length before)) (length (output bytes)) 0
