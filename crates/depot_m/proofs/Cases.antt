-- Document 01, "Depot M": the cases marked P, in one table with one proof.
use Prim.Native.Nat.{ℕ, ◌+◌, ◌-◌, ◌^◌}
use mathlib.Core.Bool.{Bool, true, false, ◌&&◌}
use mathlib.Core.List.{List, [], ◌∷◌, ◌++◌, map}
use lib.ListN.{length, take, replicate}
use lib.Dec.{T, eqb}
use lib.Ieee.{Float, inf, binary64, add, sub, mul, div, neg, of_bits, to_bits, to_unsigned, of_int, round, lt, le, eq, ne}
use Rattle.base.specs.Loop.{loop, table, each, tally}
use Rattle.base.specs.Fault as base
use Rattle.base.specs.Fault.{unless, or_else, first}
use Rattle.float.specs.Number.{zero64, half64, one64, is_finite, absolute, maximum}
use Rattle.fdlibm.specs.Kernel.{kernel_sin, kernel_cos}
use Rattle.fdlibm.specs.RemPio2.{rem_pio2, near_positive, near_negative, signed, first_iteration, second_iteration, no_cancellation}
use Rattle.fdlibm.specs.Trig.{cosine, sine, sin_reduced, cos_reduced}
use Rattle.fdlibm.specs.Sqrt.{bit_by_bit, normalized, square_root}
use Rattle.fdlibm.specs.Hypot.{scaled, middle, small, endless, ordered, hypotenuse}
use Rattle.nl.specs.Expr.{load_for, words, words_of, constants, constants_of}
use Rattle.nl.specs.File.{part_words, model_words, model_constants}
use Rattle.nl.specs.Reader.{word_ok, arity, uses, read_head, read_expr, is_mark, read_parts, read_last, read_end, read_after, read_file}
use Rattle.nl.specs.Finder.{find, row_words}
use Rattle.network.specs.Word.{load_right}
use Rattle.network.specs.Network.{kind_before, buses, generators, branches, references, generator_at, branch_at, needed, epigraphs_before, columns}
use Rattle.bounds.specs.Bounds.{swing64, huge64, finite_or, clamp_start, bounds_right, angle_right, positive_violation}
use Rattle.network.specs.Fault.{word_right, fault_words, fault_size, fault_count}
use Rattle.tables.specs.Fault.{blanks, fault_blank, fault_curve, fault_shift, fault_bounds, fault_spread, fault_rating, fault_square, branch_fault, fault_branches, fault_tables}
use Rattle.piecewise_cost.specs.Curve.{slope, intercept, evaluate}
use Rattle.pi_model.specs.Flow.{coefficients_of, flow_at, flow_of, flow}
use Rattle.acopf.specs.Columns.{vm_lower, vm_upper, pg_lower, pg_upper, qg_lower, qg_upper, va_start, vm_start, pg_start, qg_start, epigraph_start, column_lower, column_upper, column_start}
use Rattle.acopf.specs.Parts.{branch_parts, shared_parts}
use Rattle.acopf.specs.Rows.{balance_row, p_balance_row, q_balance_row, thermal_rows, segment_row, segment_rows, rows, row_lower, row_upper}
use Rattle.acopf.specs.Model.{cost_term, objective, objective_constant, model, file_words}
use Rattle.lists.specs.Finite.{first_non_finite, point_fault}
use Rattle.acopf.specs.Factor.{constants64, fault_factor, network_fault}
use Rattle.compile.specs.Compile.{lengths, fault_short, compile_fault, refused, accepted, compiled}
use Rattle.derived.specs.Outputs.{injected, withdrawn, p_injection, q_injection, cost, own_objective, flows, outputs}
use Rattle.residuals.specs.Residuals.{largest, largest_where, p_balance, q_balance, active_balance, reactive_balance, thermal_limits, variable_bounds, reference_angles, angle_limits, epigraphs, objective_difference, residuals}
use Rattle.validate.specs.Tolerances.{tiny64, primal_tolerances, fault_tolerance, fault_above}
use Rattle.validate.specs.Check.{solved, fault_output, fault_point, fault_swing, fault_derived, fault_of, check_fault, checked}
use Rattle.depot_text.specs.Input.{formed, input_words, input_numbers}
use Rattle.little_endian.specs.Bytes.{word_at, bits_at}
use Rattle.depot_text.specs.Text.{hex_line, hex_lines, decimal_within, refused_line, network_text, output}

-- the numbers of a decimal, as a literal is read
unfoldable d : ℕ → ℕ → Float
unfolding round
d n m = round binary64 false n m

unfoldable all : List Bool → Bool
all [] = true
all (c ∷ cs) = c && all cs

unfoldable same_list : List ℕ → List ℕ → Bool
same_list [] [] = true
same_list [] (b ∷ bs) = false
same_list (a ∷ as') [] = false
same_list (a ∷ as') (b ∷ bs) = eqb a b && same_list as' bs

abbrev bits : List Float → List ℕ
bits xs = map (to_bits binary64) xs

-- seven lists of 512 lent
abbrev lent : List ℕ
lent = replicate 7 512

-- the network is accepted with that file and objective constant
unfoldable compiles : List ℕ → List Float → List ℕ → List Float → Float → Bool
compiles ws xs file cs objective =
    let r = compiled ws xs lent in
    eqb r.fault.number 0 && eqb r.fault.place 0 && same_list (file_words ws xs) file && same_list (bits (constants64 ws xs)) (bits cs)
    && eqb (to_bits binary64 r.objective) (to_bits binary64 objective)
    && same_list (r.words ∷ r.constants ∷ r.columns ∷ r.rows ∷ r.shared ∷ []) (length file ∷ length cs ∷ columns ws ∷ length (rows ws xs) ∷ length (shared_parts ws xs) ∷ [])

-- the program prints that text for that input
unfoldable prints : List ℕ → List ℕ → Bool
prints input text = same_list (output input) text

unfoldable starts : List ℕ → List Float → List Float → Bool
starts ws xs expected = eqb (compiled ws xs lent).fault.number 0 && same_list (bits (column_start ws xs)) (bits expected)

unfoldable compile_refuses : List ℕ → List Float → ℕ → ℕ → Bool
compile_refuses ws xs number place =
    let r = compiled ws xs lent in
    eqb r.fault.number number && eqb r.fault.place place
    && same_list (r.words ∷ r.constants ∷ r.columns ∷ r.rows ∷ r.shared ∷ to_bits binary64 r.objective ∷ []) (replicate 6 0)

-- the point's answer
unfoldable answers : List ℕ → List Float → List Float → Float → ℕ → ℕ → Float → List Float → Bool
answers ws xs x solver number place objective residuals =
    let r = checked ws xs x solver primal_tolerances 512 in
    eqb r.fault.number number && eqb r.fault.place place && eqb (to_bits binary64 r.objective) (to_bits binary64 objective)
    && same_list (bits r.residuals) (bits residuals)

unfoldable finds : List ℕ → ℕ → ℕ → ℕ → ℕ → ℕ → List ℕ → Bool
finds file constants columns r number place part =
    let f = base.fault_of (find file constants columns r) in
    eqb f.number number && eqb f.place place && same_list (row_words file constants columns r) part

-- ---- Depot M

abbrev M : List ℕ
M = 0x10000001 ∷ 0x20000001 ∷ 0x30001000 ∷ 0x50000000 ∷ []

-- the numbers, with pmin, pmax and both starts open
abbrev numbers : Float → Float → Float → Float → List Float
numbers pmin pmax va vm =
    d 1 1 ∷ d 1 4 ∷ d 0 1 ∷ d 0 1 ∷ d 9 10 ∷ d 11 10 ∷ va ∷ vm
    ∷ pmin ∷ pmax ∷ neg (d 1 1) ∷ d 1 1 ∷ d 2 1 ∷ d 3 1 ∷ d 4 1 ∷ d 1 1 ∷ d 1 4 ∷ []

abbrev xs : List Float
xs = numbers (d 0 1) (d 2 1) (d 0 1) (d 1 1)

abbrev file : List ℕ
file =
    0xA0000000 ∷ 0x60000000 ∷ 0x10000001 ∷ 0xB0000000 ∷ 0x90000003 ∷ 0x00000000 ∷ 0x50000000 ∷ 0x00000001 ∷ 0x20000000 ∷ 0x10000002
    ∷ 0xB0000001 ∷ 0x90000003 ∷ 0x00000002 ∷ 0x50000000 ∷ 0x00000003 ∷ 0x20000000 ∷ 0x10000003 ∷ 0xB0000002 ∷ 0x10000000
    ∷ 0xC0000000 ∷ 0x90000002 ∷ 0x50000000 ∷ 0x00000004 ∷ 0x60000000 ∷ 0x10000002 ∷ 0x50000000 ∷ 0x00000005 ∷ 0x10000002 ∷ 0xD0000000 ∷ []

-- M as the program reads it, eight bytes a line: the counts, the words, the numbers
abbrev input : List ℕ
input =
    4 ∷ 0 ∷ 0 ∷ 0 ∷ 17 ∷ 0 ∷ 0 ∷ 0
    ∷ 1 ∷ 0 ∷ 0 ∷ 16 ∷ 1 ∷ 0 ∷ 0 ∷ 32
    ∷ 0 ∷ 16 ∷ 0 ∷ 48 ∷ 0 ∷ 0 ∷ 0 ∷ 80
    ∷ 0 ∷ 0 ∷ 0 ∷ 0 ∷ 0 ∷ 0 ∷ 240 ∷ 63
    ∷ 0 ∷ 0 ∷ 0 ∷ 0 ∷ 0 ∷ 0 ∷ 208 ∷ 63
    ∷ 0 ∷ 0 ∷ 0 ∷ 0 ∷ 0 ∷ 0 ∷ 0 ∷ 0
    ∷ 0 ∷ 0 ∷ 0 ∷ 0 ∷ 0 ∷ 0 ∷ 0 ∷ 0
    ∷ 205 ∷ 204 ∷ 204 ∷ 204 ∷ 204 ∷ 204 ∷ 236 ∷ 63
    ∷ 154 ∷ 153 ∷ 153 ∷ 153 ∷ 153 ∷ 153 ∷ 241 ∷ 63
    ∷ 0 ∷ 0 ∷ 0 ∷ 0 ∷ 0 ∷ 0 ∷ 0 ∷ 0
    ∷ 0 ∷ 0 ∷ 0 ∷ 0 ∷ 0 ∷ 0 ∷ 240 ∷ 63
    ∷ 0 ∷ 0 ∷ 0 ∷ 0 ∷ 0 ∷ 0 ∷ 0 ∷ 0
    ∷ 0 ∷ 0 ∷ 0 ∷ 0 ∷ 0 ∷ 0 ∷ 0 ∷ 64
    ∷ 0 ∷ 0 ∷ 0 ∷ 0 ∷ 0 ∷ 0 ∷ 240 ∷ 191
    ∷ 0 ∷ 0 ∷ 0 ∷ 0 ∷ 0 ∷ 0 ∷ 240 ∷ 63
    ∷ 0 ∷ 0 ∷ 0 ∷ 0 ∷ 0 ∷ 0 ∷ 0 ∷ 64
    ∷ 0 ∷ 0 ∷ 0 ∷ 0 ∷ 0 ∷ 0 ∷ 8 ∷ 64
    ∷ 0 ∷ 0 ∷ 0 ∷ 0 ∷ 0 ∷ 0 ∷ 16 ∷ 64
    ∷ 0 ∷ 0 ∷ 0 ∷ 0 ∷ 0 ∷ 0 ∷ 240 ∷ 63
    ∷ 0 ∷ 0 ∷ 0 ∷ 0 ∷ 0 ∷ 0 ∷ 208 ∷ 63 ∷ []

-- the file's words as they are printed, a line each
abbrev text : List ℕ
text =
    65 ∷ 48 ∷ 48 ∷ 48 ∷ 48 ∷ 48 ∷ 48 ∷ 48 ∷ 10
    ∷ 54 ∷ 48 ∷ 48 ∷ 48 ∷ 48 ∷ 48 ∷ 48 ∷ 48 ∷ 10
    ∷ 49 ∷ 48 ∷ 48 ∷ 48 ∷ 48 ∷ 48 ∷ 48 ∷ 49 ∷ 10
    ∷ 66 ∷ 48 ∷ 48 ∷ 48 ∷ 48 ∷ 48 ∷ 48 ∷ 48 ∷ 10
    ∷ 57 ∷ 48 ∷ 48 ∷ 48 ∷ 48 ∷ 48 ∷ 48 ∷ 51 ∷ 10
    ∷ 48 ∷ 48 ∷ 48 ∷ 48 ∷ 48 ∷ 48 ∷ 48 ∷ 48 ∷ 10
    ∷ 53 ∷ 48 ∷ 48 ∷ 48 ∷ 48 ∷ 48 ∷ 48 ∷ 48 ∷ 10
    ∷ 48 ∷ 48 ∷ 48 ∷ 48 ∷ 48 ∷ 48 ∷ 48 ∷ 49 ∷ 10
    ∷ 50 ∷ 48 ∷ 48 ∷ 48 ∷ 48 ∷ 48 ∷ 48 ∷ 48 ∷ 10
    ∷ 49 ∷ 48 ∷ 48 ∷ 48 ∷ 48 ∷ 48 ∷ 48 ∷ 50 ∷ 10
    ∷ 66 ∷ 48 ∷ 48 ∷ 48 ∷ 48 ∷ 48 ∷ 48 ∷ 49 ∷ 10
    ∷ 57 ∷ 48 ∷ 48 ∷ 48 ∷ 48 ∷ 48 ∷ 48 ∷ 51 ∷ 10
    ∷ 48 ∷ 48 ∷ 48 ∷ 48 ∷ 48 ∷ 48 ∷ 48 ∷ 50 ∷ 10
    ∷ 53 ∷ 48 ∷ 48 ∷ 48 ∷ 48 ∷ 48 ∷ 48 ∷ 48 ∷ 10
    ∷ 48 ∷ 48 ∷ 48 ∷ 48 ∷ 48 ∷ 48 ∷ 48 ∷ 51 ∷ 10
    ∷ 50 ∷ 48 ∷ 48 ∷ 48 ∷ 48 ∷ 48 ∷ 48 ∷ 48 ∷ 10
    ∷ 49 ∷ 48 ∷ 48 ∷ 48 ∷ 48 ∷ 48 ∷ 48 ∷ 51 ∷ 10
    ∷ 66 ∷ 48 ∷ 48 ∷ 48 ∷ 48 ∷ 48 ∷ 48 ∷ 50 ∷ 10
    ∷ 49 ∷ 48 ∷ 48 ∷ 48 ∷ 48 ∷ 48 ∷ 48 ∷ 48 ∷ 10
    ∷ 67 ∷ 48 ∷ 48 ∷ 48 ∷ 48 ∷ 48 ∷ 48 ∷ 48 ∷ 10
    ∷ 57 ∷ 48 ∷ 48 ∷ 48 ∷ 48 ∷ 48 ∷ 48 ∷ 50 ∷ 10
    ∷ 53 ∷ 48 ∷ 48 ∷ 48 ∷ 48 ∷ 48 ∷ 48 ∷ 48 ∷ 10
    ∷ 48 ∷ 48 ∷ 48 ∷ 48 ∷ 48 ∷ 48 ∷ 48 ∷ 52 ∷ 10
    ∷ 54 ∷ 48 ∷ 48 ∷ 48 ∷ 48 ∷ 48 ∷ 48 ∷ 48 ∷ 10
    ∷ 49 ∷ 48 ∷ 48 ∷ 48 ∷ 48 ∷ 48 ∷ 48 ∷ 50 ∷ 10
    ∷ 53 ∷ 48 ∷ 48 ∷ 48 ∷ 48 ∷ 48 ∷ 48 ∷ 48 ∷ 10
    ∷ 48 ∷ 48 ∷ 48 ∷ 48 ∷ 48 ∷ 48 ∷ 48 ∷ 53 ∷ 10
    ∷ 49 ∷ 48 ∷ 48 ∷ 48 ∷ 48 ∷ 48 ∷ 48 ∷ 50 ∷ 10
    ∷ 68 ∷ 48 ∷ 48 ∷ 48 ∷ 48 ∷ 48 ∷ 48 ∷ 48 ∷ 10 ∷ []

abbrev none : List Float
none = replicate 8 (d 0 1)

-- none but residual i, from 1
abbrev only : ℕ → Float → List Float
only i r = replicate (i - 1) (d 0 1) ++ (r ∷ replicate (8 - i) (d 0 1))

-- the double above 1e-6
abbrev above : Float
above = of_bits binary64 (to_bits binary64 (d 1 1000000) + 1)

cases : List Bool
cases =
    compiles M xs file (neg (d 1 1) ∷ neg (d 0 1) ∷ neg (d 1 4) ∷ d 0 1 ∷ d 1 1 ∷ d 3 1 ∷ []) (d 4 1)
    ∷ prints input text
    ∷ answers M xs (d 0 1 ∷ d 1 1 ∷ d 1 1 ∷ d 1 4 ∷ []) (d 8 1) 0 0 (d 8 1) none
    ∷ answers M xs (d 1 1000000 ∷ d 1 1 ∷ d 1 1 ∷ d 1 4 ∷ []) (d 8 1) 0 0 (d 8 1) (only 4 (d 1 1000000))
    ∷ answers M xs (above ∷ d 1 1 ∷ d 1 1 ∷ d 1 4 ∷ []) (d 8 1) 16 4 (d 0 1) (only 4 above)
    ∷ answers M xs (d 0 1 ∷ d 1 1 ∷ d 3 2 ∷ d 1 4 ∷ []) (d 1075 100) 16 1 (d 0 1) (only 1 (d 1 2))
    ∷ answers M xs (d 0 1 ∷ d 1 1 ∷ d 1 1 ∷ []) (d 8 1) 13 4 (d 0 1) none
    ∷ answers M xs (d 0 1 ∷ d 1 1 ∷ d 1 1 ∷ d 1 4 ∷ []) (inf false) 15 2 (d 0 1) none
    ∷ compile_refuses M (numbers (d 2 1) (d 1 1) (d 0 1) (d 1 1)) 7 2
    ∷ answers (0x10000001 ∷ 0x20000001 ∷ 0x30000000 ∷ 0x50000000 ∷ []) (numbers (d 2 1) (d 1 1) (d 0 1) (d 1 1)) (d 0 1 ∷ d 1 1 ∷ d 1 1 ∷ d 1 4 ∷ []) (d 8 1) 0 0 (d 8 1) none
    ∷ answers M (numbers (d 2 1) (d 1 1) (d 0 1) (d 1 1)) (d 0 1 ∷ d 1 1 ∷ d 1 1 ∷ d 1 4 ∷ []) (d 8 1) 7 2 (d 0 1) none
    ∷ compiles (0x10000001 ∷ 0x20000001 ∷ 0x30000000 ∷ 0x50000000 ∷ []) (numbers (d 2 1) (d 1 1) (d 0 1) (d 1 1)) file (neg (d 1 1) ∷ neg (d 0 1) ∷ neg (d 1 4) ∷ d 0 1 ∷ d 1 1 ∷ d 3 1 ∷ []) (d 4 1)
    ∷ starts M (numbers (d 0 1) (d 2 1) (d 7 1) (d 5 4)) (d 7 1 ∷ d 11 10 ∷ d 1 1 ∷ d 1 4 ∷ [])
    ∷ finds file 6 4 2 0 0 (0x10000000 ∷ [])
    ∷ finds file 6 4 3 18 3 []
    ∷ finds (take 28 file) 6 4 2 17 28 []
    ∷ []

all_right : T (all cases)
unfolding loop table each tally unless or_else first is_finite absolute maximum kernel_sin kernel_cos rem_pio2 near_positive near_negative signed first_iteration second_iteration no_cancellation cosine sine sin_reduced cos_reduced bit_by_bit normalized square_root scaled middle small endless ordered hypotenuse load_for words words_of constants constants_of part_words model_words model_constants word_ok arity uses read_head read_expr is_mark read_parts read_last read_end read_after read_file find row_words load_right kind_before buses generators branches references generator_at branch_at needed epigraphs_before columns finite_or clamp_start bounds_right angle_right positive_violation word_right fault_words fault_size blanks fault_count fault_blank fault_curve fault_shift fault_bounds fault_spread fault_rating fault_square branch_fault fault_branches fault_tables slope intercept evaluate coefficients_of flow_at flow_of flow vm_lower vm_upper pg_lower pg_upper qg_lower qg_upper va_start vm_start pg_start qg_start epigraph_start column_lower column_upper column_start branch_parts shared_parts balance_row p_balance_row q_balance_row thermal_rows segment_row segment_rows rows row_lower row_upper cost_term objective objective_constant model file_words first_non_finite constants64 fault_factor network_fault lengths fault_short compile_fault refused accepted compiled injected withdrawn p_injection q_injection cost own_objective flows outputs largest largest_where p_balance q_balance active_balance reactive_balance thermal_limits variable_bounds reference_angles angle_limits epigraphs objective_difference residuals primal_tolerances solved fault_output fault_tolerance fault_point point_fault fault_swing fault_derived fault_above fault_of check_fault checked add sub mul div neg of_bits to_bits to_unsigned of_int round lt le eq ne d all same_list compiles prints starts compile_refuses answers finds cases word_at bits_at formed input_words input_numbers hex_line hex_lines decimal_within refused_line network_text output
all_right = tt

-- the constants that the definitions name by their bits are 0, 0.5, 1, 1024, 1e19 and 1e-6
named : T (same_list (bits (zero64 ∷ half64 ∷ one64 ∷ swing64 ∷ huge64 ∷ tiny64 ∷ [])) (bits (d 0 1 ∷ d 1 2 ∷ d 1 1 ∷ d 1024 1 ∷ d (10 ^ 19) 1 ∷ d 1 1000000 ∷ [])))
unfolding same_list d of_bits to_bits
named = tt
