-- The counts in compile's answer are those of the lists, 12 is said exactly where a lent list is short, and no words are needed exactly where the network is refused.
use mathlib.Core.Path.{◌≡◌, refl, ap, sym, ◌∙◌}
use mathlib.Core.List.{List, [], ◌∷◌, ◌++◌}
use mathlib.Core.Bool.{Bool, true, false, cond}
use mathlib.Core.Logic.{◌↔◌}
use Prim.Native.Nat.{ℕ, ◌+◌, ◌≤◌, ◌<◌}
use native.Mathlib.Omega.{arith}
use native.Mathlib.Nat.{zero-add}
use lib.ListN.{length, length-append, get_or}
use lib.Dec.{eqb, leb}
use lib.Ieee.{Float}
use borrow.Author.Tests.{leb-true, le-leb, eqb-true, eqb-false}
use Rattle.base.specs.Word.{word}
use Rattle.base.specs.Fault.{Fault}
use Rattle.base.specs.Fault.{fault, clear}
use Rattle.base.proofs.Firsts.{Clear, Proper, or_left, or_right, or_clear, or_proper, unless_true, unless_clear, unless_proper, first_clear, all_clear, first_proper}
use Rattle.base.proofs.Left.{left_front}
use Rattle.base.proofs.Loops.{Every, every_nil, every_cons, all_at}
use Rattle.nl.specs.Expr.{words}
use Rattle.nl.specs.File.{part_words, at_rows, at_objective, model_words}
use Rattle.acopf.specs.Columns.{column_lower, column_upper, column_start}
use Rattle.acopf.specs.Rows.{row_lower, row_upper}
use Rattle.acopf.specs.Model.{model, file_words}
use Rattle.acopf.specs.Factor.{constants64, network_fault}
use Rattle.acopf.proofs.Order.{network_proper}
use Rattle.acopf.proofs.Counts.{lower_columns, upper_columns, start_columns, lower_rows, upper_rows, model_rows, length_shared, model_shared, count_constants}
use Rattle.compile.specs.Compile.{Answer, lengths, fault_short, compile_fault, refused, accepted, compiled, sized}
use Rattle.compile.specs.Counted.{Counted, Suffice, Fronts}
use Rattle.compile.proofs.Order.{compile_is}
use Rattle.compile.proofs.Answer.{sized_accepted, network_refused}

-- the answer of one of two whose number is 0, where the other's is not
answered : (P : Answer → Type 0) (b : Bool) (full refused : Answer) → P full → (b ≡ false → refused.fault.number ≡ 0 → ⊥)
    → (cond b full refused).fault.number ≡ 0 → P (cond b full refused)
answered P true full refused h k e = h
answered P false full refused h k e = absurd (k refl e)

-- the fault of the two answers of `compiled`
one_of_two : (f : Fault) (full refused : Answer) → Proper f → full.fault ≡ clear → refused.fault ≡ f → (cond (eqb f.number 0) full refused).fault ≡ f
one_of_two f full refused proper h k = go (eqb f.number 0) refl
  where
    go : (b : Bool) → eqb f.number 0 ≡ b → (cond b full refused).fault ≡ f
    go true p = h ∙ sym (proper (eqb-true f.number 0 p))
    go false p = k

module _ (ws : List ℕ) (xs : List Float) where
  pub counted : (lent : List ℕ) → (compiled ws xs lent).fault.number ≡ 0 → Counted ws xs (compiled ws xs lent)
  unfolding compiled accepted refused
  counted lent e =
      answered (Counted ws xs) (eqb (compile_fault ws xs lent).number 0) _ _
      (record {
        words = refl;
        constants = refl;
        model_constants_is = count_constants ws xs;
        column_lower_is = sym (lower_columns ws xs);
        column_upper_is = sym (upper_columns ws xs);
        column_start_is = sym (start_columns ws xs);
        row_lower_is = sym (lower_rows ws xs);
        row_upper_is = sym (upper_rows ws xs);
        model_rows = sym (model_rows ws xs);
        model_shared = length_shared ws xs ∙ sym (model_shared ws xs);
        shared = length_shared ws xs;
      })
      (eqb-false (compile_fault ws xs lent).number 0) e

  -- ---- 12

  module _ (lent : List ℕ) where
    room : Clear (fault_short ws xs lent) → (i : ℕ) → i < 7 → get_or (lengths ws xs) i 0 ≤ get_or lent i 0
    unfolding fault_short
    room c i l = leb-true _ _ (unless_true _ 12 (i + 1) (omega arith) (first_clear 7 _ c i l))

    short_proper : Proper (fault_short ws xs lent)
    unfolding fault_short
    short_proper = first_proper 7 _ (λ i. unless_proper _ 12 (i + 1) (omega arith))

    roomy : Every (λ i n. n ≤ get_or lent i 0) 0 (lengths ws xs) → fault_short ws xs lent ≡ clear
    unfolding fault_short lengths
    roomy h =
        short_proper (all_clear 7 _ (λ i l.
        let k : get_or (lengths ws xs) i 0 ≤ get_or lent i 0 = rw zero-add at (all_at (λ i n. n ≤ get_or lent i 0) 0 (lengths ws xs) h.all i 0 l) in
        ap (λ y. y.number) (unless_clear (leb (get_or (lengths ws xs) i 0) (get_or lent i 0)) (fault 12 (i + 1)) (le-leb _ _ k))))

    -- 12 is not said exactly where all seven lists suffice
    pub short_exactly : (fault_short ws xs lent ≡ clear) ↔ Suffice ws xs lent
    unfolding lengths
    short_exactly = (
      λ e.
          let r = room (ap (λ f. f.number) e) in
          record {
            words = r 0 (omega arith);
            constants = r 1 (omega arith);
            column_lower_is = rw (lower_columns ws xs) (r 2 (omega arith));
            column_upper_is = rw (upper_columns ws xs) (r 3 (omega arith));
            column_start_is = rw (start_columns ws xs) (r 4 (omega arith));
            row_lower_is = rw (lower_rows ws xs) (r 5 (omega arith));
            row_upper_is = rw (upper_rows ws xs) (r 6 (omega arith));
          },
      λ s.
          roomy (every_cons s.words (every_cons s.constants
          (every_cons (rw (lower_columns ws xs) at s.column_lower_is) (every_cons (rw (upper_columns ws xs) at s.column_upper_is) (every_cons (rw (start_columns ws xs) at s.column_start_is)
          (every_cons (rw (lower_rows ws xs) at s.row_lower_is) (every_cons (rw (upper_rows ws xs) at s.row_upper_is) every_nil))))))),
    )

    -- ---- nothing is refused

    compile_proper : Proper (compile_fault ws xs lent)
    compile_proper c =
        let is = compile_is ws xs lent in
        is ∙ or_proper (network_fault ws xs) (fault_short ws xs lent) short_proper (ap (λ f. f.number) (sym is) ∙ c)

    -- the answer's fault is compile's first
    pub fault_is : (compiled ws xs lent).fault ≡ compile_fault ws xs lent
    unfolding compiled accepted refused
    fault_is = one_of_two (compile_fault ws xs lent) _ _ compile_proper refl refl

    number_is : (compiled ws xs lent).fault.number ≡ (compile_fault ws xs lent).number
    number_is = ap (λ f. f.number) fault_is

    -- the answer is 0 exactly where the network is not refused and the lists suffice: "12 where lists suffice" is ruled out
    pub compiled_exactly : ((compiled ws xs lent).fault.number ≡ 0) ↔ ((network_fault ws xs ≡ clear) × Suffice ws xs lent)
    compiled_exactly = (
      λ e. let c = ap (λ f. f.number) (sym (compile_is ws xs lent)) ∙ sym number_is ∙ e in
          (network_proper ws xs (or_left (network_fault ws xs) (fault_short ws xs lent) c), short_exactly.0 (short_proper (or_right (network_fault ws xs) (fault_short ws xs lent) c))),
      λ h. number_is ∙ ap (λ f. f.number) (compile_is ws xs lent)
          ∙ or_clear (network_fault ws xs) (fault_short ws xs lent) (ap (λ f. f.number) h.0) (ap (λ f. f.number) (short_exactly.1 h.1)),
    )

    pub fronts : (compiled ws xs lent).fault.number ≡ 0 → Fronts ws xs lent
    fronts e =
        let c : Clear (compile_fault ws xs lent) = sym number_is ∙ e in
        let n = counted lent e in
        record {
          words = λ before. left_front (compile_fault ws xs lent) (file_words ws xs) before _ c n.words;
          constants = λ before. left_front (compile_fault ws xs lent) (constants64 ws xs) before _ c n.constants;
          column_lower_is = λ before. left_front (compile_fault ws xs lent) (column_lower ws xs) before _ c n.column_lower_is;
          column_upper_is = λ before. left_front (compile_fault ws xs lent) (column_upper ws xs) before _ c n.column_upper_is;
          column_start_is = λ before. left_front (compile_fault ws xs lent) (column_start ws xs) before _ c n.column_start_is;
          row_lower_is = λ before. left_front (compile_fault ws xs lent) (row_lower ws xs) before _ c n.row_lower_is;
          row_upper_is = λ before. left_front (compile_fault ws xs lent) (row_upper ws xs) before _ c n.row_upper_is;
        }

  -- ---- what a host is told before it lends lists

  -- the numbers are those of the answer, where that refuses nothing
  pub told : (lent : List ℕ) → (compiled ws xs lent).fault.number ≡ 0 → compiled ws xs lent ≡ sized ws xs
  unfolding compiled refused
  told lent e =
      answered (λ c. c ≡ accepted ws xs) (eqb (compile_fault ws xs lent).number 0) _ _ refl (eqb-false (compile_fault ws xs lent).number 0) e
      ∙ sized_accepted ws xs (sym ((compiled_exactly lent).0 e).0)

  -- a file has at least its last word
  pub words_some : 0 < length (file_words ws xs)
  unfolding file_words model_words
  words_some =
      let M = model ws xs in
      let a = part_words 10 0 0 M.shared in
      let b = part_words 11 0 (at_rows M) M.rows in
      let c = word 12 0 ∷ words (at_objective M) M.objective ++ (word 13 0 ∷ []) in
      let l = length-append a (b ++ c) in
      let k = length-append b c in
      omega (arith, l, k)

  -- so that 0 is said exactly of a network that 1 to 11 refuse
  pub words_exactly : ((sized ws xs).words ≡ 0) ↔ ¬ (network_fault ws xs ≡ clear)
  unfolding accepted refused sized
  words_exactly = (
    λ e k. let z : length (file_words ws xs) ≡ 0 = ap (λ c. c.words) (sized_accepted ws xs (sym k)) ∙ e in
        omega (arith, z, words_some),
    λ n. sym (ap (λ c. c.words) (network_refused ws xs (lengths ws xs) refl (λ c. n (network_proper ws xs c)))),
  )
