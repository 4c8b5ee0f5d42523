-- A refusal of 1 to 10 is the first: it is the fault of the section that has its number, and every section before is clear. 8, 9, 10 go branch by branch.
use mathlib.Core.Path.{◌≡◌, refl}
use mathlib.Core.List.{List}
use mathlib.Core.Bool.{Bool, true, false, cond}
use Prim.Native.Nat.{ℕ, ◌<◌}
use native.Mathlib.Omega.{arith}
use lib.ListN.{length}
use lib.Dec.{eqb}
use lib.Ieee.{Float}
use Rattle.base.specs.Fault.{fault, unless, first}
use Rattle.base.specs.Order.{IsFirst}
use Rattle.base.proofs.Firsts.{Clear, Spans, spans_unless, spans_or, spans_first, spans_wide, first_is}
use Rattle.base.proofs.Order.{AllGive, gives_one, gives_span, refusal_is_first}
use Rattle.network.specs.Network.{branches}
use Rattle.network.specs.Fault.{word_right, fault_words, fault_size, fault_count}
use Rattle.tables.specs.Fault.{blanks, fault_blank, fault_curve, fault_shift, fault_bounds, fault_spread, fault_rating, fault_square, branch_sections, branch_fault, fault_branches, table_sections, fault_tables}

module _ (ws : List ℕ) where
  words_spans : Spans 1 1 (fault_words ws)
  unfolding fault_words
  words_spans = go (eqb (length ws) 0)
    where
      go : (b : Bool) → Spans 1 1 (cond b (fault 1 0) (first (length ws) (λ i. unless (word_right ws i) (fault 1 i))))
      go true = record { low = λ c. omega arith; high = λ c. omega arith }
      go false = spans_first (length ws) (λ i. spans_unless (word_right ws i) 1 i (omega arith) (omega arith))

  size_spans : Spans 2 2 (fault_size ws)
  unfolding fault_size
  size_spans =
      spans_or (one _ _) (spans_or (one _ _) (spans_or (one _ _) (spans_or (one _ _) (spans_or (one _ _) (spans_first _ (λ g. one _ _))))))
    where
      one : (b : Bool) (place : ℕ) → Spans 2 2 (unless b (fault 2 place))
      one b place = spans_unless b 2 place (omega arith) (omega arith)

module _ (ws : List ℕ) (xs : List Float) where
  blanks_spans : (at count : ℕ) → Spans 4 4 (blanks xs at count)
  unfolding blanks
  blanks_spans at count = spans_first _ (λ i. spans_unless _ 4 _ (omega arith) (omega arith))

  blank_spans : Spans 4 4 (fault_blank ws xs)
  unfolding fault_blank
  blank_spans =
      spans_or (spans_first _ (λ i. blanks_spans _ _))
      (spans_or (spans_first _ (λ g. spans_or (blanks_spans _ _) (blanks_spans _ _))) (spans_first _ (λ b. blanks_spans _ _)))

  count_spans : Spans 3 3 (fault_count ws xs)
  unfolding fault_count
  count_spans = spans_unless _ 3 _ (omega arith) (omega arith)

  curve_spans : Spans 5 5 (fault_curve ws xs)
  unfolding fault_curve
  curve_spans = spans_first _ (λ g. spans_first _ (λ s. spans_unless _ 5 _ (omega arith) (omega arith)))

  shift_spans : Spans 6 6 (fault_shift ws xs)
  unfolding fault_shift
  shift_spans = spans_first _ (λ b. spans_unless _ 6 _ (omega arith) (omega arith))

  bounds_spans : Spans 7 7 (fault_bounds ws xs)
  unfolding fault_bounds
  bounds_spans =
      spans_or (spans_first _ (λ i. spans_unless _ 7 _ (omega arith) (omega arith)))
      (spans_first _ (λ g. spans_or (spans_unless _ 7 _ (omega arith) (omega arith)) (spans_unless _ 7 _ (omega arith) (omega arith))))

  spread_spans : (b : ℕ) → Spans 8 8 (fault_spread ws xs b)
  unfolding fault_spread
  spread_spans b = spans_unless _ 8 b (omega arith) (omega arith)

  rating_spans : (b : ℕ) → Spans 9 9 (fault_rating ws xs b)
  unfolding fault_rating
  rating_spans b = spans_unless _ 9 b (omega arith) (omega arith)

  square_spans : (b : ℕ) → Spans 10 10 (fault_square ws xs b)
  unfolding fault_square
  square_spans b = spans_unless _ 10 b (omega arith) (omega arith)

  branches_spans : Spans 8 10 (fault_branches ws xs)
  unfolding fault_branches branch_fault
  branches_spans =
      spans_first _ (λ b. spans_or (spans_wide (omega arith) (omega arith) (spread_spans b))
      (spans_or (spans_wide (omega arith) (omega arith) (rating_spans b)) (spans_wide (omega arith) (omega arith) (square_spans b))))

  -- ---- 1 to 10

  pub tables_give : AllGive (table_sections ws xs)
  tables_give = (
    gives_one (words_spans ws),
    (
      gives_one (size_spans ws),
      (
        gives_one count_spans,
        (
          gives_one blank_spans,
          (gives_one curve_spans, (gives_one shift_spans, (gives_one bounds_spans, (gives_span 2 refl branches_spans, tt)))),
        ),
      ),
    ),
  )

  pub tables_refusal : (Clear (fault_tables ws xs) → ⊥) → IsFirst (fault_tables ws xs) (table_sections ws xs)
  unfolding fault_tables
  tables_refusal c = refusal_is_first (table_sections ws xs) tables_give refl c

  -- ---- 8, 9, 10 branch by branch

  -- a refusal is some branch's, all branches before it are clear, and of its own three it is the first
  pub branches_refusal : (Clear (fault_branches ws xs) → ⊥)
      → (b : ℕ) × (b < branches ws) × (fault_branches ws xs ≡ branch_fault ws xs b) × ((j : ℕ) → j < b → Clear (branch_fault ws xs j))
      × IsFirst (branch_fault ws xs b) (branch_sections ws xs b)
  unfolding fault_branches branch_fault
  branches_refusal c =
      let (b, l, e, k) = first_is (branches ws) (branch_fault ws xs) c in (
        b,
        l,
        e,
        k,
        refusal_is_first (branch_sections ws xs b) (gives_one (spread_spans b), (gives_one (rating_spans b), (gives_one (square_spans b), tt))) refl
            (λ z. c (rw e z)),
      )
