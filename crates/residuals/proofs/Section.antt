-- One turn of each loop that takes a largest; and the variable bounds, column by column, are those of the sections one after the other.
use mathlib.Core.Path.{◌≡◌, refl, ap, sym, ◌∙◌}
use mathlib.Core.Bool.{Bool, false, cond}
use mathlib.Core.List.{List, ◌++◌}
use Prim.Native.Nat.{ℕ, zero, suc, ◌+◌, ◌*◌, ◌<◌, ◌≤◌}
use native.Mathlib.Nat.{add-zero, zero-add, add-suc}
use native.Mathlib.Numerals.{add-one}
use native.Mathlib.Omega.{arith}
use lib.Ieee.{Float, nan, neg}
use lib.ListN.{length, take, drop, length-append}
use Rattle.std.proofs.lemmas.List.{get_or-take, get_or-drop}
use Rattle.base.specs.Loop.{loop, table}
use Rattle.base.proofs.Loops.{length_table, Block, block_table, block_left, block_right}
use Rattle.float.specs.Number.{maximum, zero64}
use Rattle.bounds.specs.Bounds.{huge64, positive_violation}
use Rattle.network.specs.Network.{buses, generators, epigraphs_before, columns, number}
use Rattle.acopf.specs.Columns.{vm_lower, vm_upper, pg_lower, pg_upper, qg_lower, qg_upper, column_lower, column_upper}
use Rattle.residuals.specs.Residuals.{largest, largest_where, variable_bounds}
use Rattle.residuals.specs.internal.Section.{largest_with, outside}

-- ---- a largest so far

module _ (f : ℕ → Float) where
  pub with_none : (start : Float) → start ≡ largest_with start 0 f
  unfolding largest_with loop
  with_none start = refl

  pub with_next : (start : Float) (i : ℕ) (most here : Float) → most ≡ largest_with start i f → here ≡ maximum most (f i) → here ≡ largest_with start (i + 1) f
  unfolding largest_with loop
  with_next start i most here e h = rw (add-one, h, e)

  pub largest_is : (n : ℕ) → largest_with zero64 n f ≡ largest n f
  unfolding largest largest_with
  largest_is n = refl

module _ (t : ℕ → Bool) (f : ℕ → Float) where
  pub where_none : zero64 ≡ largest_where 0 t f
  unfolding largest_where loop
  where_none = refl

  pub where_next : (i : ℕ) (most here : Float) → most ≡ largest_where i t f → here ≡ cond (t i) (maximum most (f i)) most → here ≡ largest_where (i + 1) t f
  unfolding largest_where loop
  where_next i most here e h = rw (add-one, h, e)

  -- where none passes the test
  pub where_never : (n : ℕ) → ((i : ℕ) → t i ≡ false) → zero64 ≡ largest_where n t f
  unfolding largest_where loop
  where_never zero h = refl
  where_never (suc n) h = rw (h n) (where_never n h)

-- ---- equal members make equal largests

pub with_same : (start : Float) (n : ℕ) (f g : ℕ → Float) → ((i : ℕ) → i < n → f i ≡ g i) → largest_with start n f ≡ largest_with start n g
unfolding largest_with loop
with_same start zero f g h = refl
with_same start (suc n) f g h = rw (with_same start n f g (λ i l. h i (omega arith)), h n (omega arith))

pub with_cong : {start start' : Float} {f g : ℕ → Float} (n : ℕ) → start ≡ start' → ((i : ℕ) → i < n → f i ≡ g i) → largest_with start n f ≡ largest_with start' n g
with_cong {start} {start'} {f} {g} n e h = rw e (with_same start' n f g h)

pub largest_same : (n : ℕ) (f g : ℕ → Float) → ((i : ℕ) → i < n → f i ≡ g i) → largest n f ≡ largest n g
unfolding largest largest_with
largest_same n f g h = with_same zero64 n f g h

-- ---- the columns by section

-- the section's numbers are the list's from place `from` on
abbrev pub Part : List Float → ℕ → ℕ → List Float → Type 0
Part x from n section = (j : ℕ) → j < n → number section j ≡ number x (from + j)

pub front_part : (x : List Float) (n : ℕ) → Part x 0 n (take n x)
front_part x n j h = rw zero-add (get_or-take n x j nan h)

pub inner_part : (x : List Float) (from n count : ℕ) → n ≤ count → Part x from n (take count (drop from x))
inner_part x from n count le j h = get_or-take count (drop from x) j nan (omega arith) ∙ get_or-drop from x j nan

pub with_more : (start : Float) (a b m : ℕ) (f : ℕ → Float) → a + b ≡ m → largest_with start m f ≡ largest_with (largest_with start a f) b (λ i. f (a + i))
unfolding largest_with loop
with_more start a b m f e = rw e at (go b)
  where
    go : (b : ℕ) → largest_with start (a + b) f ≡ largest_with (largest_with start a f) b (λ i. f (a + i))
    go zero = rw add-zero
    go (suc b) = rw add-suc (ap (λ r. maximum r (f (a + b))) (go b))

-- five tables, one after the other: va, vm, pg, qg, epigraphs
pub record Five (l : List Float) (n k e : ℕ) (va vm pg qg epigraph : ℕ → Float) : Type 0 where
  pub va_block : Block l 0 n va
  pub vm_block : Block l n n vm
  pub pg_block : Block l (2 * n) k pg
  pub qg_block : Block l (2 * n + k) k qg
  pub epigraph_block : Block l (2 * n + 2 * k) e epigraph

pub five_tables : (n k e : ℕ) (va vm pg qg epigraph : ℕ → Float) → Five (table n va ++ table n vm ++ table k pg ++ table k qg ++ table e epigraph) n k e va vm pg qg epigraph
five_tables n k e va vm pg qg epigraph =
    let a = table n va in
    let b = table n vm in
    let c = table k pg in
    let d = table k qg in
    let f = table e epigraph in
    record {
      va_block = block_left f (block_left d (block_left c (block_left b (block_table n va))));
      vm_block = block_left f (block_left d (block_left c (block_right a _ (simp length_table (omega arith)) (block_table n vm))));
      pg_block = block_left f (block_left d (block_right (a ++ b) _ (simp (length-append, length_table) (omega arith)) (block_table k pg)));
      qg_block = block_left f (block_right (a ++ b ++ c) _ (simp (length-append, length_table) (omega arith)) (block_table k qg));
      epigraph_block = block_right (a ++ b ++ c ++ d) _ (simp (length-append, length_table) (omega arith)) (block_table e epigraph);
    }

module _ (ws : List ℕ) (xs : List Float) where
  lower_five : Five (column_lower ws xs) (buses ws) (generators ws) (epigraphs_before ws (generators ws)) (λ i. neg huge64) (vm_lower ws xs) (pg_lower ws xs) (qg_lower ws xs) (λ e. neg huge64)
  unfolding column_lower
  lower_five = five_tables (buses ws) (generators ws) (epigraphs_before ws (generators ws)) _ _ _ _ _

  upper_five : Five (column_upper ws xs) (buses ws) (generators ws) (epigraphs_before ws (generators ws)) (λ i. huge64) (vm_upper ws xs) (pg_upper ws xs) (qg_upper ws xs) (λ e. huge64)
  unfolding column_upper
  upper_five = five_tables (buses ws) (generators ws) (epigraphs_before ws (generators ws)) _ _ _ _ _

module _ (ws : List ℕ) (xs x : List Float) where
  abbrev whole : ℕ → Float
  whole j = positive_violation (number x j) (number (column_lower ws xs) j) (number (column_upper ws xs) j)

  -- a section's members, by the bounds that stand at its places
  part_same : (from n : ℕ) (section : List Float) (lower upper : ℕ → Float) → Part x from n section
      → Block (column_lower ws xs) from n lower → Block (column_upper ws xs) from n upper
      → (j : ℕ) → j < n → whole (from + j) ≡ outside section lower upper j
  part_same from n section lower upper e a b j l = rw (a.its j nan l, b.its j nan l, e j l)

  whole_is : variable_bounds ws xs x ≡ largest_with zero64 (2 * buses ws + 2 * generators ws + epigraphs_before ws (generators ws)) whole
  unfolding variable_bounds largest largest_with columns
  whole_is = refl

  by_section : (n k e : ℕ) → n ≡ buses ws → k ≡ generators ws → e ≡ epigraphs_before ws (generators ws)
      → (va vm pg qg epigraph : List Float) → Part x 0 n va → Part x n n vm → Part x (2 * n) k pg → Part x (2 * n + k) k qg → Part x (2 * n + 2 * k) e epigraph
      → variable_bounds ws xs x
      ≡ largest_with (largest_with (largest_with (largest_with (largest_with zero64
      n (outside va (λ i. neg huge64) (λ i. huge64)))
      n (outside vm (vm_lower ws xs) (vm_upper ws xs)))
      k (outside pg (pg_lower ws xs) (pg_upper ws xs)))
      k (outside qg (qg_lower ws xs) (qg_upper ws xs)))
      e (outside epigraph (λ i. neg huge64) (λ i. huge64))
  by_section n k e p q r va vm pg qg epigraph a b c d f =
      let low = lower_five ws xs in
      let high = upper_five ws xs in
      let N = buses ws in
      let K = generators ws in
      let E = epigraphs_before ws (generators ws) in
      rw (p, q, r)
      (whole_is ∙ with_more zero64 (2 * N + 2 * K) E (2 * N + 2 * K + E) whole refl
      ∙ with_cong E
      (with_more zero64 (2 * N + K) K (2 * N + 2 * K) whole (omega arith)
      ∙ with_cong K
      (with_more zero64 (2 * N) K (2 * N + K) whole refl
      ∙ with_cong K
      (with_more zero64 N N (2 * N) whole (omega arith)
      ∙ with_cong N
      (with_same zero64 N whole (outside va (λ i. neg huge64) (λ i. huge64)) (λ j l. ap whole (sym (zero-add j)) ∙ part_same 0 N va _ _ (rw p at a) low.va_block high.va_block j l))
      (part_same N N vm _ _ (rw p at b) low.vm_block high.vm_block))
      (part_same (2 * N) K pg _ _ (rw (p, q) at c) low.pg_block high.pg_block))
      (part_same (2 * N + K) K qg _ _ (rw (p, q) at d) low.qg_block high.qg_block))
      (part_same (2 * N + 2 * K) E epigraph _ _ (rw (p, q, r) at f) low.epigraph_block high.epigraph_block))

  -- the largest after each of the sections
  pub sections_are : (n k e : ℕ) → n ≡ buses ws → k ≡ generators ws → e ≡ epigraphs_before ws (generators ws)
      → (va vm pg qg epigraph : List Float) → length va ≡ n → length epigraph ≡ e
      → Part x 0 n va → Part x n n vm → Part x (2 * n) k pg → Part x (2 * n + k) k qg → Part x (2 * n + 2 * k) e epigraph
      → {after_va after_vm after_pg after_qg all : Float}
      → after_va ≡ largest_with zero64 (length va) (outside va (λ i. neg huge64) (λ i. huge64))
      → after_vm ≡ largest_with after_va n (outside vm (vm_lower ws xs) (vm_upper ws xs))
      → after_pg ≡ largest_with after_vm k (outside pg (pg_lower ws xs) (pg_upper ws xs))
      → after_qg ≡ largest_with after_pg k (outside qg (qg_lower ws xs) (qg_upper ws xs))
      → all ≡ largest_with after_qg (length epigraph) (outside epigraph (λ i. neg huge64) (λ i. huge64))
      → all ≡ variable_bounds ws xs x
  sections_are n k e p q r va vm pg qg epigraph s t a b c d f u v w y z =
      z ∙ rw (y, w, v, u, s, t) (sym (by_section n k e p q r va vm pg qg epigraph a b c d f))
