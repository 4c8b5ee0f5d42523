-- Refusals 1 and 2 leave words whose layout is right, and 3 a list of numbers that fits it; a cursor's step; the records.
use mathlib.Core.Path.{◌≡◌, refl, sym, ap, ◌∙◌}
use mathlib.Core.Bool.{Bool, not, ◌&&◌}
use mathlib.Core.List.{List}
use Prim.Native.Nat.{ℕ, ◌+◌, ◌*◌, ◌<◌, ◌≤◌}
use native.Mathlib.Omega.{arith}
use lib.Dec.{eqb}
use lib.ListN.{length, get_or}
use lib.Ieee.{Float}
use Rattle.std.specs.Float.Ieee.{lt}
use Rattle.float.specs.Number.{zero64}
use borrow.Author.Tests.{eqb-true}
use Rattle.std.specs.Prelude.{Option}
use Rattle.std.specs.Bool.{then_some}
use Rattle.base.proofs.Firsts.{Clear, or_left, or_right, unless_true}
use Rattle.base.specs.Fault.{Fault}
use Rattle.base.specs.Fault.{clear}
use Rattle.float.specs.Doubles.{Doubles}
use Rattle.network.specs.Fault.{fault_words, fault_size, fault_count, words_fault, form_fault}
use Rattle.network.specs.Limits.{generator_numbers, point_numbers, branch_numbers, most_points}
use Rattle.network.specs.Network.{buses, generators, branches, references, generator_place, branch_place, reference_place, points, referred, branch_at, needed, rated}
use Rattle.network.specs.Word.{generator_bus, generator_bounded, generator_points, branch_from, branch_to, branch_angled, branch_limited, reference_bus}
use Rattle.network.specs.declared.layout.Layout.{Layout}
use Rattle.network.specs.declared.records.Generator.{Generator}
use Rattle.network.specs.declared.records.Branch.{Branch}
use Rattle.network.specs.declared.layout.Cursor.{Cursor}
use Rattle.network.specs.declared.sizes.Sizes.{Sizes}
use Rattle.network.specs.Layout.{layout_of, branch_at_place, branch_record, LaidWords, Laid}
use Rattle.network.specs.internal.Records.{SizesOf, generator_at_place, generator_with, Standing, BranchRead}
use Rattle.network.proofs.Places.{words_length, bus_of_generator, no_single_point, from_bus, to_bus, referred_bus, limits}
use Rattle.network.proofs.Numbers.{generator_zero, generator_next, generator_start, generator_high, generator_fits}

module _ (ws : List ℕ) where
  laid_words_of : Clear (fault_words ws) → Clear (fault_size ws) → LaidWords ws (layout_of ws)
  laid_words_of w s =
      let l = limits ws s in
      record {
        is = refl;
        some_bus = l.0;
        few_buses = l.1;
        few_generators = l.2;
        few_branches = l.3;
        few_references = l.4;
        few_points = l.5;
        no_single = no_single_point ws w;
        generator_words = refl;
        branch_words = refl;
        reference_words = refl;
        count = words_length ws w;
        generator_bus_is = bus_of_generator ws w;
        branch_from_is = from_bus ws w;
        branch_to_is = to_bus ws w;
        reference_bus_is = referred_bus ws w;
        generator_numbers_is = refl;
        bus_ends = generator_start ws (generators ws);
        generator_ends = λ g h. generator_fits ws g (generators ws) h;
        few_needed = omega (arith, generator_high ws l.5 (generators ws) (omega arith), l.1, l.2, l.3);
      }

  pub laid_words : Clear (fault_words ws) → Clear (fault_size ws) → {l : Layout} → l ≡ layout_of ws → LaidWords ws l
  laid_words w s e = rw e (laid_words_of w s)

-- words that 1 does not refuse, with their sizes
pub sized_words : {ws : List ℕ} {s : Sizes} → Clear (fault_words ws)
    → (s.buses ≡ buses ws) × (s.generators ≡ generators ws) × (s.branches ≡ branches ws) × (s.references ≡ references ws)
    → Clear (fault_words ws) × SizesOf ws s × (length ws ≡ 1 + s.buses + s.generators + s.branches + s.references)
sized_words {ws} {s} right (n, k, m, r) =
    (right, record { buses = n; generators = k; branches = m; references = r }, omega (arith, words_length ws right, n, k, m, r))

module _ (ws : List ℕ) (xs : List Float) where
  laid_count : LaidWords ws (layout_of ws) → length xs ≡ needed ws → Doubles xs → Laid ws xs (layout_of ws)
  unfolding needed branch_at
  laid_count W n D = record {
    words = W;
    numbers = n;
    few_numbers = omega (arith, n, W.few_needed);
    bus_fits = λ i h. omega (arith, n, generator_start ws (generators ws));
    generator_fits = λ g h. omega (arith, n, generator_fits ws g (generators ws) h);
    branch_fits = λ b h. omega (arith, n);
    doubles = D;
  }

  -- the network's form is right where 1, 2 and 3 are clear
  pub laid_form : Clear (fault_words ws) → Clear (fault_size ws) → Clear (fault_count ws xs) → Doubles xs → {l : Layout} → l ≡ layout_of ws → Laid ws xs l
  unfolding fault_count
  laid_form w s c D e = rw e (laid_count (laid_words_of ws w s) (eqb-true _ _ (unless_true _ 3 _ (omega arith) c)) D)

-- ---- the answers of the checks

pub clear_number : {f : Fault} → clear ≡ f → Clear f
clear_number e = ap (λ (f : Fault). f.number) (sym e)

module _ {ws : List ℕ} where
  -- 1 and 2 are clear
  pub words_laid : {l : Layout} → clear ≡ words_fault ws → l ≡ layout_of ws → LaidWords ws l
  unfolding words_fault
  words_laid e q = let k = clear_number e in laid_words ws (or_left _ _ k) (or_right _ _ k) q

  -- 1 to 3 are clear
  pub form_laid : {xs : List Float} {l : Layout} → clear ≡ form_fault ws (length xs) → l ≡ layout_of ws → Doubles xs → Laid ws xs l
  unfolding form_fault words_fault fault_count
  form_laid {xs} e q D =
      let k = clear_number e in
      let w = or_left _ _ k in
      laid_form ws xs (or_left _ _ w) (or_right _ _ w) (or_right _ _ k) D q

-- ---- places, in the code's terms

module _ {ws : List ℕ} {l : Layout} (L : LaidWords ws l) where
  pub branch_start : (b : ℕ) → l.branch_numbers + branch_numbers * b ≡ branch_at ws b
  unfolding branch_at
  branch_start b = rw L.is

  pub needed_is : l.branch_numbers + branch_numbers * l.branches ≡ needed ws
  unfolding needed branch_at
  needed_is = rw L.is

  pub first_standing : {c : Cursor} → c.index ≡ 0 → c.at ≡ l.generator_numbers → Standing ws l c
  first_standing e a =
      record {
        within = omega arith;
        at = a ∙ rw (L.is, e) (sym (generator_zero ws));
      }

  -- the word of generator g, of branch b
  pub generator_word : (g : ℕ) → l.generator_words + g ≡ generator_place ws g
  generator_word g = rw L.is

  pub branch_word : (b : ℕ) → l.branch_words + b ≡ branch_place ws b
  branch_word b = rw L.is

  -- the bus of reference r, by its word
  pub reference_read : {r bus : ℕ} → r < l.references → bus ≡ reference_bus (get_or ws (l.reference_words + r) 0) → (bus ≡ referred ws r) × (bus < l.buses)
  reference_read {r} {bus} h e =
      let w : l.reference_words + r ≡ reference_place ws r = rw L.is in
      let q : bus ≡ referred ws r = rw w at e in
      (q, rw q (L.reference_bus_is r h))

  -- the numbers of the generator at the cursor end before the branches'
  pub cursor_ends : {c : Cursor} {p : ℕ} → Standing ws l c → c.index < l.generators → p ≡ generator_points (get_or ws (l.generator_words + c.index) 0)
      → (c.at + generator_numbers + point_numbers * p ≤ l.branch_numbers) × (p ≤ most_points)
  cursor_ends {c} {p} S h q =
      let r : p ≡ points ws c.index = rw (generator_word c.index) at q in
      rw (S.at, r) (L.generator_ends c.index h, L.few_points c.index h)

  pub next_standing : {c d : Cursor} {p : ℕ} → Standing ws l c → c.index < l.generators → p ≡ generator_points (get_or ws (l.generator_words + c.index) 0)
      → d.index ≡ c.index + 1 → d.at ≡ c.at + generator_numbers + point_numbers * p → Standing ws l d
  next_standing {c} {d} {p} S h q e a =
      let r : p ≡ points ws c.index = rw (generator_word c.index) at q in
      record { within = omega arith; at = a ∙ rw (e, generator_next ws c.index, ← r, S.at) }

-- ---- records, in the code's terms

module _ {ws : List ℕ} {xs : List Float} {l : Layout} (L : Laid ws xs l) where
  -- the numbers of the generator at the cursor lie in the list
  pub cursor_fits : {c : Cursor} {p : ℕ} → Standing ws l c → c.index < l.generators → p ≡ generator_points (get_or ws (l.generator_words + c.index) 0)
      → (c.at + generator_numbers + point_numbers * p ≤ length xs) × (p ≤ most_points)
  cursor_fits {c} {p} S h q =
      let r : p ≡ points ws c.index = rw (generator_word L.words c.index) at q in
      rw (S.at, r) (L.generator_fits c.index h, L.words.few_points c.index h)

  -- the generator at the cursor, with any number as its epigraph column's
  pub generator_read : {c : Cursor} {bus p : ℕ} {bounded on : Bool} {epigraph : Option ℕ} (column : ℕ) {r : Generator} → Standing ws l c
      → bus ≡ generator_bus (get_or ws (l.generator_words + c.index) 0) → bounded ≡ generator_bounded (get_or ws (l.generator_words + c.index) 0)
      → p ≡ generator_points (get_or ws (l.generator_words + c.index) 0) → on ≡ (l.costs && not (eqb p 0))
      → epigraph ≡ then_some on column → r ≡ generator_at_place xs c.at bus bounded p epigraph → r ≡ generator_with ws xs c.index column
  generator_read {c} column S eb ed ep eo ee er =
      er ∙ rw (ee, eo, ep, ed, eb, generator_word L.words c.index, S.at, ap (λ x. x.costs) L.words.is)

  pub branch_read : {b at f t : ℕ} {angled limited : Bool} {r : Branch} → b < l.branches → at ≡ branch_at ws b
      → f ≡ branch_from (get_or ws (l.branch_words + b) 0) → t ≡ branch_to (get_or ws (l.branch_words + b) 0)
      → angled ≡ branch_angled (get_or ws (l.branch_words + b) 0) → limited ≡ branch_limited (get_or ws (l.branch_words + b) 0)
      → r ≡ branch_at_place xs at f t angled limited → BranchRead ws xs l b r
  branch_read {b} {at} {f} {t} {angled} {limited} {r} h ea ef et ed el er =
      let e : r ≡ branch_record ws xs b = er ∙ rw (ea, ef, et, ed, el, branch_word L.words b) in
      rw e (record { is = refl; from = L.words.branch_from_is b h; to = L.words.branch_to_is b h })

-- whether the branch has thermal rows
pub rated_is : {ws : List ℕ} {xs : List Float} {l : Layout} {b : ℕ} {r : Branch} → BranchRead ws xs l b r → (r.limited && lt zero64 r.s_max) ≡ rated ws xs b
rated_is B = rw B.is
