-- What stands before a wrong word is the beginning of something that can be written.
use mathlib.Core.Path.{◌≡◌, refl, ap, sym, ◌∙◌, subst, subst₂}
use mathlib.Core.List.{List, [], ◌∷◌, ◌++◌, append_assoc, append-nil}
use mathlib.Core.Bool.{Bool, true, false, cond}
use Prim.Native.Nat.{ℕ, zero, suc, ◌+◌, ◌≤◌, ◌<◌}
use native.Mathlib.Omega.{arith}
use native.Mathlib.Nat.{add-zero, zero-add}
use lib.ListN.{length, get_or, take, drop, length-append, length-drop}
use lib.Seq.{take_at}
use lib.Dec.{ltb, eqb}
use borrow.Author.Tests.{ltb-true}
use Rattle.std.specs.Prelude.{Option, None, Ok, Err}
use Rattle.base.specs.declared.refusal.Reason.TheVariants as reason
use Rattle.base.specs.Fault.{fault_of}
use Rattle.base.specs.Word.{word, kind_of, load_of}
use Rattle.nl.specs.declared.reader.Span.{Span}
use Rattle.nl.specs.declared.reader.Cursor.{Cursor}
use Rattle.nl.specs.Expr.{Expr, constant, column, shared, over, Terms, none, more, count, load_for, constants, constants_of, next, words, words_of, HasWords, HasWordsOf, depth, depth_of, Names, NamesOf}
use Rattle.nl.specs.File.{Model, part_words, at_rows, at_objective, model_words, model_constants, Ruled, PartsRuled, StandsWithin, depth_limit}
use Rattle.nl.specs.Reader.{Read, wrong, went, stop, span, word_ok, arity, uses, after, many, read_expr, is_mark, read_parts, read_last, read_end}
use Rattle.nl.specs.Finder.{refused, find}
use Rattle.nl.proofs.Words.{Operands, takes, leaf_arity}
use Rattle.nl.proofs.Steps.{same_place, spelled, uses_none}
use Rattle.nl.proofs.Sound.{Stands, Word, is_constant, is_column, is_shared, is_over, which, here, sound}
use Rattle.nl.proofs.PartSound.{mark_back, PartsAt, parts_sound, Outcome, in_shared, in_rows, in_end, passed, outcome}
use Rattle.nl.proofs.Finds.{never_both}

-- rules that hold, hold with more columns and deeper nesting
mutual
  unfolding Names

  more_names : (columns columns' named : ℕ) (e : Expr) → columns ≤ columns' → Names columns named e → Names columns' named e
  more_names c c' n (constant b) le h = tt
  more_names c c' n (column j) le h = omega arith
  more_names c c' n (shared s) le h = h
  more_names c c' n (over kind ts) le h = more_names_of c c' n ts le h

  more_names_of : (columns columns' named : ℕ) (ts : Terms) → columns ≤ columns' → NamesOf columns named ts → NamesOf columns' named ts
  more_names_of c c' n none le h = tt
  more_names_of c c' n (more e ts) le h = (more_names c c' n e le h.0, more_names_of c c' n ts le h.1)

looser : (columns columns' named k : ℕ) (e : Expr) → columns ≤ columns' → Ruled depth_limit columns named k e → Ruled (suc depth_limit) columns' named k e
looser c c' n k e le h = record { loads = h.loads; names = more_names c c' n e le h.names; deep = omega (arith, h.deep) }

looser_parts : (columns columns' : ℕ) (named : ℕ → ℕ) (i k : ℕ) (ts : Terms) → columns ≤ columns' → PartsRuled depth_limit columns named i k ts → PartsRuled (suc depth_limit) columns' named i k ts
unfolding PartsRuled
looser_parts c c' n i k none le h = tt
looser_parts c c' n i k (more e ts) le h = (h.0, looser c c' (n i) k e le h.1, looser_parts c c' n (i + 1) (next k e) ts le h.2)

-- what may stand for operands that were not read: so many times column 0
abbrev fill : ℕ → Terms
fill zero = none
fill (suc n) = more (column 0) (fill n)

record Filled (columns named k n : ℕ) : Type 0 where
  counts : count (fill n) ≡ n
  written : HasWordsOf k (fill n)
  names : NamesOf columns named (fill n)
  deep : depth_of (fill n) ≤ 1
  empty : constants_of (fill n) ≡ []

filled : (columns named k n : ℕ) → 1 ≤ columns → Filled columns named k n
unfolding HasWords Names depth constants
filled c m k zero h = record { counts = refl; written = tt; names = tt; deep = omega arith; empty = refl }
filled c m k (suc n) h =
    let f = filled c m (k + 0) n h in
    record { counts = ap suc f.counts; written = (omega arith, f.written); names = (h, f.names); deep = omega (arith, f.deep); empty = f.empty }

-- the words of ws from `at` up to p are the beginning of an expression's words; its constants stay below the limit
record Begun (ws : List ℕ) (limit columns named deepest at k p : ℕ) : Type 0 where
  whole : Expr
  front : List ℕ
  rest : List ℕ
  ruled : Ruled deepest columns named k whole
  here : drop at ws ≡ front ++ drop p ws
  its : words k whole ≡ front ++ rest
  ends : p ≡ at + length front
  few : next k whole ≤ limit

record BegunOf (ws : List ℕ) (limit columns named deepest at k p n : ℕ) : Type 0 where
  whole : Terms
  front : List ℕ
  rest : List ℕ
  counts : count whole ≡ n
  written : HasWordsOf k whole
  names : NamesOf columns named whole
  deep : depth_of whole ≤ deepest
  here : drop at ws ≡ front ++ drop p ws
  its : words_of k whole ≡ front ++ rest
  ends : p ≡ at + length front
  few : k + length (constants_of whole) ≤ limit

never_went : {X : Type 0} (a b p : ℕ) → went a b ≡ wrong p → X
never_went a b p e = absurd (cc)

module _ (ws cs : List ℕ) (columns columns' named : ℕ) (le : columns ≤ columns') (some : 1 ≤ columns') where
  -- nothing was taken: column 0 may stand there
  nothing : (d at k p : ℕ) → at ≡ p → k ≤ length cs → Begun ws (length cs) columns' named (suc d) at k p
  unfolding words HasWords Names depth constants
  nothing d at k p e h =
      record {
        whole = column 0;
        front = [];
        rest = word 1 0 ∷ [];
        ruled = record { loads = omega arith; names = some; deep = omega arith };
        here = ap (λ x. drop x ws) e;
        its = refl;
        ends = omega (arith, e);
        few = omega arith;
      }

  -- constants that stand in the list stay below its length
  stay : (d at k end after : ℕ) (e : Expr) → Stands ws cs columns named d at k end after e → k ≤ length cs → next k e ≤ length cs
  stay d at k end after e s h = omega (arith, s.then, length-drop k cs, length-drop after cs, ap length s.values, length-append (constants e) (drop after cs))

  -- the first operand was begun: column 0 may stand for the others
  one_begun : (d n at k p : ℕ) → Begun ws (length cs) columns' named (suc d) at k p → BegunOf ws (length cs) columns' named (suc d) at k p (suc n)
  unfolding words HasWords Names depth constants
  one_begun d n at k p B =
      let e = B.whole in
      let F = filled columns' named (next k e) n some in
      record {
        whole = more e (fill n);
        front = B.front;
        rest = B.rest ++ words_of (next k e) (fill n);
        counts = ap suc F.counts;
        written = (B.ruled.loads, F.written);
        names = (B.ruled.names, F.names);
        deep = omega (arith, B.ruled.deep, F.deep);
        here = B.here;
        its = ap (λ x. x ++ words_of (next k e) (fill n)) B.its ∙ append_assoc B.front B.rest (words_of (next k e) (fill n));
        ends = B.ends;
        few = omega (arith, B.few, length-append (constants e) (constants_of (fill n)), ap length F.empty);
      }

  -- the first operand was read, and a later one begun
  one_before : (d n at k a b p : ℕ) → k ≤ length cs → read_expr ws (length cs) columns named d at k ≡ went a b → (b ≤ length cs → BegunOf ws (length cs) columns' named (suc d) a b p n)
      → BegunOf ws (length cs) columns' named (suc d) at k p (suc n)
  unfolding words HasWords Names depth constants
  one_before d n at k a b p h q later =
      let (e, s) = sound ws cs columns named d at k a b q in
      let below = stay d at k a b e s h in
      let U : BegunOf ws (length cs) columns' named (suc d) a (next k e) p n = subst (λ x. BegunOf ws (length cs) columns' named (suc d) a x p n) s.then (later (omega (arith, s.then))) in
      record {
        whole = more e U.whole;
        front = words k e ++ U.front;
        rest = U.rest;
        counts = ap suc U.counts;
        written = (s.written, U.written);
        names = (more_names columns columns' named e le s.names, U.names);
        deep = omega (arith, s.deep, U.deep);
        here = s.its ∙ ap (λ x. words k e ++ x) U.here ∙ sym (append_assoc (words k e) U.front (drop p ws));
        its = ap (λ x. words k e ++ x) U.its ∙ sym (append_assoc (words k e) U.front U.rest);
        ends = omega (arith, s.ends, U.ends, length-append (words k e) U.front);
        few = omega (arith, U.few, length-append (constants e) (constants_of U.whole));
      }

  begun_many : (d : ℕ) → ((at k p : ℕ) → read_expr ws (length cs) columns named d at k ≡ wrong p → k ≤ length cs → Begun ws (length cs) columns' named (suc d) at k p)
      → (n at k p : ℕ) → many (read_expr ws (length cs) columns named d) n at k ≡ wrong p → k ≤ length cs → BegunOf ws (length cs) columns' named (suc d) at k p n
  begun_many d f zero at k p e h = never_went at k p e
  begun_many d f (suc n) at k p e h = go (read_expr ws (length cs) columns named d at k) refl e (begun_many d f n)
    where
      go : (x : Read Cursor) → read_expr ws (length cs) columns named d at k ≡ x → after x (many (read_expr ws (length cs) columns named d) n) ≡ wrong p
          → ((at k p : ℕ) → many (read_expr ws (length cs) columns named d) n at k ≡ wrong p → k ≤ length cs → BegunOf ws (length cs) columns' named (suc d) at k p n)
          → BegunOf ws (length cs) columns' named (suc d) at k p (suc n)
      go (Ok c) q r rec = one_before d n at k c.at c.next p h q (rec c.at c.next p r)
      go (Err w) q r rec = one_begun d n at k p (f at k p (q ∙ r) h)

  -- a kind over operands of which one was begun
  over_begun : (d at k kind load p : ℕ) → at < length ws → kind ≡ kind_of (get_or ws at 0) → load ≡ load_of (get_or ws at 0) → Operands kind (arity kind load) → load_for kind (arity kind load) ≡ load
      → BegunOf ws (length cs) columns' named (suc d) (at + 1) k p (arity kind load) → Begun ws (length cs) columns' named (suc (suc d)) at k p
  unfolding words HasWords Names depth constants
  over_begun d at k kind load p h e f t l U =
      let ts = U.whole in
      let l' : load_for kind (count ts) ≡ load = rw U.counts l in
      record {
        whole = over kind ts;
        front = word kind load ∷ U.front;
        rest = U.rest;
        ruled = record { loads = (omega (arith, l', f), takes kind (count ts) (rw U.counts t), U.written); names = U.names; deep = omega (arith, U.deep) };
        here = here ws cs columns named at kind load h e f ∙ ap (λ x. word kind load ∷ x) U.here;
        its = cc (l', U.its);
        ends = omega (arith, U.ends);
        few = U.few;
      }

  -- where the reader finds a wrong word, what stands before it is the beginning of an expression, one level deeper at most
  begun : (d at k p : ℕ) → read_expr ws (length cs) columns named d at k ≡ wrong p → k ≤ length cs → Begun ws (length cs) columns' named (suc d) at k p
  unfolding read_expr
  begun zero at k p e h = nothing 0 at k p (same_place at p e) h
  begun (suc d) at k p e h = by_length (ltb at (length ws)) refl (sym (spelled ws (length cs) columns named d at k) ∙ e) (λ n at k p q l. begun_many d (begun d) n at k p q l)
    where
      leaf : (kind load a b : ℕ) → kind < 3 → many (read_expr ws (length cs) columns named d) (arity kind load) a b ≡ wrong p → Begun ws (length cs) columns' named (suc (suc d)) at k p
      leaf kind load a b lt q = never_went a b p (rw (leaf_arity kind load lt) at q)

      by_kind : at < length ws → Word (length cs) columns named k (kind_of (get_or ws at 0)) (load_of (get_or ws at 0))
          → many (read_expr ws (length cs) columns named d) (arity (kind_of (get_or ws at 0)) (load_of (get_or ws at 0))) (at + 1) (k + uses (kind_of (get_or ws at 0))) ≡ wrong p
          → ((n at k p : ℕ) → many (read_expr ws (length cs) columns named d) n at k ≡ wrong p → k ≤ length cs → BegunOf ws (length cs) columns' named (suc d) at k p n)
          → Begun ws (length cs) columns' named (suc (suc d)) at k p
      by_kind i (is_constant z l lt) q later = leaf (kind_of (get_or ws at 0)) (load_of (get_or ws at 0)) (at + 1) (k + uses (kind_of (get_or ws at 0))) (omega (arith, z)) q
      by_kind i (is_column z l) q later = leaf (kind_of (get_or ws at 0)) (load_of (get_or ws at 0)) (at + 1) (k + uses (kind_of (get_or ws at 0))) (omega (arith, z)) q
      by_kind i (is_shared z l) q later = leaf (kind_of (get_or ws at 0)) (load_of (get_or ws at 0)) (at + 1) (k + uses (kind_of (get_or ws at 0))) (omega (arith, z)) q
      by_kind i (is_over t l) q later =
          let q' = rw (uses_none (kind_of (get_or ws at 0)) (λ y. omega (arith, t.low)), add-zero k) at q in
          over_begun d at k (kind_of (get_or ws at 0)) (load_of (get_or ws at 0)) p i refl refl t l (later (arity (kind_of (get_or ws at 0)) (load_of (get_or ws at 0))) (at + 1) k p q' h)

      by_word : at < length ws → (b : Bool) → word_ok (length cs) columns named k (kind_of (get_or ws at 0)) (load_of (get_or ws at 0)) ≡ b
          → cond b (many (read_expr ws (length cs) columns named d) (arity (kind_of (get_or ws at 0)) (load_of (get_or ws at 0))) (at + 1) (k + uses (kind_of (get_or ws at 0)))) (wrong at) ≡ wrong p
          → ((n at k p : ℕ) → many (read_expr ws (length cs) columns named d) n at k ≡ wrong p → k ≤ length cs → BegunOf ws (length cs) columns' named (suc d) at k p n)
          → Begun ws (length cs) columns' named (suc (suc d)) at k p
      by_word i true w q later = by_kind i (which (length cs) columns named k (kind_of (get_or ws at 0)) (load_of (get_or ws at 0)) w) q later
      by_word i false w q later = nothing (suc d) at k p (same_place at p q) h

      by_length : (b : Bool) → ltb at (length ws) ≡ b
          → cond b (cond (word_ok (length cs) columns named k (kind_of (get_or ws at 0)) (load_of (get_or ws at 0)))
          (many (read_expr ws (length cs) columns named d) (arity (kind_of (get_or ws at 0)) (load_of (get_or ws at 0))) (at + 1) (k + uses (kind_of (get_or ws at 0)))) (wrong at)) (wrong at) ≡ wrong p
          → ((n at k p : ℕ) → many (read_expr ws (length cs) columns named d) n at k ≡ wrong p → k ≤ length cs → BegunOf ws (length cs) columns' named (suc d) at k p n)
          → Begun ws (length cs) columns' named (suc (suc d)) at k p
      by_length true i q later = by_word (ltb-true at (length ws) i) (word_ok (length cs) columns named k (kind_of (get_or ws at 0)) (load_of (get_or ws at 0))) refl q later
      by_length false i q later = nothing (suc d) at k p (same_place at p q) h

-- the same for parts
record PartsBegun (ws : List ℕ) (limit columns : ℕ) (named : ℕ → ℕ) (kind i at k p : ℕ) : Type 0 where
  whole : Terms
  front : List ℕ
  rest : List ℕ
  ruled : PartsRuled (suc depth_limit) columns named i k whole
  here : drop at ws ≡ front ++ drop p ws
  its : part_words kind i k whole ≡ front ++ rest
  ends : p ≡ at + length front
  few : k + length (constants_of whole) ≤ limit

module _ (ws cs : List ℕ) (columns columns' : ℕ) (named : ℕ → ℕ) (kind r : ℕ) (le : columns ≤ columns') (some : 1 ≤ columns') where
  part_begun : (i at k p : ℕ) → is_mark ws kind i at ≡ true → Begun ws (length cs) columns' (named i) (suc depth_limit) (at + 1) k p → PartsBegun ws (length cs) columns' named kind i at k p
  unfolding part_words PartsRuled constants_of
  part_begun i at k p m B =
      let (l, w) = mark_back ws kind i at m in
      record {
        whole = more B.whole none;
        front = word kind i ∷ B.front;
        rest = B.rest;
        ruled = (l, B.ruled, tt);
        here = w ∙ ap (λ x. word kind i ∷ x) B.here;
        its = ap (λ x. word kind i ∷ x) (append-nil (words k B.whole) ∙ B.its);
        ends = omega (arith, B.ends);
        few = omega (arith, B.few, length-append (constants B.whole) []);
      }

  part_before : (i at k a b p : ℕ) → is_mark ws kind i at ≡ true → k ≤ length cs → read_expr ws (length cs) columns (named i) depth_limit (at + 1) k ≡ went a b
      → (b ≤ length cs → PartsBegun ws (length cs) columns' named kind (i + 1) a b p) → PartsBegun ws (length cs) columns' named kind i at k p
  unfolding part_words PartsRuled constants_of
  part_before i at k a b p m h q later =
      let (l, w) = mark_back ws kind i at m in
      let (e, s) = sound ws cs columns (named i) depth_limit (at + 1) k a b q in
      let below = stay ws cs columns columns' (named i) le some depth_limit (at + 1) k a b e s h in
      let U : PartsBegun ws (length cs) columns' named kind (i + 1) a (next k e) p = subst (λ x. PartsBegun ws (length cs) columns' named kind (i + 1) a x p) s.then (later (omega (arith, s.then))) in
      record {
        whole = more e U.whole;
        front = word kind i ∷ words k e ++ U.front;
        rest = U.rest;
        ruled = (l, looser columns columns' (named i) k e le (record { loads = s.written; names = s.names; deep = s.deep }), U.ruled);
        here = w ∙ ap (λ x. word kind i ∷ x) (s.its ∙ ap (λ x. words k e ++ x) U.here ∙ sym (append_assoc (words k e) U.front (drop p ws)));
        its = ap (λ x. word kind i ∷ x) (ap (λ x. words k e ++ x) U.its ∙ sym (append_assoc (words k e) U.front U.rest));
        ends = omega (arith, s.ends, U.ends, length-append (words k e) U.front);
        few = omega (arith, U.few, length-append (constants e) (constants_of U.whole));
      }

  never_stop : {X : Type 0} (i at k : ℕ) (s : Option Span) (p : ℕ) → stop i at k s ≡ wrong p → X
  never_stop i at k s p e = absurd (cc)

  parts_begun : (n i at k : ℕ) (s : Option Span) (p : ℕ) → read_parts ws (length cs) columns named kind r n i at k s ≡ wrong p → k ≤ length cs → PartsBegun ws (length cs) columns' named kind i at k p
  unfolding read_parts
  parts_begun zero i at k s p e h = never_stop i at k s p e
  parts_begun (suc n) i at k s p e h = by_mark (is_mark ws kind i at) refl e (λ a b u q l. parts_begun n (i + 1) a b u p q l)
    where
      by_read : is_mark ws kind i at ≡ true → (x : Read Cursor) → read_expr ws (length cs) columns (named i) depth_limit (at + 1) k ≡ x
          → after x (λ a b. read_parts ws (length cs) columns named kind r n (i + 1) a b (cond (eqb i r) (span (at + 1) a) s)) ≡ wrong p
          → ((a b : ℕ) (u : Option Span) → read_parts ws (length cs) columns named kind r n (i + 1) a b u ≡ wrong p → b ≤ length cs → PartsBegun ws (length cs) columns' named kind (i + 1) a b p)
          → PartsBegun ws (length cs) columns' named kind i at k p
      by_read m (Ok c) f q later = part_before i at k c.at c.next p m h f (λ l. later c.at c.next _ q l)
      by_read m (Err w) f q later =
          let z = same_place w.place p q in
          part_begun i at k p m (begun ws cs columns columns' (named i) le some depth_limit (at + 1) k p (f ∙ ap wrong z) h)

      by_mark : (b : Bool) → is_mark ws kind i at ≡ b
          → cond b (after (read_expr ws (length cs) columns (named i) depth_limit (at + 1) k) (λ a b. read_parts ws (length cs) columns named kind r n (i + 1) a b (cond (eqb i r) (span (at + 1) a) s))) (stop i at k s) ≡ wrong p
          → ((a b : ℕ) (u : Option Span) → read_parts ws (length cs) columns named kind r n (i + 1) a b u ≡ wrong p → b ≤ length cs → PartsBegun ws (length cs) columns' named kind (i + 1) a b p)
          → PartsBegun ws (length cs) columns' named kind i at k p
      by_mark true m q later = by_read m (read_expr ws (length cs) columns (named i) depth_limit (at + 1) k) refl q later
      by_mark false m q later = never_stop i at k s p q

-- the objective and the end: what was taken of them
record EndBegun (ws : List ℕ) (limit columns shared at k p : ℕ) : Type 0 where
  objective : Expr
  front : List ℕ
  rest : List ℕ
  ruled : Ruled (suc depth_limit) columns shared k objective
  here : drop at ws ≡ front ++ drop p ws
  its : word 12 0 ∷ words k objective ++ (word 13 0 ∷ []) ≡ front ++ rest
  ends : p ≡ at + length front
  few : next k objective ≤ limit

module _ (ws cs : List ℕ) (columns columns' shared : ℕ) (le : columns ≤ columns') (some : 1 ≤ columns') where
  -- the objective was begun, or nothing of it taken
  objective_begun : (at k p : ℕ) → drop at ws ≡ word 12 0 ∷ drop (at + 1) ws → Begun ws (length cs) columns' shared (suc depth_limit) (at + 1) k p → EndBegun ws (length cs) columns' shared at k p
  objective_begun at k p w B =
      record {
        objective = B.whole;
        front = word 12 0 ∷ B.front;
        rest = B.rest ++ (word 13 0 ∷ []);
        ruled = B.ruled;
        here = w ∙ ap (λ x. word 12 0 ∷ x) B.here;
        its = ap (λ x. word 12 0 ∷ x) (ap (λ x. x ++ (word 13 0 ∷ [])) B.its ∙ append_assoc B.front B.rest (word 13 0 ∷ []));
        ends = omega (arith, B.ends);
        few = B.few;
      }

  no_objective_yet : (at k p : ℕ) → at ≡ p → k ≤ length cs → EndBegun ws (length cs) columns' shared at k p
  no_objective_yet at k p e h =
      let B = nothing ws cs columns columns' shared le some depth_limit at k p e h in
      record {
        objective = B.whole;
        front = [];
        rest = word 12 0 ∷ words k B.whole ++ (word 13 0 ∷ []);
        ruled = B.ruled;
        here = ap (λ x. drop x ws) e;
        its = refl;
        ends = omega (arith, e);
        few = B.few;
      }

  -- the objective was read, and then the end word or not
  objective_read : (at k a b p : ℕ) (last rest : List ℕ) → drop at ws ≡ word 12 0 ∷ drop (at + 1) ws → k ≤ length cs → read_expr ws (length cs) columns shared depth_limit (at + 1) k ≡ went a b
      → drop a ws ≡ last ++ drop p ws → word 13 0 ∷ [] ≡ last ++ rest → p ≡ a + length last → EndBegun ws (length cs) columns' shared at k p
  objective_read at k a b p last rest w h q u v l =
      let (e, s) = sound ws cs columns shared depth_limit (at + 1) k a b q in
      record {
        objective = e;
        front = word 12 0 ∷ words k e ++ last;
        rest = rest;
        ruled = looser columns columns' shared k e le (record { loads = s.written; names = s.names; deep = s.deep });
        here = w ∙ ap (λ x. word 12 0 ∷ x) (s.its ∙ ap (λ x. words k e ++ x) u ∙ sym (append_assoc (words k e) last (drop p ws)));
        its = ap (λ x. word 12 0 ∷ x) (ap (λ x. words k e ++ x) v ∙ sym (append_assoc (words k e) last rest));
        ends = omega (arith, s.ends, length-append (words k e) last);
        few = stay ws cs columns columns' shared le some depth_limit (at + 1) k a b e s h;
      }

  end_begun : (at k p : ℕ) → read_end ws (length cs) columns shared at k ≡ wrong p → k ≤ length cs → EndBegun ws (length cs) columns' shared at k p
  unfolding read_end read_last
  end_begun at k p e h = by_mark (is_mark ws 12 0 at) refl e
    where
      by_last : is_mark ws 12 0 at ≡ true → (a b : ℕ) → read_expr ws (length cs) columns shared depth_limit (at + 1) k ≡ went a b
          → (m c l : Bool) → is_mark ws 13 0 a ≡ m → cond m (cond c (cond l (went (a + 1) b) (wrong (a + 1))) (wrong a)) (wrong a) ≡ wrong p → EndBegun ws (length cs) columns' shared at k p
      by_last m a b q true true true f z = never_went (a + 1) b p z
      by_last m a b q true true false f z =
          let y = same_place (a + 1) p z in
          objective_read at k a b p (word 13 0 ∷ []) [] (mark_back ws 12 0 at m).1 h q ((mark_back ws 13 0 a f).1 ∙ ap (λ x. word 13 0 ∷ drop x ws) y) refl (sym y)
      by_last m a b q true false l f z =
          let y = same_place a p z in
          objective_read at k a b p [] (word 13 0 ∷ []) (mark_back ws 12 0 at m).1 h q (ap (λ x. drop x ws) y) refl (omega arith)
      by_last m a b q false c l f z =
          let y = same_place a p z in
          objective_read at k a b p [] (word 13 0 ∷ []) (mark_back ws 12 0 at m).1 h q (ap (λ x. drop x ws) y) refl (omega arith)

      by_read : is_mark ws 12 0 at ≡ true → (x : Read Cursor) → read_expr ws (length cs) columns shared depth_limit (at + 1) k ≡ x → after x (read_last ws (length cs)) ≡ wrong p → EndBegun ws (length cs) columns' shared at k p
      by_read m (Ok c) q z = by_last m c.at c.next q (is_mark ws 13 0 c.at) (eqb c.next (length cs)) (eqb (c.at + 1) (length ws)) refl z
      by_read m (Err w) q z =
          let y = same_place w.place p z in
          objective_begun at k p (mark_back ws 12 0 at m).1 (begun ws cs columns columns' shared le some depth_limit (at + 1) k p (q ∙ ap wrong y) h)

      by_mark : (b : Bool) → is_mark ws 12 0 at ≡ b → cond b (after (read_expr ws (length cs) columns shared depth_limit (at + 1) k) (read_last ws (length cs))) (wrong at) ≡ wrong p → EndBegun ws (length cs) columns' shared at k p
      by_mark true m z = by_read m (read_expr ws (length cs) columns shared depth_limit (at + 1) k) refl z
      by_mark false m z = no_objective_yet at k p (same_place at p z) h

-- the first p words of ws are the beginning of a file that stands for a model one level deeper at most, with at most so many constants
pub record Begins (ws : List ℕ) (limit columns p : ℕ) : Type 0 where
  pub model : Model
  pub rest : List ℕ
  pub values : List ℕ
  pub stands : StandsWithin (suc depth_limit) (take p ws ++ rest) values columns model
  pub few : length values ≤ limit
  pub inside : p ≤ length ws

begins : (ws cs : List ℕ) (columns p : ℕ) (M : Model) (front rest : List ℕ) → PartsRuled (suc depth_limit) columns (λ i. i) 0 0 M.shared → PartsRuled (suc depth_limit) columns (λ i. count M.shared) 0 (at_rows M) M.rows
    → Ruled (suc depth_limit) columns (count M.shared) (at_objective M) M.objective → ws ≡ front ++ drop p ws → model_words M ≡ front ++ rest → p ≡ length front → length (model_constants M) ≤ length cs
    → Begins ws (length cs) columns p
begins ws cs columns p M front rest a b c here its ends few =
    let t : take p ws ≡ front = ap (take p) here ∙ take_at front (drop p ws) p (sym ends) in
    record {
      model = M;
      rest = rest;
      values = model_constants M;
      stands = record { shared_ruled = a; rows_ruled = b; objective_ruled = c; its_words = ap (λ x. x ++ rest) t ∙ sym its; its_constants = refl };
      few = few;
      inside = omega (arith, ends, ap length here, length-append front (drop p ws));
    }

module _ (ws cs : List ℕ) (columns columns' r p : ℕ) (le : columns ≤ columns') (some : 1 ≤ columns') where
  leaf_ruled : (named k : ℕ) → Ruled (suc depth_limit) columns' named k (column 0)
  unfolding HasWords Names depth
  leaf_ruled named k = record { loads = omega arith; names = some; deep = omega arith }

  by_shared : PartsBegun ws (length cs) columns' (λ i. i) 10 0 0 0 p → Begins ws (length cs) columns' p
  unfolding model_words model_constants part_words PartsRuled constants_of words
  by_shared U =
      let M : Model = record { shared = U.whole; rows = none; objective = column 0 } in
      let after-shared = word 12 0 ∷ word 1 0 ∷ word 13 0 ∷ [] in
      begins ws cs columns' p M U.front (U.rest ++ after-shared) U.ruled tt (leaf_ruled (count U.whole) (at_objective M)) U.here
      (ap (λ x. x ++ after-shared) U.its ∙ append_assoc U.front U.rest after-shared) (U.ends ∙ zero-add _) (omega (arith, U.few, length-append (constants_of U.whole) []))

  module _ (s a b : ℕ) (S : PartsAt ws cs columns (λ i. i) 10 0 0 0 s a b) where
    first : b ≡ length (constants_of S.parts)
    first = S.then ∙ zero-add _

    number : s ≡ count S.parts
    number = S.number ∙ zero-add _

    below : b ≤ length cs
    below = omega (arith, first, ap length S.values, length-append (constants_of S.parts) (drop b cs))

    by_rows : PartsBegun ws (length cs) columns' (λ i. s) 11 0 a b p → Begins ws (length cs) columns' p
    unfolding model_words model_constants part_words PartsRuled constants_of words
    by_rows W =
        let U : PartsBegun ws (length cs) columns' (λ i. count S.parts) 11 0 a (length (constants_of S.parts)) p = subst₂ (λ x y. PartsBegun ws (length cs) columns' (λ i. x) 11 0 a y p) number first W in
        let M : Model = record { shared = S.parts; rows = U.whole; objective = column 0 } in
        let after-rows = word 12 0 ∷ word 1 0 ∷ word 13 0 ∷ [] in
        let front = part_words 10 0 0 S.parts ++ U.front in
        begins ws cs columns' p M front (U.rest ++ after-rows) (looser_parts columns columns' (λ i. i) 0 0 S.parts le S.ruled) U.ruled (leaf_ruled (count S.parts) (at_objective M))
        (S.its ∙ ap (λ x. part_words 10 0 0 S.parts ++ x) U.here ∙ sym (append_assoc (part_words 10 0 0 S.parts) U.front (drop p ws)))
        (ap (λ x. part_words 10 0 0 S.parts ++ x) (ap (λ x. x ++ after-rows) U.its ∙ append_assoc U.front U.rest after-rows) ∙ sym (append_assoc (part_words 10 0 0 S.parts) U.front (U.rest ++ after-rows)))
        (omega (arith, S.ends, U.ends, length-append (part_words 10 0 0 S.parts) U.front))
        (omega (arith, U.few, length-append (constants_of S.parts) (constants_of U.whole ++ []), length-append (constants_of U.whole) []))

    module _ (n c d : ℕ) (R : PartsAt ws cs columns (λ i. s) 11 0 a b n c d) where
      first_of_objective : d ≡ length (constants_of S.parts) + length (constants_of R.parts)
      first_of_objective = R.then ∙ ap (λ x. x + length (constants_of R.parts)) first

      below_rows : d ≤ length cs
      below_rows = omega (arith, below, R.then, ap length R.values, length-append (constants_of R.parts) (drop d cs), length-drop b cs, length-drop d cs)

      by_end : EndBegun ws (length cs) columns' s c d p → Begins ws (length cs) columns' p
      unfolding model_words model_constants
      by_end F =
          let E : EndBegun ws (length cs) columns' (count S.parts) c (length (constants_of S.parts) + length (constants_of R.parts)) p = subst₂ (λ x y. EndBegun ws (length cs) columns' x c y p) number first_of_objective F in
          let M : Model = record { shared = S.parts; rows = R.parts; objective = E.objective } in
          let u = part_words 10 0 0 S.parts in
          let v = part_words 11 0 (at_rows M) R.parts in
          let R-its : drop a ws ≡ v ++ drop c ws = R.its ∙ ap (λ x. part_words 11 0 x R.parts ++ drop c ws) first in
          let R-ends : c ≡ a + length v = R.ends ∙ ap (λ x. a + length (part_words 11 0 x R.parts)) first in
          begins ws cs columns' p M (u ++ (v ++ E.front)) E.rest (looser_parts columns columns' (λ i. i) 0 0 S.parts le S.ruled)
          (looser_parts columns columns' (λ i. count S.parts) 0 (at_rows M) R.parts le (subst₂ (λ x y. PartsRuled depth_limit columns (λ i. x) 0 y R.parts) number first R.ruled)) E.ruled
          (S.its ∙ ap (λ x. u ++ x) (R-its ∙ ap (λ x. v ++ x) E.here ∙ sym (append_assoc v E.front (drop p ws))) ∙ sym (append_assoc u (v ++ E.front) (drop p ws)))
          (ap (λ x. u ++ x) (ap (λ x. v ++ x) E.its ∙ sym (append_assoc v E.front E.rest)) ∙ sym (append_assoc u (v ++ E.front) E.rest))
          (omega (arith, S.ends, R-ends, E.ends, length-append u (v ++ E.front), length-append v E.front))
          (omega (arith, E.few, length-append (constants_of S.parts) (constants_of R.parts ++ constants E.objective), length-append (constants_of R.parts) (constants E.objective)))

  by_outcome : find ws (length cs) columns r ≡ refused reason.Model p → Outcome ws (length cs) columns r → Begins ws (length cs) columns' p
  by_outcome e (in_shared p' q g) =
      let z : p' ≡ p = ap (λ f. (fault_of f).place) (sym g ∙ e) in
      by_shared (parts_begun ws cs columns columns' (λ i. i) 10 r le some (length ws) 0 0 0 None p (q ∙ ap wrong z) (omega arith))
  by_outcome e (in_rows s a b u p' q q' g) =
      let z : p' ≡ p = ap (λ f. (fault_of f).place) (sym g ∙ e) in
      let S = parts_sound ws cs columns (λ i. i) 10 r (length ws) 0 0 0 s a b None u q in
      by_rows s a b S (parts_begun ws cs columns columns' (λ i. s) 11 r le some (length ws) 0 a b None p (q' ∙ ap wrong z) (below s a b S))
  by_outcome e (in_end s a b u n c d x p' q q' q'' g) =
      let z : p' ≡ p = ap (λ f. (fault_of f).place) (sym g ∙ e) in
      let S = parts_sound ws cs columns (λ i. i) 10 r (length ws) 0 0 0 s a b None u q in
      let R = parts_sound ws cs columns (λ i. s) 11 r (length ws) 0 a b n c d None x q' in
      by_end s a b S n c d R (end_begun ws cs columns columns' s le some c d p (q'' ∙ ap wrong z) (below_rows s a b S n c d R))
  by_outcome e (passed s a b u n c d x i j q q' q'' g) = absurd (never_both x n (ap (λ f. (fault_of f).number) (sym g ∙ e)))

  pub begun_file : find ws (length cs) columns r ≡ refused reason.Model p → Begins ws (length cs) columns' p
  begun_file e = by_outcome e (outcome ws (length cs) columns r)
