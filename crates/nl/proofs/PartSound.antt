-- Wherever the reader goes past parts and the end, parts and an objective stand there.
use mathlib.Core.Path.{◌≡◌, refl, ap, ap₂, sym, ◌∙◌, subst, subst₂}
use mathlib.Core.List.{List, [], ◌∷◌, ◌++◌, append_assoc, append-nil}
use mathlib.Core.Bool.{Bool, true, false, cond}
use Prim.Native.Nat.{ℕ, zero, suc, ◌+◌, ◌<◌}
use native.Mathlib.Omega.{arith}
use native.Mathlib.Nat.{add-zero, zero-add}
use native.Mathlib.Numerals.{add-one}
use lib.ListN.{length, get_or, drop, length-append, drop_of_length-le}
use lib.Seq.{drop-cons}
use lib.Dec.{eqb}
use borrow.Author.Tests.{eqb-true}
use Rattle.std.specs.Prelude.{Option, None, Ok, Err}
use Rattle.base.specs.declared.refusal.Reason.TheVariants as reason
use Rattle.base.specs.Fault.{fault_of}
use Rattle.base.specs.Word.{word}
use Rattle.nl.specs.declared.reader.Parts.{Parts}
use Rattle.nl.specs.declared.reader.Span.{Span}
use Rattle.nl.specs.declared.reader.Cursor.{Cursor}
use Rattle.nl.specs.Expr.{load_limit, Expr, Terms, none, more, count, constants, constants_of, next, words}
use Rattle.nl.specs.File.{Model, part_words, at_objective, model_words, model_constants, Ruled, PartsRuled, depth_limit, StandsFor}
use Rattle.nl.specs.Reader.{Read, wrong, went, stop, span, after, read_expr, is_mark, read_parts, read_last, read_end, read_after, read_file}
use Rattle.base.specs.Refusal.{MODEL}
use Rattle.nl.specs.Finder.{refused, or_absent, find}
use Rattle.nl.proofs.Sound.{went_cond, went_after, sound}
use Rattle.nl.proofs.PartSteps.{marked}

pub mark_back : (ws : List ℕ) (kind load at : ℕ) → is_mark ws kind load at ≡ true → (load < load_limit) × (drop at ws ≡ word kind load ∷ drop (at + 1) ws)
mark_back ws kind load at e =
    let (h, p, q) = marked ws kind load at e in
    let w : get_or ws at 0 ≡ word kind load = omega arith in
    (omega arith, drop-cons ws at 0 h ∙ rw (add-one at, w))

abbrev parts_in : Read Parts → Parts
parts_in (Ok t) = t
parts_in (Err w) = record { count = 0; end = record { at = 0; next = 0 }; span = None }

-- parts stand in the words ws from `at` up to `end`, and their constants in cs from k up to `last`
pub record PartsAt (ws cs : List ℕ) (columns : ℕ) (named : ℕ → ℕ) (kind i at k j end last : ℕ) : Type 0 where
  pub parts : Terms
  pub number : j ≡ i + count parts
  pub ruled : PartsRuled depth_limit columns named i k parts
  pub its : drop at ws ≡ part_words kind i k parts ++ drop end ws
  pub values : drop k cs ≡ constants_of parts ++ drop last cs
  pub ends : end ≡ at + length (part_words kind i k parts)
  pub then : last ≡ k + length (constants_of parts)

module _ (ws cs : List ℕ) (columns : ℕ) (named : ℕ → ℕ) (kind r : ℕ) where
  no_parts : (i at k j end last : ℕ) (s s' : Option Span) → stop i at k s ≡ stop j end last s' → PartsAt ws cs columns named kind i at k j end last
  unfolding part_words PartsRuled constants_of
  no_parts i at k j end last s s' p =
      let n = ap (λ x. (parts_in x).count) p in
      let a = ap (λ x. (parts_in x).end.at) p in
      let b = ap (λ x. (parts_in x).end.next) p in
      record { parts = none; number = cc (add-zero i); ruled = tt; its = cc; values = cc; ends = cc (add-zero at); then = cc (add-zero k) }

  by_mark : (b : Bool) (n i at k j end last : ℕ) (s s' : Option Span) → is_mark ws kind i at ≡ b
      → cond b (after (read_expr ws (length cs) columns (named i) depth_limit (at + 1) k) (λ a c. read_parts ws (length cs) columns named kind r n (i + 1) a c (cond (eqb i r) (span (at + 1) a) s))) (stop i at k s) ≡ stop j end last s'
      → ((a c : ℕ) (s : Option Span) → read_parts ws (length cs) columns named kind r n (i + 1) a c s ≡ stop j end last s' → PartsAt ws cs columns named kind (i + 1) a c j end last)
      → PartsAt ws cs columns named kind i at k j end last
  unfolding part_words PartsRuled constants_of
  by_mark false n i at k j end last s s' e p rec = no_parts i at k j end last s s' p
  by_mark true n i at k j end last s s' e p rec =
      let (a, c, x, q) = went_after _ _ _ p in
      let (y, st) = sound ws cs columns (named i) depth_limit (at + 1) k a c x in
      let u : PartsAt ws cs columns named kind (i + 1) a (next k y) j end last = subst (λ z. PartsAt ws cs columns named kind (i + 1) a z j end last) st.then (rec a c _ q) in
      let (l, m) = mark_back ws kind i at e in
      let v : drop k cs ≡ constants y ++ drop (next k y) cs = st.values ∙ ap (λ z. constants y ++ drop z cs) st.then in
      record {
        parts = more y u.parts;
        number = omega (arith, u.number);
        ruled = (l, record { loads = st.written; names = st.names; deep = st.deep }, u.ruled);
        its = m ∙ ap (λ z. word kind i ∷ z) (st.its ∙ ap (λ z. words k y ++ z) u.its ∙ sym (append_assoc (words k y) (part_words kind (i + 1) (next k y) u.parts) (drop end ws)));
        values = v ∙ ap (λ z. constants y ++ z) u.values ∙ sym (append_assoc (constants y) (constants_of u.parts) (drop last cs));
        ends = omega (arith, st.ends, u.ends, length-append (words k y) (part_words kind (i + 1) (next k y) u.parts));
        then = omega (arith, u.then, length-append (constants y) (constants_of u.parts));
      }

  pub parts_sound : (n i at k j end last : ℕ) (s s' : Option Span) → read_parts ws (length cs) columns named kind r n i at k s ≡ stop j end last s' → PartsAt ws cs columns named kind i at k j end last
  unfolding read_parts
  parts_sound zero i at k j end last s s' p = no_parts i at k j end last s s' p
  parts_sound (suc n) i at k j end last s s' p =
      by_mark (is_mark ws kind i at) n i at k j end last s s' refl p (λ a c u q. parts_sound n (i + 1) a c j end last u s' q)

record EndAt (ws cs : List ℕ) (columns shared at k : ℕ) : Type 0 where
  objective : Expr
  ruled : Ruled depth_limit columns shared k objective
  its : drop at ws ≡ word 12 0 ∷ words k objective ++ (word 13 0 ∷ [])
  values : drop k cs ≡ constants objective

end_sound : (ws cs : List ℕ) (columns shared at k end last : ℕ) → read_end ws (length cs) columns shared at k ≡ went end last → EndAt ws cs columns shared at k
unfolding read_end read_last
end_sound ws cs columns shared at k end last p =
    let (m, q) = went_cond (is_mark ws 12 0 at) _ at _ p in
    let (a, c, r, l) = went_after _ (read_last ws (length cs)) _ q in
    let (x, s) = sound ws cs columns shared depth_limit (at + 1) k a c r in
    let (m', l') = went_cond (is_mark ws 13 0 a) _ a _ l in
    let (z, l'') = went_cond (eqb c (length cs)) _ a _ l' in
    let (y, l''') = went_cond (eqb (a + 1) (length ws)) _ (a + 1) _ l'' in
    let e1 : drop (a + 1) ws ≡ [] = drop_of_length-le ws {i = a + 1} (omega (arith, eqb-true (a + 1) (length ws) y)) in
    let e2 : drop c cs ≡ [] = drop_of_length-le cs {i = c} (omega (arith, eqb-true c (length cs) z)) in
    record {
      objective = x;
      ruled = record { loads = s.written; names = s.names; deep = s.deep };
      its = (mark_back ws 12 0 at m).1 ∙ ap (λ u. word 12 0 ∷ u) (s.its ∙ ap (λ u. words k x ++ u) ((mark_back ws 13 0 a m').1 ∙ ap (λ u. word 13 0 ∷ u) e1));
      values = s.values ∙ ap (λ u. constants x ++ u) e2 ∙ append-nil (constants x);
    }

-- how far the reader went in a file that the finder refuses with 17, and that it went to the end in any other
pub data Outcome (ws : List ℕ) (limit columns r : ℕ) : Type 0 where
  in_shared : (p : ℕ) → read_parts ws limit columns (λ i. i) 10 r (length ws) 0 0 0 None ≡ wrong p → find ws limit columns r ≡ refused reason.Model p → Outcome ws limit columns r
  in_rows : (s a b : ℕ) (u : Option Span) (p : ℕ) → read_parts ws limit columns (λ i. i) 10 r (length ws) 0 0 0 None ≡ stop s a b u → read_parts ws limit columns (λ i. s) 11 r (length ws) 0 a b None ≡ wrong p
      → find ws limit columns r ≡ refused reason.Model p → Outcome ws limit columns r
  in_end : (s a b : ℕ) (u : Option Span) (n c d : ℕ) (x : Option Span) (p : ℕ) → read_parts ws limit columns (λ i. i) 10 r (length ws) 0 0 0 None ≡ stop s a b u → read_parts ws limit columns (λ i. s) 11 r (length ws) 0 a b None ≡ stop n c d x
      → read_end ws limit columns s c d ≡ wrong p → find ws limit columns r ≡ refused reason.Model p → Outcome ws limit columns r
  passed : (s a b : ℕ) (u : Option Span) (n c d : ℕ) (x : Option Span) (e f : ℕ) → read_parts ws limit columns (λ i. i) 10 r (length ws) 0 0 0 None ≡ stop s a b u → read_parts ws limit columns (λ i. s) 11 r (length ws) 0 a b None ≡ stop n c d x
      → read_end ws limit columns s c d ≡ went e f → find ws limit columns r ≡ or_absent x n → Outcome ws limit columns r

module _ (ws : List ℕ) (limit columns r : ℕ) where
  by_end : (s a b : ℕ) (u : Option Span) (n c d : ℕ) (x : Option Span) → read_parts ws limit columns (λ i. i) 10 r (length ws) 0 0 0 None ≡ stop s a b u → read_parts ws limit columns (λ i. s) 11 r (length ws) 0 a b None ≡ stop n c d x
      → (z : Read Cursor) → read_end ws limit columns s c d ≡ z → Outcome ws limit columns r
  unfolding find read_file read_after
  by_end s a b u n c d x p q (Ok c0) l = passed s a b u n c d x c0.at c0.next p q l (rw (p, q, l))
  by_end s a b u n c d x p q (Err w) l = in_end s a b u n c d x w.place p q l (rw (p, q, l))

  by_rows : (s a b : ℕ) (u : Option Span) → read_parts ws limit columns (λ i. i) 10 r (length ws) 0 0 0 None ≡ stop s a b u
      → (t : Read Parts) → read_parts ws limit columns (λ i. s) 11 r (length ws) 0 a b None ≡ t → Outcome ws limit columns r
  unfolding find read_file read_after
  by_rows s a b u p (Ok t) q = by_end s a b u t.count t.end.at t.end.next t.span p q (read_end ws limit columns s t.end.at t.end.next) refl
  by_rows s a b u p (Err w) q = in_rows s a b u w.place p q (rw (p, q))

  by_shared : (t : Read Parts) → read_parts ws limit columns (λ i. i) 10 r (length ws) 0 0 0 None ≡ t → Outcome ws limit columns r
  unfolding find read_file
  by_shared (Ok t) p = by_rows t.count t.end.at t.end.next t.span p (read_parts ws limit columns (λ i. t.count) 11 r (length ws) 0 t.end.at t.end.next None) refl
  by_shared (Err w) p = in_shared w.place p (rw p)

  pub outcome : Outcome ws limit columns r
  outcome = by_shared (read_parts ws limit columns (λ i. i) 10 r (length ws) 0 0 0 None) refl

-- a file that the finder does not refuse with 17 stands for a model
pub file_sound : (ws cs : List ℕ) (columns r : ℕ) → ¬ ((fault_of (find ws (length cs) columns r)).number ≡ MODEL) → (M : Model) × StandsFor ws cs columns M
unfolding model_words model_constants
file_sound ws cs columns r h = go (outcome ws (length cs) columns r)
  where
    go : Outcome ws (length cs) columns r → (M : Model) × StandsFor ws cs columns M
    go (in_shared p q f) = absurd (h (ap (λ x. (fault_of x).number) f))
    go (in_rows s a b u p q q' f) = absurd (h (ap (λ x. (fault_of x).number) f))
    go (in_end s a b u n c d x p q q' q'' f) = absurd (h (ap (λ x. (fault_of x).number) f))
    go (passed s a b u n c d x e f first second third g) =
        let S = parts_sound ws cs columns (λ i. i) 10 r (length ws) 0 0 0 s a b None u first in
        let k1 : b ≡ length (constants_of S.parts) = S.then ∙ zero-add _ in
        let n1 : s ≡ count S.parts = S.number ∙ zero-add _ in
        let R = parts_sound ws cs columns (λ i. s) 11 r (length ws) 0 a b n c d None x second in
        let E = end_sound ws cs columns s c d e f third in
        let M : Model = record { shared = S.parts; rows = R.parts; objective = E.objective } in
        let k2 : d ≡ at_objective M = R.then ∙ ap (λ z. z + length (constants_of R.parts)) k1 in (
          M,
          record {
            shared_ruled = S.ruled;
            rows_ruled = subst₂ (λ m l. PartsRuled depth_limit columns (λ i. m) 0 l R.parts) n1 k1 R.ruled;
            objective_ruled = subst₂ (λ m l. Ruled depth_limit columns m l E.objective) n1 k2 E.ruled;
            its_words = S.its ∙ ap (λ z. part_words 10 0 0 S.parts ++ z) (R.its ∙ ap₂ (λ l z. part_words 11 0 l R.parts ++ z) k1 (E.its ∙ ap (λ l. word 12 0 ∷ words l E.objective ++ (word 13 0 ∷ [])) k2));
            its_constants = S.values ∙ ap (λ z. constants_of S.parts ++ z) (R.values ∙ ap (λ z. constants_of R.parts ++ z) E.values);
          },
        )
