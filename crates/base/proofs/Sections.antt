-- Laws of sections: none, one element, a copy, one section after the other, and one turn of each loop that writes a section.
use mathlib.Core.Path.{◌≡◌, refl, sym, ap, ◌∙◌}
use mathlib.Core.Bool.{Bool, true, false}
use mathlib.Core.List.{List, [], ◌∷◌, ◌++◌, append_assoc}
use Prim.Native.Nat.{ℕ, zero, suc, ◌+◌, ◌-◌, ◌≤◌, ◌<◌}
use native.Mathlib.Nat.{add-zero, zero-add, add-suc, suc-add}
use native.Mathlib.Numerals.{add-one}
use native.Mathlib.Omega.{arith}
use lib.Dec.{eqb}
use lib.ListN.{length, length-append, drop, take, set, replicate, replicate-append-replicate, length-replicate}
use lib.Seq.{sets, sets-eq, length-sets}
use borrow.Rule.Slice.PartMut.{put_mid}
use Rattle.std.proofs.lemmas.Slice.{put_mid-paste}
use Rattle.std.proofs.lemmas.List.Edits.{paste_all}
use Rattle.base.specs.declared.section.ListWriter.{ListWriter}
use borrow.Author.Tests.{eqb-true, eqb-false}
use Rattle.base.specs.Loop.{loop, table, each}
use Rattle.base.specs.internal.Section.{Wrote, Added, Ends}

module _ {A : Type 0} where
  sets_sets : (u v l : List A) (i : ℕ) → sets (sets l i u) (i + length u) v ≡ sets l i (u ++ v)
  sets_sets [] v l i = ap (λ k. sets l k v) (add-zero i)
  sets_sets (a ∷ u) v l i =
      ap (λ k. sets (sets (set l i a) (suc i) u) k v) (add-suc i (length u) ∙ sym (suc-add i (length u)))
      ∙ sets_sets u v (set l i a) (suc i)

  pub wrote_none : (l : List A) (to : ℕ) → Wrote l to [] l to
  wrote_none l to = record { holds = refl; follows = sym (add-zero to) }

  pub wrote_one : (l : List A) (to : ℕ) (a : A) → Wrote l to (a ∷ []) (set l to a) (to + 1)
  wrote_one l to a = record { holds = refl; follows = refl }

  pub then : {l m l' u v : List A} {to j k : ℕ} → Wrote l to u m j → Wrote m j v l' k → Wrote l to (u ++ v) l' k
  then {l} {m} {l'} {u} {v} {to} {j} {k} p q = record {
    holds = q.holds ∙ rw (p.holds, p.follows) (sets_sets u v l to);
    follows = omega (arith, p.follows, q.follows, length-append u v);
  }

  -- a section from the first place on
  pub wrote_front : {l l' u : List A} {k : ℕ} → Wrote l 0 u l' k → length u ≤ length l → l' ≡ u ++ drop (length u) l
  wrote_front {l} {l'} {u} p h =
      let e : 0 + length u ≡ length u = zero-add (length u) in
      p.holds ∙ rw e at (sets-eq u l 0 (rw e h))

  -- a section copied into the list
  pub wrote_mid : (l : List A) {s t : List A} (to : ℕ) → t ≡ s → to + length s ≤ length l
      → Wrote l to s (put_mid to (to + length s - to) l t) (to + length s)
  wrote_mid l {s} {t} to e h = record {
    holds = put_mid-paste to (to + length s - to) l t s (length s) e (omega arith) refl ∙ paste_all l to s (length s) refl ∙ sym (sets-eq s l to h ∙ append_assoc (take to l) s (drop (to + length s) l));
    follows = refl;
  }

  pub wrote_length : {l m s : List A} {to k : ℕ} → Wrote l to s m k → length m ≡ length l
  wrote_length {l} {m} {s} {to} w = ap length w.holds ∙ length-sets l to s

  -- ---- the same of a list writer

  pub added_none : (p : ListWriter A) → Added p [] p
  added_none p = record { wrote = wrote_none p.out.now p.at; same = refl }

  pub added_one : {p q : ListWriter A} (a : A) → q.out.now ≡ set p.out.now p.at a → q.at ≡ p.at + 1 → q.out.ghost_name ≡ p.out.ghost_name → Added p (a ∷ []) q
  added_one a e f g = record { wrote = rw (e, f) (wrote_one _ _ a); same = g }

  pub added_then : {p q r : ListWriter A} {u v : List A} → Added p u q → Added q v r → Added p (u ++ v) r
  added_then x y = record { wrote = then x.wrote y.wrote; same = y.same ∙ x.same }

  pub added_length : {p q : ListWriter A} {u : List A} → Added p u q → length q.out.now ≡ length p.out.now
  added_length x = wrote_length x.wrote

  pub added_ends : {p q : ListWriter A} {u : List A} → Added p u q → Ends p (length u) q
  added_ends x = record { at = x.wrote.follows; length = added_length x }

  -- from the list's first place on
  pub added_front : {p q : ListWriter A} {u : List A} → p.at ≡ 0 → Added p u q → length u ≤ length p.out.now → q.out.now ≡ u ++ drop (length u) p.out.now
  added_front e x h = wrote_front (rw e at x.wrote) h

  -- ---- one value, again and again

  pub added_value : {p q r : ListWriter A} (i : ℕ) (a : A) → Added p (replicate i a) q → Added q (a ∷ []) r → Added p (replicate (i + 1) a) r
  added_value i a x y = rw (← replicate-append-replicate i 1 a) (added_then x y)

  pub table_value : (n : ℕ) (a : A) → table n (λ _. a) ≡ replicate n a
  unfolding table loop
  table_value zero a = refl
  table_value (suc n) a =
      let e : n + 1 ≡ suc n = omega arith in
      ap (λ l. l ++ (a ∷ [])) (table_value n a) ∙ replicate-append-replicate n 1 a ∙ ap (λ k. replicate k a) e

  pub filled_ends : {p q : ListWriter A} (i : ℕ) (a : A) → Added p (replicate i a) q → Ends p i q
  filled_ends i a x = rw (length-replicate i a) at (added_ends x)

  -- ---- a table, one element a turn

  pub table_none : (p : ListWriter A) (f : ℕ → A) → Added p (table 0 f) p
  unfolding table loop
  table_none p f = added_none p

  pub added_table : {p q r : ListWriter A} (f : ℕ → A) (i : ℕ) {a : A} → a ≡ f i → Added p (table i f) q → Added q (a ∷ []) r → Added p (table (i + 1) f) r
  unfolding table loop
  added_table f i e x y = rw (add-one i) (added_then x (rw e at y))

  -- ---- lists, one a turn

  pub each_none : (p : ListWriter A) (f : ℕ → List A) → Added p (each 0 f) p
  unfolding each loop
  each_none p f = added_none p

  pub added_each : {p q r : ListWriter A} (f : ℕ → List A) (i : ℕ) → Added p (each i f) q → Added q (f i) r → Added p (each (i + 1) f) r
  unfolding each loop
  added_each f i x y = rw (add-one i) (added_then x y)

  pub each_fits : (n : ℕ) (f : ℕ → List A) (i : ℕ) → i < n → length (each i f) + length (f i) ≤ length (each n f)
  unfolding each loop
  each_fits zero f i h = absurd (omega arith)
  each_fits (suc n) f i h = go (eqb i n) refl (each_fits n f i)
    where
      go : (b : Bool) → eqb i n ≡ b → (i < n → length (each i f) + length (f i) ≤ length (each n f)) → length (each i f) + length (f i) ≤ length (each n f ++ f n)
      go true e k = rw (eqb-true i n e) (omega (arith, length-append (each n f) (f n)))
      go false e k = let ne = eqb-false i n e in omega (arith, length-append (each n f) (f n), k (omega arith))
