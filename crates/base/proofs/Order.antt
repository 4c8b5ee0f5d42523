-- A refusal is the first of several sections: sections stand in any order of numbers, and no two give the same number.
use mathlib.Core.Path.{◌≡◌, refl, sym, ap, subst, ◌∙◌}
use mathlib.Core.List.{List, [], ◌∷◌, ◌++◌}
use mathlib.Core.Bool.{Bool, true, false, not, ◌&&◌, ◌||◌, false≢true}
use Prim.Native.Nat.{ℕ, zero, suc, ◌+◌, ◌≤◌, ◌<◌}
use native.Mathlib.Omega.{arith}
use lib.Dec.{eqb}
use borrow.Author.Tests.{eqb-true, eqb-false}
use Rattle.base.specs.Fault.{Fault}
use Rattle.base.specs.Fault.{or_else, clear, Section, section, first_of}
use Rattle.base.specs.Order.{member, numbers_of, Says, IsFirst}
use Rattle.base.proofs.Firsts.{Clear, Spans, or_go, or_stop}

-- ---- lists of numbers

-- no number of the first list is in the second
abbrev pub disjoint : List ℕ → List ℕ → Bool
disjoint [] ys = true
disjoint (x ∷ xs) ys = not (member x ys) && disjoint xs ys

-- lo, lo + 1 .. , so many
abbrev pub range : ℕ → ℕ → List ℕ
range lo zero = []
range lo (suc count) = lo ∷ range (suc lo) count

or_true : (a b : Bool) → b ≡ true → a || b ≡ true
or_true true b h = refl
or_true false b h = h

and_both : (a b : Bool) → a && b ≡ true → (a ≡ true) × (b ≡ true)
and_both true b h = (refl, h)
and_both false b h = absurd (false≢true h)

member_left : (x : ℕ) (xs ys : List ℕ) → member x xs ≡ true → member x (xs ++ ys) ≡ true
member_left x [] ys h = absurd (false≢true h)
member_left x (z ∷ xs) ys h = go (eqb x z) refl h (member_left x xs ys)
  where
    go : (b : Bool) → eqb x z ≡ b → b || member x xs ≡ true → (member x xs ≡ true → member x (xs ++ ys) ≡ true) → b || member x (xs ++ ys) ≡ true
    go true e h k = refl
    go false e h k = k h

member_right : (x : ℕ) (xs ys : List ℕ) → member x ys ≡ true → member x (xs ++ ys) ≡ true
member_right x [] ys h = h
member_right x (z ∷ xs) ys h = or_true (eqb x z) _ (member_right x xs ys h)

apart : (x : ℕ) (xs ys : List ℕ) → disjoint xs ys ≡ true → member x xs ≡ true → member x ys ≡ true → ⊥
apart x [] ys d h k = false≢true h
apart x (z ∷ xs) ys d h k = go (member z ys) (eqb x z) refl refl d h (apart x xs ys)
  where
    go : (a b : Bool) → member z ys ≡ a → eqb x z ≡ b → not a && disjoint xs ys ≡ true → b || member x xs ≡ true
        → (disjoint xs ys ≡ true → member x xs ≡ true → member x ys ≡ true → ⊥) → ⊥
    go true b e f d h r = false≢true d
    go false true e f d h r = false≢true (sym e ∙ rw (eqb-true x z f) at k)
    go false false e f d h r = r d h k

member_range : (x lo count : ℕ) → lo ≤ x → x < lo + count → member x (range lo count) ≡ true
member_range x lo zero h l = absurd (omega arith)
member_range x lo (suc count) h l = go (eqb x lo) refl (member_range x (suc lo) count)
  where
    go : (b : Bool) → eqb x lo ≡ b → (suc lo ≤ x → x < suc lo + count → member x (range (suc lo) count) ≡ true) → b || member x (range (suc lo) count) ≡ true
    go true e k = refl
    go false e k = let ne = eqb-false x lo e in k (omega arith) (omega arith)

-- a number of the list is not one that the list does not have
pub other_number : (x y : ℕ) (xs : List ℕ) → member x xs ≡ true → member y xs ≡ false → x ≡ y → ⊥
other_number x y xs h k e = false≢true (sym k ∙ ap (λ z. member z xs) (sym e) ∙ h)

-- ---- a section gives its numbers alone

-- a refusal of the section has one of its numbers
abbrev pub Gives : Section → Type 0
Gives s = (Clear s.its → ⊥) → member s.its.number s.numbers ≡ true

abbrev pub AllGive : List Section → Type 0
AllGive [] = Unit {0}
AllGive (s ∷ later) = Gives s × AllGive later

pub gives_span : {lo hi : ℕ} {f : Fault} (count : ℕ) → hi ≡ lo + count → Spans lo hi f → Gives (section (range lo (suc count)) f)
gives_span {lo} {hi} {f} count e s c = member_range f.number lo (suc count) (s.low c) (omega (arith, s.high c))

pub gives_one : {number : ℕ} {f : Fault} → Spans number number f → Gives (section (number ∷ []) f)
gives_one s = gives_span 0 (omega arith) s

-- the first of two faults gives the numbers of both
gives_or : (xs ys : List ℕ) (f g : Fault) → Gives (section xs f) → Gives (section ys g) → Gives (section (xs ++ ys) (or_else f g))
gives_or xs ys f g hf hg c = go (eqb f.number 0) refl
  where
    go : (b : Bool) → eqb f.number 0 ≡ b → member (or_else f g).number (xs ++ ys) ≡ true
    go true e =
        let p = or_go f g (eqb-true _ 0 e) in
        rw p (member_right g.number xs ys (hg (λ z. c (rw p z))))
    go false e =
        let ne = eqb-false _ 0 e in
        rw (or_stop f g ne) (member_left f.number xs ys (hf ne))

pub give_append : (ss ts : List Section) → AllGive ss → AllGive ts → AllGive (ss ++ ts)
give_append [] ts h k = k
give_append (s ∷ ss) ts h k = (h.0, give_append ss ts h.1 k)

-- the first of all gives a number of one of them
pub first_gives : (ss : List Section) → AllGive ss → (Clear (first_of ss) → ⊥) → member (first_of ss).number (numbers_of ss) ≡ true
first_gives [] h c = absurd (c refl)
first_gives (s ∷ []) h c = member_left s.its.number s.numbers [] (h.0 c)
first_gives (s ∷ t ∷ later) h c =
    gives_or s.numbers (numbers_of (t ∷ later)) s.its (first_of (t ∷ later)) h.0 (first_gives (t ∷ later) h.1) c

-- ---- a refusal is the first

-- no two sections have a number in common: a computed test
abbrev pub own_numbers : List Section → Bool
own_numbers [] = true
own_numbers (s ∷ later) = disjoint s.numbers (numbers_of later) && own_numbers later

says_none : (f : Fault) (ss : List Section) → (member f.number (numbers_of ss) ≡ true → ⊥) → Says f ss
says_none f [] h = tt
says_none f (s ∷ later) h =
    let none : member f.number (numbers_of later) ≡ true → ⊥ = λ m. h (member_right f.number s.numbers (numbers_of later) m) in
    (λ m. absurd (h (member_left f.number s.numbers (numbers_of later) m)), λ m. absurd (none m), says_none f later none)

says_first : (ss : List Section) → AllGive ss → own_numbers ss ≡ true → (Clear (first_of ss) → ⊥) → Says (first_of ss) ss
says_first [] h o c = tt
says_first (s ∷ []) h o c = (λ m. refl, λ m. absurd (false≢true m), tt)
says_first (s ∷ t ∷ later) h o c =
    go (eqb s.its.number 0) refl (says_first (t ∷ later) h.1 (and_both (disjoint s.numbers (numbers_of (t ∷ later))) (own_numbers (t ∷ later)) o).1)
  where
    own : disjoint s.numbers (numbers_of (t ∷ later)) ≡ true
    own = (and_both (disjoint s.numbers (numbers_of (t ∷ later))) (own_numbers (t ∷ later)) o).0

    go : (b : Bool) → eqb s.its.number 0 ≡ b → ((Clear (first_of (t ∷ later)) → ⊥) → Says (first_of (t ∷ later)) (t ∷ later))
        → Says (first_of (s ∷ t ∷ later)) (s ∷ t ∷ later)
    go true e k =
        let z = eqb-true _ 0 e in
        let p = or_go s.its (first_of (t ∷ later)) z in
        let c' : Clear (first_of (t ∷ later)) → ⊥ = λ y. c (rw p y) in
        let some = first_gives (t ∷ later) h.1 c' in
        subst (λ x. Says x (s ∷ t ∷ later)) (sym p) (λ m. absurd (apart (first_of (t ∷ later)).number s.numbers (numbers_of (t ∷ later)) own m some), λ m. z, k c')
    go false e k =
        let ne = eqb-false _ 0 e in
        let p = or_stop s.its (first_of (t ∷ later)) ne in
        let none : member s.its.number (numbers_of (t ∷ later)) ≡ true → ⊥ = λ m. apart s.its.number s.numbers (numbers_of (t ∷ later)) own (h.0 ne) m in
        subst (λ x. Says x (s ∷ t ∷ later)) (sym p) (λ m. refl, λ m. absurd (none m), says_none s.its (t ∷ later) none)

pub refusal_is_first : (ss : List Section) → AllGive ss → own_numbers ss ≡ true → (Clear (first_of ss) → ⊥) → IsFirst (first_of ss) ss
refusal_is_first ss h o c = record { has = first_gives ss h c; says = says_first ss h o c }

-- a section put between others, with numbers of its own, keeps the law
give_between : (before later : List Section) (s : Section) → AllGive (before ++ later) → Gives s → AllGive (before ++ (s ∷ later))
give_between [] later s h k = (k, h)
give_between (b ∷ before) later s h k = (h.0, give_between before later s h.1 k)

pub with_new : (before later : List Section) (s : Section) → AllGive (before ++ later) → Gives s → own_numbers (before ++ (s ∷ later)) ≡ true
    → (Clear (first_of (before ++ (s ∷ later))) → ⊥) → IsFirst (first_of (before ++ (s ∷ later))) (before ++ (s ∷ later))
with_new before later s h k o c = refusal_is_first (before ++ (s ∷ later)) (give_between before later s h k) o c

-- ---- sections put after others

or_assoc : (f g h : Fault) → or_else f (or_else g h) ≡ or_else (or_else f g) h
or_assoc f g h = go (eqb f.number 0) refl
  where
    go : (b : Bool) → eqb f.number 0 ≡ b → or_else f (or_else g h) ≡ or_else (or_else f g) h
    go true e = let z = eqb-true _ 0 e in rw (or_go f (or_else g h) z, or_go f g z)
    go false e = let ne = eqb-false _ 0 e in rw (or_stop f (or_else g h) ne, or_stop f g ne, or_stop f h ne)

-- at least one
abbrev pub Some : List Section → Type 0
Some [] = ⊥
Some (t ∷ later) = Unit {0}

-- the sections before decide first
pub first_append : (ss ts : List Section) → Some ts → first_of (ss ++ ts) ≡ or_else (first_of ss) (first_of ts)
first_append ss [] h = absurd h
first_append [] (t ∷ later) h = sym (or_go clear (first_of (t ∷ later)) refl)
first_append (s ∷ []) (t ∷ later) h = refl
first_append (s ∷ u ∷ ss) (t ∷ later) h =
    ap (or_else s.its) (first_append (u ∷ ss) (t ∷ later) h) ∙ or_assoc s.its (first_of (u ∷ ss)) (first_of (t ∷ later))
