-- A file stands for at most one model, whatever its number of columns.
use mathlib.Core.Path.{◌≡◌, refl, ap, ap₂, sym, ◌∙◌}
use mathlib.Core.List.{List, [], ◌∷◌, ◌++◌, append_assoc, append-nil}
use Prim.Native.Nat.{ℕ, ◌+◌, ◌<◌}
use native.Mathlib.Omega.{arith}
use native.Mathlib.Nat.{zero-add}
use lib.ListN.{length, drop}
use Rattle.base.specs.Word.{word, kind_of}
use Rattle.nl.specs.Expr.{load_limit, Terms, none, more, count, constants, constants_of, next, words}
use Rattle.nl.specs.File.{Model, part_words, at_rows, at_objective, model_words, model_constants, PartsRuled, depth_limit, StandsFor}
use Rattle.nl.proofs.Words.{kind_word, cancel}
use Rattle.nl.proofs.Build.{unique, drop_past}

-- what follows begins with a word of another kind
abbrev pub Other : ℕ → List ℕ → Type 0
Other kind [] = Unit {0}
Other kind (w ∷ ws) = kind_of w ≡ kind → ⊥

abbrev head : List ℕ → ℕ
head [] = 0
head (w ∷ ws) = w

abbrev tail : List ℕ → List ℕ
tail [] = []
tail (w ∷ ws) = ws

-- parts of the kind and nothing of it: no
clash : (kind i : ℕ) (xs ys : List ℕ) → i < load_limit → Other kind ys → word kind i ∷ xs ≡ ys → ⊥
clash kind i xs [] h o p = cc
clash kind i xs (y ∷ ys) h o p = o (ap kind_of (sym (ap head p)) ∙ kind_word kind i h)

module _ (cs : List ℕ) (kind : ℕ) where
  parts_unique : (deepest columns columns' : ℕ) (named named' : ℕ → ℕ) (i k : ℕ) (ts us : Terms) (xs ys rest rest' : List ℕ) → PartsRuled deepest columns named i k ts → PartsRuled deepest columns' named' i k us → Other kind xs → Other kind ys
      → drop k cs ≡ constants_of ts ++ rest → drop k cs ≡ constants_of us ++ rest' → part_words kind i k ts ++ xs ≡ part_words kind i k us ++ ys → (ts ≡ us) × (xs ≡ ys)
  unfolding part_words PartsRuled constants_of
  parts_unique d c c' s s' i k none none xs ys rest rest' h h' o o' v v' p = (refl, p)
  parts_unique d c c' s s' i k none (more e us) xs ys rest rest' h h' o o' v v' p = absurd (clash kind i _ xs h'.0 o (sym p))
  parts_unique d c c' s s' i k (more e ts) none xs ys rest rest' h h' o o' v v' p = absurd (clash kind i _ ys h.0 o' p)
  parts_unique d c c' s s' i k (more e ts) (more e' us) xs ys rest rest' h h' o o' v v' p =
      let q : words k e ++ (part_words kind (i + 1) (next k e) ts ++ xs) ≡ words k e' ++ (part_words kind (i + 1) (next k e') us ++ ys) =
      sym (append_assoc (words k e) (part_words kind (i + 1) (next k e) ts) xs) ∙ ap tail p ∙ append_assoc (words k e') (part_words kind (i + 1) (next k e') us) ys in
      let w = v ∙ append_assoc (constants e) (constants_of ts) rest in
      let w' = v' ∙ append_assoc (constants e') (constants_of us) rest' in
      let same : e ≡ e' = unique e e' k cs (constants_of ts ++ rest) (constants_of us ++ rest') _ _ h.1.loads h'.1.loads w w' q in
      let r = cancel e e' k k _ _ h.1.loads h'.1.loads q in
      let n : next k e' ≡ next k e = ap (next k) (sym same) in
      let (a, b) = parts_unique d c c' s s' (i + 1) (next k e) ts us xs ys rest rest' h.2 (rw n at h'.2) o o' (drop_past k cs (constants e) (constants_of ts ++ rest) w)
      (rw n at (drop_past k cs (constants e') (constants_of us ++ rest') w')) (rw n at r) in
      (ap₂ more same a, b)

pub drop_from : (l xs ys : List ℕ) → l ≡ xs ++ ys → drop (length xs) l ≡ ys
drop_from l xs ys p = ap (λ x. drop x l) (sym (zero-add (length xs))) ∙ drop_past 0 l xs ys p

pub other_shared : (k : ℕ) (ts : Terms) (xs : List ℕ) → Other 10 (part_words 11 0 k ts ++ (word 12 0 ∷ xs))
unfolding part_words
other_shared k none xs = λ e. omega arith
other_shared k (more t ts) xs = λ e. omega arith

pub other_objective : (xs : List ℕ) → Other 11 (word 12 0 ∷ xs)
other_objective xs = λ e. omega arith

pub model_unique : (ws cs : List ℕ) (columns columns' : ℕ) (M N : Model) → StandsFor ws cs columns M → StandsFor ws cs columns' N → M ≡ N
unfolding model_words model_constants
model_unique ws cs columns columns' M N s t =
    let (a, p) = parts_unique cs 10 depth_limit columns columns' (λ i. i) (λ i. i) 0 0 M.shared N.shared _ _ _ _ s.shared_ruled t.shared_ruled (other_shared _ M.rows _) (other_shared _ N.rows _) s.its_constants t.its_constants (sym s.its_words ∙ t.its_words) in
    let n : at_rows N ≡ at_rows M = ap (λ x. length (constants_of x)) (sym a) in
    let v : drop (at_rows M) cs ≡ constants_of M.rows ++ constants M.objective = drop_from cs (constants_of M.shared) _ s.its_constants in
    let w : drop (at_rows M) cs ≡ constants_of N.rows ++ constants N.objective = ap (λ x. drop x cs) (sym n) ∙ drop_from cs (constants_of N.shared) _ t.its_constants in
    let (b, q) = parts_unique cs 11 depth_limit columns columns' (λ i. count M.shared) (λ i. count N.shared) 0 (at_rows M) M.rows N.rows _ _ _ _ s.rows_ruled (rw n at t.rows_ruled) (other_objective []) (other_objective []) v w (rw n at p) in
    let m : at_objective N ≡ at_objective M = ap₂ (λ x y. length (constants_of x) + length (constants_of y)) (sym a) (sym b) in
    let m' : at_rows M + length (constants_of N.rows) ≡ at_objective M = ap (λ y. at_rows M + length (constants_of y)) (sym b) in
    let v' : drop (at_objective M) cs ≡ constants M.objective ++ [] = drop_past (at_rows M) cs (constants_of M.rows) _ v ∙ sym (append-nil _) in
    let w' : drop (at_objective M) cs ≡ constants N.objective ++ [] = ap (λ x. drop (at_rows M + length (constants_of x)) cs) b ∙ drop_past (at_rows M) cs (constants_of N.rows) _ w ∙ sym (append-nil _) in
    let c = unique M.objective N.objective (at_objective M) cs [] [] _ _ s.objective_ruled.loads (rw m at t.objective_ruled.loads) v' w' (ap tail (rw m' at q)) in
    λ i. record { shared = a i; rows = b i; objective = c i }
