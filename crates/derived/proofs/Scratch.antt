-- Laws of the scratch lists: writing and adding at one place, a turn of each loop over buses, generators and branches, and the list's front
-- as the outputs.
use mathlib.Core.Path.{◌≡◌, refl, sym, ap, ◌∙◌}
use mathlib.Core.Bool.{Bool, true, false, cond}
use mathlib.Core.List.{List, [], ◌∷◌, ◌++◌, append-nil, append_assoc}
use Prim.Native.Nat.{ℕ, zero, suc, ◌+◌, ◌*◌, ◌<◌, ◌≤◌}
use native.Mathlib.Nat.{zero-add, add-zero}
use native.Mathlib.Numerals.{add-one}
use native.Mathlib.Omega.{arith}
use lib.Dec.{eqb}
use lib.Ieee.{Float, nan}
use lib.ListN.{length, get_or, set, take, length-set}
use lib.Seq.{lt-length-set, get_or-set_same, get_or-set_other, take-suc}
use borrow.Author.Tests.{eqb-true, eqb-false}
use borrow.Author.Count.{below_more}
use Rattle.base.specs.Loop.{loop, table}
use Rattle.base.proofs.Loops.{get_d_table}
use Rattle.float.specs.Number.{◌⊕◌, ◌⊖◌}
use Rattle.network.specs.Network.{buses, generators, branches, bus_of, from, to}
use Rattle.pi_model.specs.declared.flow.Flows.{Flows}
use Rattle.pi_model.specs.Flow.{listed, flow}
use Rattle.derived.specs.internal.Agree.{At, PerBus, Untouched}
use Rattle.derived.specs.Outputs.{flows, injected, withdrawn, p_injection, q_injection, p_from, q_from, p_to, q_to, outputs}
use Rattle.derived.specs.internal.Scratch.{FlowIs, FlowsAre}

-- ---- a list with f i at `place i`

module _ (place : ℕ → ℕ) (f : ℕ → Float) (l : List Float) where
  -- one place more
  pub at_next : (i : ℕ) (v : Float) → place i < length l → ((j : ℕ) → j < i → place j ≡ place i → ⊥) → v ≡ f i → At i place f l
      → At (i + 1) place f (set l (place i) v)
  at_next i v h apart e a =
      below_more (λ j. get_or (set l (place i) v) (place j) nan ≡ f j) i
      (λ j q. get_or-set_other l (place i) (place j) v nan (apart j q) ∙ a j q)
      (get_or-set_same l (place i) v nan h ∙ e)

  -- a place that is none of them
  pub at_other : (n j : ℕ) (v : Float) → ((i : ℕ) → i < n → place i ≡ j → ⊥) → At n place f l → At n place f (set l j v)
  at_other n j v apart a i q = get_or-set_other l j (place i) v nan (apart i q) ∙ a i q

  -- one of them, to which v is put by op
  bump : (op : Float → Float → Float) (n at : ℕ) (v : Float) → place at < length l → ((i : ℕ) → i < n → place i ≡ place at → i ≡ at) → At n place f l
      → At n place (λ i. cond (eqb at i) (op (f i) v) (f i)) (set l (place at) (op (get_or l (place at) nan) v))
  bump op n at v h same a i q = go (eqb at i) refl
    where
      go : (t : Bool) → eqb at i ≡ t → get_or (set l (place at) (op (get_or l (place at) nan) v)) (place i) nan ≡ cond t (op (f i) v) (f i)
      go true e =
          let s : i ≡ at = sym (eqb-true at i e) in
          let r : at < n = rw s at q in
          rw s (get_or-set_same l (place at) (op (get_or l (place at) nan) v) nan h ∙ ap (λ z. op z v) (a at r))
      go false e = get_or-set_other l (place at) (place i) _ nan (λ z. eqb-false at i e (sym (same i q z))) ∙ a i q

kept_set : (from : ℕ) (before l : List Float) (j : ℕ) (v : Float) → j < from → Untouched from before l → Untouched from before (set l j v)
kept_set from before l j v h k i q = get_or-set_other l j i v nan (λ z. omega arith) ∙ k i q

-- bus i's two numbers
pub kept_two : (n : ℕ) (before l : List Float) (i : ℕ) (u v : Float) → i < n → Untouched (2 * n) before l → Untouched (2 * n) before (set (set l i u) (n + i) v)
kept_two n before l i u v h k =
    kept_set (2 * n) before (set l i u) (n + i) v (omega arith) (kept_set (2 * n) before l i u (omega arith) k)

-- ---- two numbers for each bus

module _ (n : ℕ) (f g : ℕ → Float) (l : List Float) where
  pub per_bus_next : (i : ℕ) (u v : Float) → i < n → 2 * n ≤ length l → u ≡ f i → v ≡ g i → PerBus n i f g l
      → PerBus n (i + 1) f g (set (set l i u) (n + i) v)
  per_bus_next i u v h k eu ev P =
      record {
        one =
            at_other (λ j. j) f (set l i u) (i + 1) (n + i) v (λ j q z. omega arith)
            (at_next (λ j. j) f l i u (omega arith) (λ j q z. omega arith) eu P.one);
        two =
            at_next (λ j. n + j) g (set l i u) i v (lt-length-set l i u (omega arith)) (λ j q z. omega arith) ev
            (at_other (λ j. n + j) g l i i u (λ j q z. omega arith) P.two);
      }

  pub bump_one : (op : Float → Float → Float) (at : ℕ) (v : Float) → at < n → 2 * n ≤ length l → PerBus n n f g l
      → PerBus n n (λ i. cond (eqb at i) (op (f i) v) (f i)) g (set l at (op (get_or l at nan) v))
  bump_one op at v h k P =
      record {
        one = bump (λ i. i) f l op n at v (omega arith) (λ i q z. z) P.one;
        two = at_other (λ i. n + i) g l n at _ (λ i q z. omega arith) P.two;
      }

  pub bump_two : (op : Float → Float → Float) (at : ℕ) (v : Float) → at < n → 2 * n ≤ length l → PerBus n n f g l
      → PerBus n n f (λ i. cond (eqb at i) (op (g i) v) (g i)) (set l (n + at) (op (get_or l (n + at) nan) v))
  bump_two op at v h k P =
      record {
        one = at_other (λ i. i) f l n (n + at) _ (λ i q z. omega arith) P.one;
        two = bump (λ i. n + i) g l op n at v (omega arith) (λ i q z. omega arith) P.two;
      }

-- ---- generators and branches one after the other

-- `injected` and `withdrawn` by the first `count`
module _ (ws : List ℕ) (count i : ℕ) where
  unfoldable pub injected_by : (ℕ → Float) → Float → Float
  injected_by output start = loop (λ s g. cond (eqb (bus_of ws g) i) (s ⊕ output g) s) start count

  unfoldable pub withdrawn_by : (ℕ → Float) → (ℕ → Float) → Float → Float
  withdrawn_by at_from at_to start =
      loop (λ s b.
      let r = cond (eqb (from ws b) i) (s ⊖ at_from b) s in
      cond (eqb (to ws b) i) (r ⊖ at_to b) r) start count

-- l[at] = l[at] + v, and - v
abbrev pub more_at : List Float → ℕ → Float → List Float
more_at l at v = set l at (get_or l at nan ⊕ v)

abbrev pub less_at : List Float → ℕ → Float → List Float
less_at l at v = set l at (get_or l at nan ⊖ v)

module _ (ws : List ℕ) (n : ℕ) where
  module _ (a b p q : ℕ → Float) (l : List Float) where
    -- after g generators
    abbrev pub Injected : ℕ → Type 0
    Injected g = PerBus n n (λ i. injected_by ws g i a (p i)) (λ i. injected_by ws g i b (q i)) l

    pub injected_none : PerBus n n p q l → Injected 0
    unfolding loop injected_by
    injected_none P = P

    pub injected_all : (g : ℕ) → g ≡ generators ws → Injected g → PerBus n n (λ i. injected ws i a (p i)) (λ i. injected ws i b (q i)) l
    unfolding injected injected_by
    injected_all g e P = rw e at P

  pub injected_next : (a b p q : ℕ → Float) (l : List Float) (g bus : ℕ) (u v : Float) → bus ≡ bus_of ws g → u ≡ a g → v ≡ b g → bus < n → 2 * n ≤ length l
      → Injected a b p q l g → Injected a b p q (more_at (more_at l bus u) (n + bus) v) (g + 1)
  unfolding loop injected_by
  injected_next a b p q l g bus u v e eu ev h k P =
      let one = bump_one n (λ i. injected_by ws g i a (p i)) (λ i. injected_by ws g i b (q i)) l ◌⊕◌ bus u h k P in
      let k' : 2 * n ≤ length (more_at l bus u) = rw (length-set l bus (get_or l bus nan ⊕ u)) k in
      rw (add-one g, ← e, ← eu, ← ev) (bump_two n _ _ (more_at l bus u) ◌⊕◌ bus v h k' one)

  module _ (pf pt qf qt p q : ℕ → Float) (l : List Float) where
    -- after b branches
    abbrev pub Withdrawn : ℕ → Type 0
    Withdrawn b = PerBus n n (λ i. withdrawn_by ws b i pf pt (p i)) (λ i. withdrawn_by ws b i qf qt (q i)) l

    pub withdrawn_none : PerBus n n p q l → Withdrawn 0
    unfolding loop withdrawn_by
    withdrawn_none P = P

    pub withdrawn_all : (b : ℕ) → b ≡ branches ws → Withdrawn b → PerBus n n (λ i. withdrawn ws i pf pt (p i)) (λ i. withdrawn ws i qf qt (q i)) l
    unfolding withdrawn withdrawn_by
    withdrawn_all b e P = rw e at P

  pub withdrawn_next : (pf pt qf qt p q : ℕ → Float) (l : List Float) (b f t : ℕ) (s u v w : Float) → f ≡ from ws b → t ≡ to ws b
      → s ≡ pf b → u ≡ pt b → v ≡ qf b → w ≡ qt b → f < n → t < n → 2 * n ≤ length l
      → Withdrawn pf pt qf qt p q l b → Withdrawn pf pt qf qt p q (less_at (less_at (less_at (less_at l f s) t u) (n + f) v) (n + t) w) (b + 1)
  unfolding loop withdrawn_by
  withdrawn_next pf pt qf qt p q l b f t s u v w ef et es eu ev ew hf ht k P =
      let l1 = less_at l f s in
      let l2 = less_at l1 t u in
      let l3 = less_at l2 (n + f) v in
      let k1 : 2 * n ≤ length l1 = rw (length-set l f (get_or l f nan ⊖ s)) k in
      let k2 : 2 * n ≤ length l2 = rw (length-set l1 t (get_or l1 t nan ⊖ u)) k1 in
      let k3 : 2 * n ≤ length l3 = rw (length-set l2 (n + f) (get_or l2 (n + f) nan ⊖ v)) k2 in
      let one = bump_one n (λ i. withdrawn_by ws b i pf pt (p i)) (λ i. withdrawn_by ws b i qf qt (q i)) l ◌⊖◌ f s hf k P in
      let two = bump_one n _ _ l1 ◌⊖◌ t u ht k1 one in
      let three = bump_two n _ _ l2 ◌⊖◌ f v hf k2 two in
      rw (add-one b, ← ef, ← et, ← es, ← eu, ← ev, ← ew) (bump_two n _ _ l3 ◌⊖◌ t w ht k3 three)

-- ---- flows

pub flow_is : (ws : List ℕ) (xs x : List Float) (b : ℕ) (f : Flows) → b < branches ws → listed f ≡ flow ws xs x b → FlowIs (flows ws xs x) b f
unfolding flows
flow_is ws xs x b f h e =
    let g : listed f ≡ get_or (flows ws xs x) b [] = e ∙ sym (get_d_table (branches ws) (flow ws xs x) [] b h) in
    record {
      p_from_is = ap (λ z. get_or z 0 nan) g;
      q_from_is = ap (λ z. get_or z 1 nan) g;
      p_to_is = ap (λ z. get_or z 2 nan) g;
      q_to_is = ap (λ z. get_or z 3 nan) g;
    }

pub flows_next : (fs : List (List Float)) (n m b : ℕ) (l : List Float) (f : Flows) → b < m → 2 * n + 4 * m ≤ length l → FlowIs fs b f → FlowsAre fs n m b l
    → FlowsAre fs n m (b + 1) (set (set (set (set l (2 * n + b) f.p_from) (2 * n + m + b) f.q_from) (2 * n + 2 * m + b) f.p_to) (2 * n + 3 * m + b) f.q_to)
flows_next fs n m b l f h k e F =
    let l1 = set l (2 * n + b) f.p_from in
    let l2 = set l1 (2 * n + m + b) f.q_from in
    let l3 = set l2 (2 * n + 2 * m + b) f.p_to in
    let k1 : 2 * n + 4 * m ≤ length l1 = rw (length-set l (2 * n + b) f.p_from) k in
    let k2 : 2 * n + 4 * m ≤ length l2 = rw (length-set l1 (2 * n + m + b) f.q_from) k1 in
    let k3 : 2 * n + 4 * m ≤ length l3 = rw (length-set l2 (2 * n + 2 * m + b) f.p_to) k2 in
    record {
      p_from_is =
          at_other (λ j. 2 * n + j) (p_from fs) l3 (b + 1) (2 * n + 3 * m + b) _ (λ j q z. omega arith)
          (at_other (λ j. 2 * n + j) (p_from fs) l2 (b + 1) (2 * n + 2 * m + b) _ (λ j q z. omega arith)
          (at_other (λ j. 2 * n + j) (p_from fs) l1 (b + 1) (2 * n + m + b) _ (λ j q z. omega arith)
          (at_next (λ j. 2 * n + j) (p_from fs) l b _ (omega arith) (λ j q z. omega arith) e.p_from_is F.p_from_is)));
      q_from_is =
          at_other (λ j. 2 * n + m + j) (q_from fs) l3 (b + 1) (2 * n + 3 * m + b) _ (λ j q z. omega arith)
          (at_other (λ j. 2 * n + m + j) (q_from fs) l2 (b + 1) (2 * n + 2 * m + b) _ (λ j q z. omega arith)
          (at_next (λ j. 2 * n + m + j) (q_from fs) l1 b _ (omega (arith, k1)) (λ j q z. omega arith) e.q_from_is
          (at_other (λ j. 2 * n + m + j) (q_from fs) l b (2 * n + b) _ (λ j q z. omega arith) F.q_from_is)));
      p_to_is =
          at_other (λ j. 2 * n + 2 * m + j) (p_to fs) l3 (b + 1) (2 * n + 3 * m + b) _ (λ j q z. omega arith)
          (at_next (λ j. 2 * n + 2 * m + j) (p_to fs) l2 b _ (omega (arith, k2)) (λ j q z. omega arith) e.p_to_is
          (at_other (λ j. 2 * n + 2 * m + j) (p_to fs) l1 b (2 * n + m + b) _ (λ j q z. omega arith)
          (at_other (λ j. 2 * n + 2 * m + j) (p_to fs) l b (2 * n + b) _ (λ j q z. omega arith) F.p_to_is)));
      q_to_is =
          at_next (λ j. 2 * n + 3 * m + j) (q_to fs) l3 b _ (omega (arith, k3)) (λ j q z. omega arith) e.q_to_is
          (at_other (λ j. 2 * n + 3 * m + j) (q_to fs) l2 b (2 * n + 2 * m + b) _ (λ j q z. omega arith)
          (at_other (λ j. 2 * n + 3 * m + j) (q_to fs) l1 b (2 * n + m + b) _ (λ j q z. omega arith)
          (at_other (λ j. 2 * n + 3 * m + j) (q_to fs) l b (2 * n + b) _ (λ j q z. omega arith) F.q_to_is)));
    }

-- flows are behind the first 2n numbers
pub flows_kept : {fs : List (List Float)} {n m : ℕ} {before after : List Float} → Untouched (2 * n) before after → FlowsAre fs n m m before → FlowsAre fs n m m after
flows_kept {fs} {n} {m} K F =
    record {
      p_from_is = λ b q. K (2 * n + b) (omega arith) ∙ F.p_from_is b q;
      q_from_is = λ b q. K (2 * n + m + b) (omega arith) ∙ F.q_from_is b q;
      p_to_is = λ b q. K (2 * n + 2 * m + b) (omega arith) ∙ F.p_to_is b q;
      q_to_is = λ b q. K (2 * n + 3 * m + b) (omega arith) ∙ F.q_to_is b q;
    }

-- ---- the whole list

-- the front ends with f 0, f 1 .. f (n - 1)
part_table : (f : ℕ → Float) (l : List Float) (start n : ℕ) → start + n ≤ length l → At n (λ i. start + i) f l → take (start + n) l ≡ take start l ++ table n f
unfolding loop table
part_table f l start zero h a = rw add-zero (sym (append-nil (take start l)))
part_table f l start (suc n) h a =
    let e : start + suc n ≡ suc (start + n) = omega arith in
    rw (e, take-suc l (start + n) nan (omega arith), a n (omega arith), part_table f l start n (omega arith) (λ i q. a i (omega arith)))
    (append_assoc (take start l) (table n f) (f n ∷ []))

-- the list's front is the outputs
pub outputs_are : (ws : List ℕ) (xs x : List Float) (n m : ℕ) (l : List Float) → n ≡ buses ws → m ≡ branches ws → 2 * n + 4 * m ≤ length l
    → PerBus n n (p_injection ws xs x) (q_injection ws xs x) l → FlowsAre (flows ws xs x) n m m l → take (2 * n + 4 * m) l ≡ outputs ws xs x (flows ws xs x)
unfolding outputs
outputs_are ws xs x n m l en em h P F =
    let fs = flows ws xs x in
    let t1 : take (0 + n) l ≡ take 0 l ++ table n (p_injection ws xs x) = part_table (p_injection ws xs x) l 0 n (omega arith) (λ i q. rw zero-add (P.one i q)) in
    let t2 = part_table (q_injection ws xs x) l n n (omega arith) P.two in
    let t3 = part_table (p_from fs) l (2 * n) m (omega arith) F.p_from_is in
    let t4 = part_table (q_from fs) l (2 * n + m) m (omega arith) F.q_from_is in
    let t5 = part_table (p_to fs) l (2 * n + 2 * m) m (omega arith) F.p_to_is in
    let t6 = part_table (q_to fs) l (2 * n + 3 * m) m (omega arith) F.q_to_is in
    let e1 : 0 + n ≡ n = omega arith in
    let e2 : n + n ≡ 2 * n = omega arith in
    let e4 : 2 * n + m + m ≡ 2 * n + 2 * m = omega arith in
    let e5 : 2 * n + 2 * m + m ≡ 2 * n + 3 * m = omega arith in
    let e6 : 2 * n + 3 * m + m ≡ 2 * n + 4 * m = omega arith in
    let u1 : take n l ≡ table n (p_injection ws xs x) = rw e1 at t1 in
    let u2 : take (2 * n) l ≡ take n l ++ table n (q_injection ws xs x) = rw e2 at t2 in
    let u4 : take (2 * n + 2 * m) l ≡ take (2 * n + m) l ++ table m (q_from fs) = rw e4 at t4 in
    let u5 : take (2 * n + 3 * m) l ≡ take (2 * n + 2 * m) l ++ table m (p_to fs) = rw e5 at t5 in
    let u6 : take (2 * n + 4 * m) l ≡ take (2 * n + 3 * m) l ++ table m (q_to fs) = rw e6 at t6 in
    rw (← en, ← em) (u6 ∙ rw (u5, u4, t3, u2, u1))
