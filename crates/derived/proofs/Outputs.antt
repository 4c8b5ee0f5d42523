-- The outputs are as many as document 01 says, and each stands at its place.
use mathlib.Core.Path.{◌≡◌, ap, ◌∙◌}
use mathlib.Core.List.{List, ◌++◌}
use Prim.Native.Nat.{ℕ, ◌+◌, ◌*◌, ◌<◌, ◌≤◌}
use native.Mathlib.Nat.{zero-add}
use native.Mathlib.Omega.{arith}
use lib.ListN.{length, get_or, take, length-append, get_or-append}
use lib.Seq.{get_or-take, length-take-le}
use lib.Ieee.{Float, nan}
use Rattle.base.specs.Loop.{table}
use Rattle.base.proofs.Loops.{length_table, Block, block_table, block_left, block_right}
use Rattle.network.specs.Network.{buses, branches, number}
use Rattle.network.specs.declared.layout.Layout.{Layout}
use Rattle.network.specs.Layout.{Laid}
use Rattle.derived.specs.Outputs.{p_injection, q_injection, flows, p_from, q_from, p_to, q_to, outputs}
use Rattle.derived.specs.internal.Agree.{PerBus}
use Rattle.derived.specs.internal.Scratch.{FlowIs, FlowsAre}

-- "all p injections, all q injections, then all p_from, all q_from, all p_to, all q_to"
pub record Placed (ws : List ℕ) (xs x : List Float) (fs : List (List Float)) : Type 0 where
  pub p_injections : Block (outputs ws xs x fs) 0 (buses ws) (p_injection ws xs x)
  pub q_injections : Block (outputs ws xs x fs) (buses ws) (buses ws) (q_injection ws xs x)
  pub p_from_is : Block (outputs ws xs x fs) (2 * buses ws) (branches ws) (p_from fs)
  pub q_from_is : Block (outputs ws xs x fs) (2 * buses ws + branches ws) (branches ws) (q_from fs)
  pub p_to_is : Block (outputs ws xs x fs) (2 * buses ws + 2 * branches ws) (branches ws) (p_to fs)
  pub q_to_is : Block (outputs ws xs x fs) (2 * buses ws + 3 * branches ws) (branches ws) (q_to fs)

module _ (ws : List ℕ) (xs x : List Float) (fs : List (List Float)) where
  pub length_outputs : length (outputs ws xs x fs) ≡ 2 * buses ws + 4 * branches ws
  unfolding outputs
  length_outputs = simp (length-append, length_table) (omega arith)

  pub outputs_at : Placed ws xs x fs
  unfolding outputs
  outputs_at =
      let p = table (buses ws) (p_injection ws xs x) in
      let q = table (buses ws) (q_injection ws xs x) in
      let a = table (branches ws) (p_from fs) in
      let b = table (branches ws) (q_from fs) in
      let c = table (branches ws) (p_to fs) in
      let d = table (branches ws) (q_to fs) in
      record {
        p_injections = block_left d (block_left c (block_left b (block_left a (block_left q (block_table (buses ws) (p_injection ws xs x))))));
        q_injections = block_left d (block_left c (block_left b (block_left a (block_right p _ (simp length_table (omega arith)) (block_table (buses ws) (q_injection ws xs x))))));
        p_from_is = block_left d (block_left c (block_left b (block_right (p ++ q) _ (simp (length-append, length_table) (omega arith)) (block_table (branches ws) (p_from fs)))));
        q_from_is = block_left d (block_left c (block_right (p ++ q ++ a) _ (simp (length-append, length_table) (omega arith)) (block_table (branches ws) (q_from fs))));
        p_to_is = block_left d (block_right (p ++ q ++ a ++ b) _ (simp (length-append, length_table) (omega arith)) (block_table (branches ws) (p_to fs)));
        q_to_is = block_right (p ++ q ++ a ++ b ++ c) _ (simp (length-append, length_table) (omega arith)) (block_table (branches ws) (q_to fs));
      }

-- ---- what is read of a list of outputs

-- what is copied can be read there
copied : (list rest : List Float) (count : ℕ) → count ≤ length list → (j : ℕ) → j < count → get_or (take count list ++ rest) j nan ≡ get_or list j nan
copied list rest count h j q =
    get_or-append (take count list) rest nan j (rw (length-take-le count list h) q) ∙ get_or-take count list j nan q

module _ (ws : List ℕ) (xs x : List Float) {l : Layout} (list : List Float) (L : Laid ws xs l) (F : list ≡ outputs ws xs x (flows ws xs x)) where
  -- a branch's flows
  pub flow_at : (b : ℕ) → b < l.branches → FlowIs (flows ws xs x) b (record {
    p_from = number list (2 * l.buses + b);
    q_from = number list (2 * l.buses + l.branches + b);
    p_to = number list (2 * l.buses + 2 * l.branches + b);
    q_to = number list (2 * l.buses + 3 * l.branches + b);
  })
  flow_at b h =
      let P = outputs_at ws xs x (flows ws xs x) in
      let q : b < branches ws = omega (arith, ap (λ z. z.branches) L.words.is, h) in
      record {
        p_from_is = rw (F, L.words.is) (P.p_from_is.its b nan q);
        q_from_is = rw (F, L.words.is) (P.q_from_is.its b nan q);
        p_to_is = rw (F, L.words.is) (P.p_to_is.its b nan q);
        q_to_is = rw (F, L.words.is) (P.q_to_is.its b nan q);
      }

  -- the flows of all
  pub flows_are : FlowsAre (flows ws xs x) l.buses l.branches l.branches list
  flows_are =
      record {
        p_from_is = λ b h. (flow_at b h).p_from_is;
        q_from_is = λ b h. (flow_at b h).q_from_is;
        p_to_is = λ b h. (flow_at b h).p_to_is;
        q_to_is = λ b h. (flow_at b h).q_to_is;
      }

  -- the injections, in a copy of the front
  pub injections_copied : (rest : List Float) → PerBus l.buses l.buses (p_injection ws xs x) (q_injection ws xs x) (take (2 * l.buses) list ++ rest)
  injections_copied rest =
      let P = outputs_at ws xs x (flows ws xs x) in
      let n = ap (λ z. z.buses) L.words.is in
      let h : 2 * l.buses ≤ length list = rw F (omega (arith, n, length_outputs ws xs x (flows ws xs x))) in
      record {
        one = λ i q. copied list rest (2 * l.buses) h i (omega arith) ∙ rw F (rw zero-add at (P.p_injections.its i nan (omega (arith, n, q))));
        two = λ i q. copied list rest (2 * l.buses) h (l.buses + i) (omega arith) ∙ rw (F, n) (P.q_injections.its i nan (omega (arith, n, q)));
      }
