-- One turn of each loop over buses, generators and branches, in the code's terms: a layout and the records read by it.
use mathlib.Core.Path.{◌≡◌, ap}
use mathlib.Core.List.{List}
use Prim.Native.Nat.{ℕ, ◌+◌, ◌*◌, ◌≤◌}
use lib.Ieee.{Float, nan}
use lib.ListN.{length, get_or}
use Rattle.network.specs.declared.layout.Layout.{Layout}
use Rattle.network.specs.declared.records.Generator.{Generator}
use Rattle.network.specs.declared.records.Branch.{Branch}
use Rattle.pi_model.specs.declared.complex.Complex.{Complex}
use Rattle.pi_model.specs.declared.flow.Flows.{Flows}
use Rattle.network.specs.internal.Records.{GeneratorRead, BranchRead}
use Rattle.pi_model.specs.Flow.{complex, listed, flow_of, flow}
use Rattle.derived.specs.Outputs.{pg, qg, p_from, q_from, p_to, q_to}
use Rattle.derived.specs.internal.Scratch.{VoltagesAre, FlowIs}
use Rattle.derived.proofs.Scratch.{more_at, less_at, Injected, injected_next, Withdrawn, withdrawn_next}

module _ {ws : List ℕ} {xs : List Float} {l : Layout} where
  pub injected_turn : (x : List Float) {g : ℕ} {r : Generator} {u v : Float} → GeneratorRead ws xs l g r → u ≡ pg ws x g → v ≡ qg ws x g
      → (p q : ℕ → Float) (list : List Float) → 2 * l.buses ≤ length list
      → Injected ws l.buses (pg ws x) (qg ws x) p q list g
      → Injected ws l.buses (pg ws x) (qg ws x) p q (more_at (more_at list r.bus u) (l.buses + r.bus) v) (g + 1)
  injected_turn x {g} {r} G e h p q list k P =
      injected_next ws l.buses (pg ws x) (qg ws x) p q list g r.bus _ _ (ap (λ z. z.bus) G.is) e h G.bus k P

  pub withdrawn_turn : {b : ℕ} {r : Branch} {f : Flows} → BranchRead ws xs l b r → (fs : List (List Float)) → FlowIs fs b f
      → (p q : ℕ → Float) (list : List Float) → 2 * l.buses ≤ length list
      → Withdrawn ws l.buses (p_from fs) (p_to fs) (q_from fs) (q_to fs) p q list b
      → Withdrawn ws l.buses (p_from fs) (p_to fs) (q_from fs) (q_to fs) p q
      (less_at (less_at (less_at (less_at list r.from f.p_from) r.to f.p_to) (l.buses + r.from) f.q_from) (l.buses + r.to) f.q_to) (b + 1)
  withdrawn_turn {b} {r} B fs F p q list k P =
      withdrawn_next ws l.buses (p_from fs) (p_to fs) (q_from fs) (q_to fs) p q list b r.from r.to _ _ _ _ (ap (λ z. z.from) B.is) (ap (λ z. z.to) B.is)
      F.p_from_is F.p_to_is F.q_from_is F.q_to_is B.from B.to k P

  -- the flows of a branch between the voltages that stand in a list
  pub flow_turn : (x : List Float) {b : ℕ} {r : Branch} (v : List Complex) {f : Flows} → BranchRead ws xs l b r → VoltagesAre ws x l v
      → f ≡ flow_of r (get_or v r.from (complex nan nan)) (get_or v r.to (complex nan nan)) → listed f ≡ flow ws xs x b
  unfolding flow
  flow_turn x {b} {r} v B A e = rw (e, A r.from B.from, A r.to B.to, B.is)
