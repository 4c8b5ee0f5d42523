-- A branch's flows: branch_flow's twelve coefficients, and numeric_branch_flow's four flows with num-complex's operators (000).
-- Document 01, "The accepted point", has the operators' order.
use Rattle.std.specs.Prelude.{ℕ, List, [], ◌∷◌, get_or, Float}
use Rattle.std.specs.Float.{nan}
use Rattle.std.specs.Float.Ieee.{neg}
use Rattle.float.specs.Number.{◌⊕◌, ◌⊖◌, ◌⊗◌, ◌⊘◌}
use Rattle.fdlibm.specs.Trig.{sine, cosine}
use Rattle.network.specs.declared.records.Branch.{Branch}
use Rattle.network.specs.Layout.{branch_record}
use Rattle.network.specs.Network.{from, to, va_column, vm_column}
use Rattle.pi_model.specs.declared.complex.Complex.{Complex}
use Rattle.pi_model.specs.declared.flow.Flows.{Flows}

-- branch_flow: the coefficients of vm squared, wr and wi in p_from, q_from, p_to, q_to of branch r
unfoldable pub coefficients_of : Branch → List Float
coefficients_of r =
    let g = r.g in
    let b = r.b in
    let tap² = r.tap ⊗ r.tap in
    let tr = r.tap ⊗ cosine r.shift in
    let ti = r.tap ⊗ sine r.shift in
    (g ⊕ r.g_fr) ⊘ tap² ∷ (neg g ⊗ tr ⊕ b ⊗ ti) ⊘ tap² ∷ (neg b ⊗ tr ⊖ g ⊗ ti) ⊘ tap²
    ∷ neg (b ⊕ r.b_fr) ⊘ tap² ∷ (b ⊗ tr ⊕ g ⊗ ti) ⊘ tap² ∷ (neg g ⊗ tr ⊕ b ⊗ ti) ⊘ tap²
    ∷ g ⊕ r.g_to ∷ (neg g ⊗ tr ⊖ b ⊗ ti) ⊘ tap² ∷ (b ⊗ tr ⊖ g ⊗ ti) ⊘ tap²
    ∷ neg (b ⊕ r.b_to) ∷ (b ⊗ tr ⊖ g ⊗ ti) ⊘ tap² ∷ (g ⊗ tr ⊕ b ⊗ ti) ⊘ tap² ∷ []

-- those of branch b
abbrev pub coefficients : List ℕ → List Float → ℕ → List Float
coefficients ws xs b = coefficients_of (branch_record ws xs b)

-- ---- complex numbers

abbrev pub complex : Float → Float → Complex
complex a b = record { re = a; im = b }

abbrev pub plus : Complex → Complex → Complex
plus z w = complex (z.re ⊕ w.re) (z.im ⊕ w.im)

abbrev pub minus : Complex → Complex → Complex
minus z w = complex (z.re ⊖ w.re) (z.im ⊖ w.im)

-- "the product is ac - bd, ad + bc"
abbrev pub times : Complex → Complex → Complex
times z w = complex (z.re ⊗ w.re ⊖ z.im ⊗ w.im) (z.re ⊗ w.im ⊕ z.im ⊗ w.re)

-- "norm_sqr is aa + bb"
abbrev pub norm_sqr : Complex → Float
norm_sqr z = z.re ⊗ z.re ⊕ z.im ⊗ z.im

-- "the quotient is ac + bd, bc - ad, each over cc + dd"
abbrev pub quotient : Complex → Complex → Complex
quotient z w = complex ((z.re ⊗ w.re ⊕ z.im ⊗ w.im) ⊘ norm_sqr w) ((z.im ⊗ w.re ⊖ z.re ⊗ w.im) ⊘ norm_sqr w)

-- "a real divisor divides each part"
abbrev pub over_real : Complex → Float → Complex
over_real z r = complex (z.re ⊘ r) (z.im ⊘ r)

abbrev pub conjugate : Complex → Complex
conjugate z = complex z.re (neg z.im)

-- "polar r, t is r × cos t, r × sin t"
abbrev pub polar : Float → Float → Complex
polar r t = complex (r ⊗ cosine t) (r ⊗ sine t)

-- ---- numeric_branch_flow

-- the power that leaves a bus with voltage `own` toward one with voltage `other`: own * (self * own - transfer * other).conj()
unfoldable pub flow_at : Complex → Complex → Complex → Complex → Complex
flow_at own other self transfer = times own (conjugate (minus (times self own) (times transfer other)))

-- the four admittances: the tap, a complex number, turns the shift the other way at the other end
abbrev pub self_from : Complex → Complex → Complex → Complex
self_from y yf t = over_real (plus y yf) (norm_sqr t)

abbrev pub transfer_from : Complex → Complex → Complex
transfer_from y t = quotient y (conjugate t)

abbrev pub self_to : Complex → Complex → Complex
self_to y yt = plus y yt

abbrev pub transfer_to : Complex → Complex → Complex
transfer_to y t = quotient y t

-- the flows of branch r between buses with voltages vf and vt
unfoldable pub flow_of : Branch → Complex → Complex → Flows
flow_of r vf vt =
    let y = complex r.g r.b in
    let t = polar r.tap r.shift in
    let sf = flow_at vf vt (self_from y (complex r.g_fr r.b_fr) t) (transfer_from y t) in
    let st = flow_at vt vf (self_to y (complex r.g_to r.b_to)) (transfer_to y t) in
    record { p_from = sf.re; q_from = sf.im; p_to = st.re; q_to = st.im }

-- the voltage at bus i of the point x
abbrev pub voltage : List ℕ → List Float → ℕ → Complex
voltage ws x i = polar (get_or x (vm_column ws i) nan) (get_or x (va_column ws i) nan)

-- the four as a list, in the order in which they are given out
abbrev pub listed : Flows → List Float
listed f = f.p_from ∷ f.q_from ∷ f.p_to ∷ f.q_to ∷ []

-- the flows of branch b
unfoldable pub flow : List ℕ → List Float → List Float → ℕ → List Float
flow ws xs x b = listed (flow_of (branch_record ws xs b) (voltage ws x (from ws b)) (voltage ws x (to ws b)))
