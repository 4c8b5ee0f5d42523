use mathlib.Core.Path.{sym, subst, ◌∙◌}
use lib.Dec.{T}
use Rattle.float.proofs.Signs.{above_signed}
use Rattle.hypot_error.proofs.Skip.{quick_violation}
use Rattle.thermal.proofs.violation.Goals as goal

pub returns-then-far_below-2 : goal.returns-then-far_below-2
returns-then-far_below-2 c =
    let a = c.args in
    let g = c.well_formed in
    sym (quick_violation a.p_from a.q_from a.p_to a.q_to a.s_max (subst T (sym g.0.1) tt) (subst T (sym g.1.0.1) tt) (subst T (sym g.1.1.0.1) tt)
    (subst T (sym g.1.1.1.0.1) tt) (subst T (sym g.1.1.1.1.0.1) tt) (above_signed a.s_max c.if-s_max.true)
    (sym c.far_below.ensures ∙ c.if-far_below.true) (sym c.far_below-then-far_below.ensures ∙ c.if-far_below-2.true))
