use mathlib.Core.Path.{ap, sym, subst, ◌∙◌}
use lib.Dec.{T}
use Rattle.base.specs.Fault.{packed}
use Rattle.validate.proofs.boundary.fervoulk_check.Goals as goal

pub returns : goal.returns
returns c =
    let is = c.check-answer.ensures in
    let finite = subst T (sym c.well_formed.1.1.1.0.1) tt in
    let numbers = c.shared_slice_known-2-1.given in
    let point = c.shared_slice_known-3-1.given in
    let tolerances = c.shared_slice_known-4-1.given in
    (c.packed.ensures ∙ ap (λ a. packed a.fault) is.0, is.1, numbers, point, finite, tolerances)
