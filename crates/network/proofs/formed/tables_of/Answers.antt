use mathlib.Core.Path.{ap, ◌∙◌}
use Rattle.network.specs.Layout.{layout_of}
use Rattle.network.proofs.Forms.{form_laid}
use Rattle.network.proofs.formed.tables_of.Goals as goal

pub invariant_of-result : goal.invariant_of-result
invariant_of-result c =
    let form = c.in_ok-form in
    record { laid = form_laid form.ensures.fault (form.form.laid.is ∙ ap layout_of form.ensures.words) c.type_inv.numbers }
