use mathlib.Core.Path.{refl, sym, ◌∙◌}
use Rattle.base.proofs.Refusals.{exit_shown, link_exit, link_ok}
use Rattle.network.specs.Fault.{words_fault}
use Rattle.network.proofs.Forms.{clear_number, laid_words, sized_words}
use Rattle.network.proofs.formed.words_form.Goals as goal

pub returns-in_err-wrong_word-clause-fault : goal.returns-in_err-wrong_word-clause-fault
unfolding words_fault
returns-in_err-wrong_word-clause-fault c = link_exit _ _ _ _ _ c.from_residual.ensures.1 refl c.in_err-wrong_word.ensures

pub returns-in_err-size_fault-clause-fault : goal.returns-in_err-size_fault-clause-fault
unfolding words_fault
returns-in_err-size_fault-clause-fault c =
    exit_shown _ _ c.from_residual-in_err-size_fault.ensures.1 ∙ c.in_err-size_fault.ensures ∙ sym (link_ok _ _ _ refl c.in_ok-wrong_word.ensures)

pub returns-clause-fault : goal.returns-clause-fault
unfolding words_fault
returns-clause-fault c = c.in_ok-size_fault.ensures ∙ sym (link_ok _ _ _ refl c.in_ok-wrong_word.ensures)

pub invariant_of-sized : goal.invariant_of-sized
invariant_of-sized c =
    let (right, sized, long) = sized_words (clear_number c.in_ok-wrong_word.ensures) c.sizes_of.ensures in
    record { right = right; sized = sized; long = long }

pub layout-requires : goal.layout-requires
layout-requires c = clear_number c.in_ok-size_fault.ensures

pub invariant_of-result : goal.invariant_of-result
invariant_of-result c = record { laid = laid_words _ (clear_number c.in_ok-wrong_word.ensures) (clear_number c.in_ok-size_fault.ensures) c.layout.ensures }
