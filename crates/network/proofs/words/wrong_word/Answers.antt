use mathlib.Core.Path.{sym, ◌∙◌}
use native.Mathlib.Omega.{arith}
use Rattle.base.proofs.Firsts.{unless_proper}
use Rattle.base.proofs.Refusals.{link_exit, link_ok, first_pass, first_exit}
use Rattle.base.proofs.Turns.{first_none, first_done}
use Rattle.network.proofs.Steps.{held_none, held_next, words_chain}
use Rattle.network.proofs.words.wrong_word.Goals as goal

pub returns-in_err-unless : goal.returns-in_err-unless
returns-in_err-unless c = link_exit _ _ _ _ _ c.from_residual.ensures.1 (words_chain _) (rw c.is_empty.ensures at c.in_err-unless.ensures)

pub loop-i-init : goal.loop-i-init
loop-i-init c = (held_none _ 2, first_none _)

pub word_right-requires : goal.word_right-requires
word_right-requires c = (c.loop-i-test.true, c.loop-i.invariant.0.is)

pub returns-in_err-unless-2 : goal.returns-in_err-unless-2
returns-in_err-unless-2 c =
    first_exit _ _ _ _ _ c.from_residual-in_err-unless-2.ensures.1 c.loop-i-test.true c.loop-i.invariant.1 (rw c.word_right.ensures at c.in_err-unless-2.ensures)
    ∙ sym (link_ok _ _ _ (words_chain _) (rw c.is_empty.ensures at c.in_ok-unless.ensures))

pub loop-i-preserved : goal.loop-i-preserved
loop-i-preserved c =
    let turn = c.loop-i in
    (held_next turn.invariant.0 c.kind_of.ensures c.number.ensures c.from-before.ensures, first_pass _ _ turn.invariant.1 (rw c.word_right.ensures at c.in_ok-unless-2.ensures))

pub returns : goal.returns
returns c =
    first_done _ _ _ (omega arith) (λ j. unless_proper _ 1 _ (omega arith)) c.loop-i.invariant.1
    ∙ sym (link_ok _ _ _ (words_chain _) (rw c.is_empty.ensures at c.in_ok-unless.ensures))
