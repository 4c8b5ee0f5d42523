-- `expression::Evaluation::leaf` meets its contract.
use mathlib.Core.Path.{◌≡◌, ap, ◌∙◌}
use lib.ListN.{get_or}
use Rattle.base.specs.Word.{kind_of, load_of}
use Rattle.expression.proofs.Scans.{constant_scans, no_leaf, column_scans, shared_scans}
use Rattle.expression.proofs.Evaluation.leaf.Goals as goal
use Rattle.expression.proofs.Evaluation.leaf.Goals.{After-kind_of-kind}

-- the word there has this kind and load
kind_is : (c : After-kind_of-kind) → c.kind_of-kind.result ≡ kind_of (get_or c.args.self.now.words.now c.args.from.at 0)
kind_is c = c.kind_of-kind.ensures ∙ ap kind_of (c.in_ok-word.ensures.lookup.3.1 0)

load_is : (c : After-kind_of-kind) → c.load_of-load.result ≡ load_of (get_or c.args.self.now.words.now c.args.from.at 0)
load_is c = c.load_of-load.ensures ∙ ap load_of (c.in_ok-word.ensures.lookup.3.1 0)

pub returns-then-kind-number : goal.returns-then-kind-number
returns-then-kind-number c =
    let d = (goal.at.returns-then-kind-number c).After-kind_of-kind in
    column_scans _ _ _ _ _ _ _ _ c.in_ok-word.ensures.lookup.3.0 (kind_is d) (load_is d) _ (c.if-kind-number.true ∙ c.number.ensures) c.listed.ensures

pub returns-then-kind-number-2 : goal.returns-then-kind-number-2
returns-then-kind-number-2 c =
    let d = (goal.at.returns-then-kind-number-2 c).After-kind_of-kind in
    shared_scans _ _ _ _ _ _ _ _ c.in_ok-word.ensures.lookup.3.0 (kind_is d) (load_is d) _ (c.if-kind-number-2.true ∙ c.number-2.ensures) c.listed-then-kind-number-2.ensures

pub returns-then-load-from : goal.returns-then-load-from
returns-then-load-from c =
    let d = (goal.at.returns-then-load-from c).After-kind_of-kind in
    constant_scans _ _ _ _ _ _ _ _ c.in_ok-word.ensures.lookup.3.0 (kind_is d) (load_is d) _ (c.if-kind-number-3.true ∙ c.number-3.ensures) c.if-load-from.true c.listed-then-load-from.ensures

pub returns : goal.returns
returns c =
    let d = (goal.at.returns c).After-kind_of-kind in
    no_leaf _ _ _ _ _ _ _ _ c.in_ok-word.ensures.lookup.3.0 (kind_is d) (load_is d) (rw c.number.ensures at c.if-kind-number.false) (rw c.number-2.ensures at c.if-kind-number-2.false)
    (rw c.number-3.ensures at c.else-kind-number-3.either)
