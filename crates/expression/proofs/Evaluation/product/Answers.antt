-- `expression::Evaluation::product` meets its contract.
use mathlib.Core.Path.{◌≡◌, sym, ◌∙◌}
use mathlib.Core.Bool.{true}
use Rattle.nl.specs.Reader.{is_mark}
use Rattle.nl.proofs.PartSteps.{marked}
use Rattle.expression.proofs.Scans.{a_product}
use Rattle.expression.proofs.Evaluation.product.Goals as goal
use Rattle.expression.proofs.Evaluation.product.Goals.{After-is_word, Else-not-is_word}

-- the product's word stands there
stands : (c : Else-not-is_word) → is_mark c.args.self.now.words.now 5 0 c.args.from.at ≡ true
stands c = rw (c.file-file.ensures.0, c.number.ensures) at (sym c.is_word.ensures ∙ c.if-not-is_word.false)

pub returns : goal.returns
returns c =
    let mark = stands (goal.at.returns c).Else-not-is_word in
    let past = c.past.ensures (rw c.file-file.ensures.0 (marked _ _ _ _ mark).0) in
    λ d. a_product _ _ _ _ d _ _ _ _ mark (rw past at (c.in_ok-a.ensures d)) (c.in_ok-b.ensures d)
