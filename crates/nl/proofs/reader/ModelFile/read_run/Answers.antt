-- `nl::reader::ModelFile::read_run` meets its contract.
use mathlib.Core.Path.{◌≡◌, ap, sym, ◌∙◌}
use mathlib.Core.Bool.{cond}
use Prim.Native.Nat.{◌+◌, ◌<◌}
use native.Mathlib.Omega.{arith}
use lib.Dec.{eqb}
use lib.ListN.{length}
use borrow.Author.Tests.{eq-eqb, ne_eqb}
use Rattle.std.proofs.lemmas.Grind.{common_steps}
use Rattle.nl.specs.declared.reader.Cursor.{Cursor}
use Rattle.nl.specs.File.{depth_limit}
use Rattle.nl.specs.Reader.{span, read_expr}
use Rattle.nl.proofs.Sound.{went_on}
use Rattle.nl.proofs.PartSteps.{mark_inside, no_more, part_more, part_bad}
use Rattle.nl.proofs.reader.ModelFile.read_run.Goals as goal
use Rattle.nl.proofs.reader.ModelFile.read_run.Goals.{After-past-start, After-read_expr, In_ok-end, then-count-r, else-count-r}

-- past the part's beginning word
past_mark : (c : After-past-start) → c.past-start.result ≡ record { at = c.loop-named.end.at + 1; next = c.loop-named.end.next }
past_mark c = c.past-start.ensures (mark_inside _ _ _ _ _ c.is_word.ensures c.loop-named-test.true)

past_at : (c : After-past-start) → c.past-start.result.at ≡ c.loop-named.end.at + 1
past_at c = ap (λ (s : Cursor). s.at) (past_mark c)

reads : (c : After-read_expr) → c.read_expr.result
    ≡ read_expr c.args.self.now.words.now c.args.self.now.constants c.args.self.now.columns c.named_by-named.result depth_limit (c.loop-named.end.at + 1) c.loop-named.end.next
reads c =
    c.read_expr.ensures
    ∙ ap (λ (s : Cursor). read_expr c.args.self.now.words.now c.args.self.now.constants c.args.self.now.columns c.named_by-named.result depth_limit s.at s.next) (past_mark (goal.at.After-read_expr c).After-past-start)

goes_on : (c : In_ok-end)
    → c.read_expr.result
    ≡ read_expr c.args.self.now.words.now c.args.self.now.constants c.args.self.now.columns c.named_by-named.result depth_limit (c.loop-named.end.at + 1) c.loop-named.end.next
    → (c.loop-named.end.at < length c.args.self.now.words.now) × (c.loop-named.end.at < c.in_ok-end.end.at)
goes_on c read =
    let g = went_on _ _ _ _ _ _ _ _ _ _ read c.in_ok-end.was in
    (mark_inside _ _ _ _ _ c.is_word.ensures c.loop-named-test.true, omega (arith, g.0))

pub returns-in_err-end : goal.returns-in_err-end
returns-in_err-end c =
    let h : c.loop-named.end.at < length c.args.self.now.words.now = mark_inside _ _ _ _ _ c.is_word.ensures c.loop-named-test.true in
    let lt : c.loop-named.count < length c.args.self.now.words.now = omega (arith, c.loop-named.invariant.0) in
    let b = part_bad _ _ _ _ _ _ _ _ _ _ _ _ _ _ _ lt c.is_word.ensures c.loop-named-test.true c.named_by-named.ensures
    (reads (goal.at.returns-in_err-end c).After-read_expr) c.loop-named.invariant.1 _ c.in_err-end.was in
    grind (arith, common_steps, b)

pub overflow_add-count : goal.overflow_add-count
overflow_add-count c =
    let p = past_at (goal.at.overflow_add-count c).After-past-start in
    omega (arith, c.loop-named.invariant.0)

pub loop-named-smaller : goal.loop-named-smaller
loop-named-smaller c = let h = goes_on (goal.at.loop-named-smaller c).In_ok-end (reads (goal.at.loop-named-smaller c).After-read_expr) in omega arith

pub loop-named-preserved : goal.loop-named-preserved
loop-named-preserved c =
    let at = goal.at.loop-named-preserved c in
    let h = goes_on at.In_ok-end (reads at.After-read_expr) in
    let lt : c.loop-named.count < length c.args.self.now.words.now = omega (arith, c.loop-named.invariant.0) in
    let p = past_at at.After-past-start in
    let found : c.if-count-r.span ≡ cond (eqb c.loop-named.count c.args.r) (span (c.loop-named.end.at + 1) c.in_ok-end.end.at) c.loop-named.span =
    elim c.if-count-r.branch [
      | then-count-r w ↦ w.span-is ∙ rw (eq-eqb _ _ w.if-count-r.true) (ap (λ x. span x c.in_ok-end.end.at) p)
      | else-count-r w ↦ w.span-is ∙ rw (ne_eqb _ _ w.if-count-r.false)
    ] in (
      omega (arith, c.loop-named.invariant.0),
      part_more _ _ _ _ _ _ _ _ _ _ _ _ _ _ _ lt c.is_word.ensures c.loop-named-test.true c.named_by-named.ensures
          (reads at.After-read_expr) c.loop-named.invariant.1 _ _ _ c.in_ok-end.was found,
    )

pub returns : goal.returns
returns c = sym (c.loop-named.invariant.1 ∙ no_more _ _ _ _ _ _ _ _ _ _ _ _ c.is_word.ensures c.loop-named-test.false)
