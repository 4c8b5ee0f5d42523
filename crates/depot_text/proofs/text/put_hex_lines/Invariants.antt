use lib.ListN.{get_or}
use Rattle.base.specs.Loop.{each}
use Rattle.base.specs.internal.Section.{Added}
use Rattle.depot_text.specs.Text.{hex_line}
use Rattle.depot_text.proofs.text.put_hex_lines.Given as goal

abbrev pub invariant-loop-word : goal.invariant-loop-word
invariant-loop-word l = Added l.initial.text (each l.word-index (λ j. hex_line (get_or l.words j 0))) l.text
