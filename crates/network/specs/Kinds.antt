-- Document 01, "The network file": the kinds of its words, by their numbers.
use Rattle.std.specs.Prelude.{ℕ}
use Rattle.network.specs.declared.word.Kind.{Kind}
use Rattle.network.specs.declared.word.Kind.TheVariants.{Header, Bus, Generator, Branch, Reference}

abbrev pub kind_number : Kind → ℕ
kind_number Header = 1
kind_number Bus = 2
kind_number Generator = 3
kind_number Branch = 4
kind_number Reference = 5
