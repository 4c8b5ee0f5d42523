-- Where the parts of a file begin.
use Rattle.std.specs.Prelude.{ℕ, zero, suc, ◌+◌, length}
use Rattle.nl.specs.Expr.{Expr, Terms, none, more, count, words}
use Rattle.nl.specs.File.{Model}

-- how many words an expression has, whatever its constants' numbers
abbrev pub size : Expr → ℕ
size e = length (words 0 e)

-- part n's beginning word, of parts that start at `at`; the place after them where there are no more than n
abbrev pub place_of : ℕ → ℕ → Terms → ℕ
place_of n at none = at
place_of zero at (more e ts) = at
place_of (suc n) at (more e ts) = place_of n (at + 1 + size e) ts

-- the first row's beginning word, after the shared parts, and the objective's, after the rows
abbrev pub rows_at : Model → ℕ
rows_at M = place_of (count M.shared) 0 M.shared

abbrev pub objective_at : Model → ℕ
objective_at M = place_of (count M.rows) (rows_at M) M.rows
