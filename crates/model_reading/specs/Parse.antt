-- What words say, by their places: the expression that starts at a word, and the place after it. Whether they break a reading rule is not
-- asked here; of words that are no expression's, any expression will do.
use Rattle.std.specs.Prelude.{ℕ, zero, suc, ◌+◌, cond, List, ltb, eqb, length, get_or}
use Rattle.base.specs.Word.{kind_of, load_of}
use Rattle.nl.specs.Expr.{Expr, constant, column, shared, over, Terms, none, more}
use Rattle.nl.specs.File.{depth_limit}
use Rattle.nl.specs.Reader.{arity}

-- an expression, and the place after its words
pub record Parsed : Type 0 where
  pub expr : Expr
  pub end : ℕ

pub record ParsedTerms : Type 0 where
  pub terms : Terms
  pub end : ℕ

abbrev pub parsed : Expr → ℕ → Parsed
parsed e end = record { expr = e; end = end }

abbrev pub no_terms : ℕ → ParsedTerms
no_terms at = record { terms = none; end = at }

abbrev pub one_more : Parsed → (ℕ → ParsedTerms) → ParsedTerms
one_more p rest = record { terms = more p.expr (rest p.end).terms; end = (rest p.end).end }

-- n expressions, one after the other
abbrev pub parse_many : (ℕ → Parsed) → ℕ → ℕ → ParsedTerms
parse_many f zero at = no_terms at
parse_many f (suc n) at = one_more (f at) (parse_many f n)

-- the constant, column or shared part of a word of that kind, 0 to 2, and load
unfoldable pub leaf_of : List ℕ → ℕ → ℕ → Expr
leaf_of cs kind load = cond (eqb kind 0) (constant (get_or cs load 0)) (cond (eqb kind 1) (column load) (shared load))

module _ (ws cs : List ℕ) where
  -- the expression of a word at `at`, whose operands follow it
  unfoldable pub headed : ℕ → ℕ → ℕ → ParsedTerms → Parsed
  headed kind load at ts = cond (ltb kind 3) (parsed (leaf_of cs kind load) (at + 1)) (parsed (over kind ts.terms) ts.end)

  -- the expression whose words start at `at`, at most so many levels deep
  unfoldable pub parse : ℕ → ℕ → Parsed
  parse zero at = parsed (constant 0) at
  parse (suc depth) at =
      cond (ltb at (length ws))
      (headed (kind_of (get_or ws at 0)) (load_of (get_or ws at 0)) at
      (parse_many (parse depth) (arity (kind_of (get_or ws at 0)) (load_of (get_or ws at 0))) (at + 1)))
      (parsed (constant 0) at)

  -- the expression of the shared part, row or objective whose beginning word is at `at`
  unfoldable pub part : ℕ → Parsed
  part at = cond (ltb at (length ws)) (parse depth_limit (at + 1)) (parsed (constant 0) at)
