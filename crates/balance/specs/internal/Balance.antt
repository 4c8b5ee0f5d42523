-- The balance rows: a row by the list of its items, and one bus after the other.
use Rattle.std.specs.Prelude.{ℕ, ◌+◌, ◌*◌, List, [], ◌∷◌, ◌++◌, length, get_or, Float}
use Rattle.std.specs.Float.{binary64}
use Rattle.std.specs.Float.Ieee.{neg, to_bits}
use Rattle.base.specs.Loop.{each}
use Rattle.base.specs.Word.{word}
use Rattle.float.specs.Number.{one64}
use Rattle.nl.specs.Expr.{Expr, column, shared}
use Rattle.network.specs.declared.layout.Layout.{Layout}
use Rattle.network.specs.Network.{p_d, q_d, g_s, b_s}
use Rattle.acopf.specs.Build.{scaled}
use Rattle.acopf.specs.Rows.{p_balance_row, q_balance_row}
use Rattle.writer.specs.internal.Tokens.{Token, fixed, numbered, begins, list_tokens, part_tokens}
use Rattle.balance.specs.declared.balance.Power.{Power}
use Rattle.balance.specs.declared.balance.Power.TheVariants.{Active, Reactive}
use Rattle.balance.specs.declared.balance.Row.{Row}
use Rattle.balance.specs.declared.item.Item.{Item}
use Rattle.balance.specs.declared.item.Item.TheVariants.{Generator, BranchEnd}
use Rattle.balance.specs.declared.item.Side.{Side}
use Rattle.balance.specs.declared.item.Side.TheVariants.{From, To}
use Rattle.balance.specs.internal.Items.{item_of}

-- bus i's balance, but for its items
abbrev pub row_of : List ℕ → List Float → Layout → Power → ℕ → Row
row_of ws xs l Active i = record {
  bus = i;
  demand = neg (p_d ws xs i);
  shunt = neg (g_s ws xs i);
  generators = l.generators;
  column = 2 * l.buses;
  part = l.buses + 4;
}
row_of ws xs l Reactive i = record {
  bus = i;
  demand = neg (q_d ws xs i);
  shunt = b_s ws xs i;
  generators = l.generators;
  column = 2 * l.buses + l.generators;
  part = l.buses + 5;
}

-- the row's beginning, the sum's own word, demand and shunt
abbrev pub row_head : Row → ℕ → List Token
row_head row terms =
    begins 11 ∷ fixed (word 9 terms) ∷ numbered (to_bits binary64 row.demand)
    ∷ fixed (word 5 0) ∷ numbered (to_bits binary64 row.shunt) ∷ fixed (word 2 row.bus) ∷ []

-- of a branch's eight parts the flow at its to end comes two after the one at its from end
abbrev pub flow_at : Side → ℕ
flow_at From = 0
flow_at To = 2

-- a generator's column, or a branch end's flow times -1
abbrev pub row_item : Row → Item → Expr
row_item row (Generator g) = column (row.column + g)
row_item row (BranchEnd b side) = scaled (neg one64) (shared (row.part + 8 * b + flow_at side))

-- of item j
abbrev pub item_tokens : Row → ℕ → List Token
item_tokens row j = list_tokens (row_item row (item_of row.generators j) ∷ [])

-- of the listed items
abbrev pub listed_tokens : Row → List ℕ → List Token
listed_tokens row items = each (length items) (λ s. item_tokens row (get_or items s 0))

abbrev pub row_tokens : Row → List ℕ → List Token
row_tokens row items = row_head row (2 + length items) ++ listed_tokens row items

-- bus i's balance
unfoldable pub balance_of : List ℕ → List Float → Power → ℕ → List Token
balance_of ws xs Active i = part_tokens 11 ((p_balance_row ws xs i).expression ∷ [])
balance_of ws xs Reactive i = part_tokens 11 ((q_balance_row ws xs i).expression ∷ [])

-- all p balances, then all q balances
unfoldable pub balances_of : List ℕ → List Float → ℕ → List Token
balances_of ws xs n = each n (balance_of ws xs Active) ++ each n (balance_of ws xs Reactive)
