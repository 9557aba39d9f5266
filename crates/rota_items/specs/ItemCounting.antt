-- The abstract values of a counter of rows, and of a counter of items and slacks.
use Rattle.std.specs.Prelude.{ℕ, ◌+◌, min}
use Rattle.rota_items.specs.Rows.{Item, LinearRow}
use Rattle.rota_items.specs.MachineBounds.{max_count}

pub record ItemNumbers : Type 0 where
  pub items : ℕ
  pub slacks : ℕ

-- the sum, or the maximum number that fits
abbrev pub sum_within : ℕ → ℕ → ℕ
sum_within count more = min (count + more) max_count

-- one row more
abbrev pub one_row_more : ℕ → LinearRow ℕ → ℕ
one_row_more rows row = sum_within rows 1

-- one item more, and its slacks
abbrev pub with_one : ItemNumbers → Item ℕ → ItemNumbers
with_one counts item = record { items = sum_within counts.items 1; slacks = sum_within counts.slacks item.slacks }
