-- The slots of a table of prices.
use Rattle.rota_layout.specs.Layout.{ℕ, List, codes, length, max_number, ScenarioTables, Layout, end, ◌>>=◌, number}
use Rattle.rota_layout.specs.Layout.{known_name, none_taken, repeat, setting}
use Rattle.rota_core.specs.Limits.{max_price}
use Rattle.rota_core.specs.PriceTables.{PriceTables}
use Rattle.rota_layout.specs.DayRows.{DayRows, no_day_rows, day_row, day_table}

-- one more row: a shift type, a skill that no earlier row has with it, and the prices of Monday to Sunday
unfoldable pub price_row : ScenarioTables → DayRows ℕ → Layout (DayRows ℕ)
price_row t rows = do
  shift ← known_name t.shifts none_taken
  day_row (number 0 max_price) t.skills shift rows

-- the table of these prices, for the scenario's shift types and skills
abbrev pub table_for : ScenarioTables → List ℕ → PriceTables
table_for t prices = record { shifts = length t.shifts; skills = length t.skills; prices = prices }

-- the number of rows, and the rows, which make a table; a place without a row has the price 0
unfoldable pub price_table : ScenarioTables → Layout PriceTables
price_table t = do
  count ← setting (codes "ROWS") 0 max_number
  rows ← repeat count (price_row t) (no_day_rows t)
  end (table_for t (day_table 0 rows))
