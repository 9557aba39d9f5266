-- The rows of a week's file, as the contracts of private functions see them.
use Rattle.std.specs.Prelude.{ℕ, ◌==◌, ◌+◌, ◌*◌, ◌/◌, ◌%◌, ◌<◌, Bool, true, ◌&&◌, List, count_by, map}
use Rattle.std.specs.List.{range_with_len}
use Rattle.std.specs.Option.{ForSome, option_map_or}
use Rattle.rota_core.specs.Sizes.{DAYS}
use Rattle.rota_core.specs.ScenarioTables.{ScenarioTables}
use Rattle.rota_read.specs.declared.week.RequestRow.{RequestRow}
use Rattle.rota_layout.specs.Layout.{Layout, one_more}
use Rattle.rota_read.specs.WeekLayout.{request}

-- one more row of requests
unfoldable pub request_row : ScenarioTables → List RequestRow → Layout (List RequestRow)
request_row t = one_more (λ _. request t)

-- Whether a row asks for the request at index (n * DAYS + d) * S + s: nurse n's day d off, from shift type s of S or from any.
abbrev pub asks_at : ℕ → ℕ → RequestRow → Bool
asks_at shifts index row = row.nurse * DAYS + row.day == index / shifts && option_map_or (λ s. s == index % shifts) row.shift true

-- the number of rows that ask for the request at each index
abbrev pub index_table : ℕ → ℕ → List RequestRow → List ℕ
index_table nurses shifts rows = map (λ index. count_by (asks_at shifts index) rows) (range_with_len 0 (nurses * DAYS * shifts))

-- a row of requests names one of the nurses, one of the shift types or any, and a day
abbrev pub IsRequest : ℕ → ℕ → RequestRow → Type 0
IsRequest nurses shifts row = (row.nurse < nurses) × ForSome row.shift (λ s. s < shifts) × (row.day < DAYS)
