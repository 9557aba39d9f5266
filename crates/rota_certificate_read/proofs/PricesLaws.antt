-- The prices that a text spells are within the limits.
use Rattle.std.proofs.Common.{◌≡◌, ℕ, zero, suc, ◌*◌, ◌≤◌, List, [], ◌∷◌, length, slice_index_or, Ok, ap, arith}
use Rattle.std.specs.List.{AllByRecursion}
use Rattle.rota_core.specs.InstanceTables.{InstanceTables, problem_of}
use Rattle.rota_core.specs.Limits.{max_price}
use Rattle.rota_core.specs.PriceTables.{IsForWeek, PriceTables, IsPriceTables, price_index}
use Rattle.rota_core.specs.ScenarioTables.{ScenarioTables}
use Rattle.rota_layout.specs.Tokens.{Token}
use Rattle.rota_layout.specs.Layout.{number, repeat}
use Rattle.rota_certificate_read.specs.PricesLayout.{price_row, price_table}
use Rattle.rota_layout.specs.DayRows.{DayRows, no_day_rows, day_row, pair_index}
use Rattle.rota_layout.specs.Files.{Fills}
use Rattle.rota_layout.specs.Reading.{Reading, read_layout}
use Rattle.rota_layout.proofs.ReadingLaws.{fills-read, days-all, RowsAll, no_rows-all, row_set-all, day_table-all, number-within}

abbrev IsPrice : ℕ → Type 0
IsPrice price = price ≤ max_price

price_row-keeps : (pairs : ℕ) (t : ScenarioTables) (rows : DayRows ℕ) (front : List Token) (next : DayRows ℕ) →
    Fills (price_row t rows) front next → RowsAll IsPrice pairs rows → RowsAll IsPrice pairs next
unfolding Fills price_row day_row
price_row-keeps pairs t rows front next h k =
    -- the shift type, the skill, the prices
    let skill = h.5 in
    let days = skill.5 in
    let within = days-all (number 0 max_price) IsPrice (λ front price h. (number-within 0 max_price front price h).1) days.1 days.0 days.4 in
    rw days.5.1 (row_set-all IsPrice pairs rows (pair_index (length t.skills) h.0 skill.0) days.0 within k)

price_rows-keep : (pairs : ℕ) (t : ScenarioTables) (n : ℕ) (rows : DayRows ℕ) (front : List Token) (last : DayRows ℕ) →
    Fills (repeat n (price_row t) rows) front last → RowsAll IsPrice pairs rows → RowsAll IsPrice pairs last
unfolding Fills repeat
price_rows-keep pairs t zero rows front last h k = rw h.1 k
price_rows-keep pairs t (suc n) rows front last h k = price_rows-keep pairs t n h.0 h.2 last h.5 (price_row-keeps pairs t rows h.1 h.0 h.4 k)

-- a table that is spelled is a table of prices
spelled-is_prices : (t : ScenarioTables) (front : List Token) (table : PriceTables) → Fills (price_table t) front table → IsPriceTables table
unfolding Fills price_table
spelled-is_prices t front table h =
    -- the number of rows, the rows
    let rows = h.5 in
    let kept = price_rows-keep (length t.shifts * length t.skills) t _ (no_day_rows t) rows.1 rows.0 rows.4
    (no_rows-all IsPrice (length t.shifts * length t.skills)) in
    let are = day_table-all IsPrice 0 (omega arith) (length t.shifts) (length t.skills) rows.0 kept in
    rw rows.5.1 (record { prices = are.0; within = are.1 })

-- so is a table that is read
pub read-is_prices : (t : ScenarioTables) (last : ℕ) (all : List Token) (table : PriceTables) (after : Reading) →
    read_layout (price_table t) (record { last = last; rest = all }) ≡ Ok (table, after) → IsPriceTables table
read-is_prices t last all table after h =
    let fills = fills-read (price_table t) last all table after h in
    spelled-is_prices t fills.0 table fills.3

any-within : (prices : List ℕ) (i : ℕ) → AllByRecursion IsPrice prices → slice_index_or prices i 0 ≤ max_price
any-within [] i all = omega arith
any-within (price ∷ prices) zero all = all.0
any-within (price ∷ prices) (suc i) all = any-within prices i all.1

-- a table that is spelled is for each week of the scenario
pub table-for_week : (week : InstanceTables) (front : List Token) (table : PriceTables) → Fills (price_table week.scenario) front table →
    IsForWeek (problem_of week) table
unfolding Fills price_table
table-for_week week front table h = record {
  shifts = ap (λ (t : PriceTables). t.shifts) h.5.5.1;
  skills = ap (λ (t : PriceTables). t.skills) h.5.5.1;
  within = λ d s k.
      any-within table.prices (price_index table d s k) (spelled-is_prices week.scenario front table h).within;
}
