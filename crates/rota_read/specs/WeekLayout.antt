-- The slots of a week's file.
use Rattle.std.specs.Prelude.{◌==◌, ◌+◌, ◌*◌, ◌&&◌, ℕ, zero, suc, Bool, true, Option, Some, None, List, codes, length}
use Rattle.rota_layout.specs.Layout.{map, flat_map, count_by, range_with_len, option_map_or, max_number, DAYS, ScenarioTables, numbers_of}
use Rattle.rota_layout.specs.Layout.{Layout, end, ◌>>=◌, exactly, number, any_word, known_name, none_taken, day_names, many, shift_or}
use Rattle.rota_read.specs.SharedSlots.{pair}
use Rattle.rota_core.specs.declared.values.Demand.{Demand}
use Rattle.rota_core.specs.Defaults.{no_demand}
use Rattle.rota_core.specs.WeekTables.{WeekTables}
use Rattle.rota_read.specs.declared.week.RequestRow.{RequestRow}
use Rattle.rota_layout.specs.DayRows.{DayRows, no_day_rows, day_row, day_table}

-- a minimum and an optimal number
unfoldable pub demand : Layout Demand
demand = do
  numbers ← pair
  end (record { minimum = numbers.min; optimal = numbers.max })

-- the part that follows for the value; for `None`, no slot, and this result
abbrev pub part_or : {A B : Type 0} → (A → Layout B) → Option A → B → Layout B
part_or part None result = end result
part_or part (Some a) result = part a

-- at most this number of rows of requirements, until the word that ends them
unfoldable pub requirement_rows : ScenarioTables → ℕ → DayRows Demand → Layout (DayRows Demand)
requirement_rows t zero rows = end rows
requirement_rows t (suc maximum) rows = do
  next ← shift_or (codes "SHIFT_OFF_REQUESTS") t.shifts
  part_or (λ shift. day_row demand t.skills shift rows >>= requirement_rows t maximum) next rows

-- One row more than there are pairs of a shift type and a skill. No text has this number of rows: if each pair has a row, one more row
-- names a pair that an earlier row has. So the bound cuts off no row.
abbrev pub max_rows : ScenarioTables → ℕ
max_rows t = length t.shifts * length t.skills + 1

-- a row of requests: a nurse, a shift type or `Any`, and a day
unfoldable pub request : ScenarioTables → Layout RequestRow
request t = do
  nurse ← known_name t.nurses none_taken
  shift ← shift_or (codes "Any") t.shifts
  day ← known_name day_names none_taken
  end (record { nurse = nurse; shift = shift; day = day })

-- whether the row asks to keep the nurse off the shift type on that day; a row for `Any` does so for each shift type
abbrev pub asks : (nurse day shift : ℕ) → RequestRow → Bool
asks nurse day shift row = row.nurse == nurse && row.day == day && option_map_or (λ s. s == shift) row.shift true

-- At index (n * DAYS + d) * S + s, for S shift types, the number of rows that ask to keep nurse n off shift type s on day d.
abbrev pub request_table : (nurses shifts : ℕ) → List RequestRow → List ℕ
request_table nurses shifts rows =
    flat_map (λ nurse. flat_map (λ day. map (λ shift. count_by (asks nurse day shift) rows)
    (range_with_len 0 shifts)) (range_with_len 0 DAYS)) (range_with_len 0 nurses)

-- The slots of the whole file. The word before `=` is the word that ended the requirements.
unfoldable pub week : ScenarioTables → Layout WeekTables
week t = do
  _ ← exactly (codes "WEEK_DATA")
  _ ← any_word
  _ ← exactly (codes "REQUIREMENTS")
  requirements ← requirement_rows t (max_rows t) (no_day_rows t)
  _ ← exactly (codes "=")
  count ← number 0 max_number
  requests ← many count (λ _. request t)
  end (record {
    numbers = numbers_of t;
    demands = day_table no_demand requirements;
    requests = request_table (length t.nurses) (length t.shifts) requests;
  })
