-- Rows of a pair of a shift type and a skill with a value for each day, and the table of such rows.
use Rattle.std.specs.Prelude.{◌+◌, ◌*◌, ℕ, Option, Some, None, List, length, map, flat_map, replicate, slice_index_or, slice_set}
use Rattle.rota_layout.specs.Layout.{range_with_len, option_map_or, DAYS, ScenarioTables, Layout, end, ◌>>=◌, known_name, has_row, many}

-- at the index of a shift type and a skill, the values of Monday to Sunday, if a row has the two
abbrev pub DayRows : Type 0 → Type 0
DayRows A = List (Option (List A))

-- no pair of a shift type and a skill has a row
abbrev pub no_day_rows : {A : Type 0} → ScenarioTables → DayRows A
no_day_rows t = replicate (length t.shifts * length t.skills) None

-- the index of a shift type and a skill, for this number of skills
abbrev pub pair_index : (skills shift skill : ℕ) → ℕ
pair_index skills shift skill = shift * skills + skill

-- the rest of a row after its shift type: a skill that no earlier row has with it, and the values of Monday to Sunday
unfoldable pub day_row : {A : Type 0} → Layout A → List (List ℕ) → ℕ → DayRows A → Layout (DayRows A)
day_row value skills shift rows = do
  skill ← known_name skills (λ skill. has_row rows (pair_index (length skills) shift skill))
  values ← many DAYS (λ _. value)
  end (slice_set rows (pair_index (length skills) shift skill) (Some values))

-- the value of a row on a day; this value if there is no row
abbrev pub value_on : {A : Type 0} → A → ℕ → Option (List A) → A
value_on absent day row = option_map_or (λ values. slice_index_or values day absent) row absent

-- The values of all pairs on Monday, then on Tuesday, and so on.
abbrev pub day_table : {A : Type 0} → A → DayRows A → List A
day_table absent rows = flat_map (λ day. map (value_on absent day) rows) (range_with_len 0 DAYS)
