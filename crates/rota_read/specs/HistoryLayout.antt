-- The slots of a history file.
use Rattle.rota_layout.specs.Layout.{ℕ, List, codes, map, unwrap_or, max_number, ScenarioTables, numbers_of, Layout, end, ◌>>=◌}
use Rattle.rota_layout.specs.Layout.{exactly, number, any_word, shift_or}
use Rattle.rota_read.specs.SharedSlots.{value_of_each}
use Rattle.rota_core.specs.declared.values.Past.{Past}
use Rattle.rota_core.specs.Defaults.{no_past}
use Rattle.rota_core.specs.WeekTables.{HistoryTables}

-- a nurse's totals, her last shift type or `None`, and the lengths of her runs
unfoldable pub past : List (List ℕ) → Layout Past
past shifts = do
  assignments ← number 0 max_number
  weekends ← number 0 max_number
  last ← shift_or (codes "None") shifts
  shift_run ← number 0 max_number
  work_run ← number 0 max_number
  off_run ← number 0 max_number
  end (record {
    assignments = assignments;
    weekends = weekends;
    last = last;
    shift_run = shift_run;
    work_run = work_run;
    off_run = off_run;
  })

-- The slots of the whole file. Any word may be the scenario's name. After the rows each nurse has her past, so `no_past` is not used.
unfoldable pub history : ScenarioTables → Layout HistoryTables
history tables = do
  _ ← exactly (codes "HISTORY")
  week ← number 0 max_number
  _ ← any_word
  _ ← exactly (codes "NURSE_HISTORY")
  pasts ← value_of_each tables.nurses (past tables.shifts)
  end (record {
    numbers = numbers_of tables;
    week = week;
    past = map (λ past. unwrap_or past no_past) pasts;
  })
