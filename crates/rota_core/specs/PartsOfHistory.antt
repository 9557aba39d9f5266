-- The tables that the parts of a history contain.
use Rattle.rota_core.specs.WeekTables.{HistoryTables}
use Rattle.rota_core.specs.declared.history.HistoryParts.{HistoryParts}

-- the tables of a history's parts
abbrev pub history_of : HistoryParts → HistoryTables
history_of parts = record {
  numbers = record { nurses = parts.nurses; shifts = parts.shifts; skills = parts.skills };
  week = parts.week;
  past = parts.past.items;
}
