-- The scenario and the history before the first week, and how the history's number of the week grows.
use Rattle.std.specs.Prelude.{◌≡◌, ℕ, ◌+◌}
use Rattle.rota_core.specs.PartsOfHistory.{history_of}
use Rattle.rota_core.specs.ScenarioTables.{ScenarioTables, numbers_of}
use Rattle.rota_core.specs.WeekTables.{HistoryTables, IsHistory}
use Rattle.rota_core.specs.declared.fault.FileName.TheVariants as names
use Rattle.rota_read.specs.HistoryLayout.{history}
use Rattle.rota_read.specs.ScenarioLayout.{scenario}
use Rattle.rota_pb.specs.RunPorts.{Reader}
use Rattle.rota_pb.specs.Steps.{Step, ◌>>=◌, find}
use Rattle.rota_pb.specs.WeekFiles.{read_file}
use Rattle.rota_bound_run.specs.declared.ward.Ward.{Ward}

-- the ward's history fits its scenario
pub record IsWard (ward : Ward) : Type 0 where
  pub fits : (history_of ward.history).numbers ≡ numbers_of ward.scenario
  pub limits : IsHistory (history_of ward.history)

-- the ward has this scenario and this history
pub record IsWardOf (s : ScenarioTables) (h : HistoryTables) (ward : Ward) : Type 0 where
  pub scenario : ward.scenario ≡ s
  pub history : history_of ward.history ≡ h
  pub is_ward : IsWard ward

-- the scenario and the history are read
abbrev pub read_ward : Reader → Reader → Step Ward
read_ward scenario_file history_file = do
  s ← read_file names.Scenario scenario scenario_file
  h ← read_file names.History (history s) history_file
  find (IsWardOf s h)

-- the history before the first week, with the number of the week that comes this many weeks later
abbrev pub history_at : Ward → ℕ → HistoryTables
history_at ward later = record (history_of ward.history) { week = ward.history.week + later }
