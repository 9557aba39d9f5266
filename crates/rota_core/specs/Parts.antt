-- The tables that parts contain.
use Rattle.std.specs.Prelude.{Bool, Option, ℕ, List, map}
use Rattle.rota_core.specs.RosterTables.{RosterTables}
use Rattle.rota_core.specs.ScenarioTables.{ScenarioTables}
use Rattle.rota_core.specs.InstanceTables.{InstanceTables}
pub use Rattle.rota_core.specs.PartsOfHistory.{history_of}
use Rattle.rota_core.specs.WeekTables.{WeekTables}
use Rattle.rota_core.specs.declared.history.HistoryParts.{HistoryParts}
use Rattle.rota_core.specs.declared.scenario.ScenarioParts.{ScenarioParts}
use Rattle.rota_core.specs.declared.week.WeekParts.{WeekParts}
use Rattle.std.specs.declared.vec.Vec.{Vec}
use Rattle.indexmap.specs.IndexSet.{IndexSet}

-- the bytes of the names
abbrev pub bytes_of : {Z S : Type 0} → IndexSet (Vec ℕ Z) S → List (List ℕ)
bytes_of names = map (λ name. name.items) names.keys

-- the tables of a scenario's parts
abbrev pub scenario_of : ScenarioParts → ScenarioTables
scenario_of parts = record {
  name = parts.name.items;
  weeks = parts.weeks;
  skills = bytes_of parts.skills;
  shifts = bytes_of parts.shifts;
  limits = parts.limits.items;
  forbidden = parts.forbidden.items;
  contracts = parts.contracts.items;
  nurses = bytes_of parts.nurses;
  contract_of = parts.contract_of.items;
  has_skill = parts.has_skill.items;
}

-- the tables of the parts of a week's data
abbrev pub week_tables_of : WeekParts → WeekTables
week_tables_of parts = record {
  numbers = record { nurses = parts.nurses; shifts = parts.shifts; skills = parts.skills };
  demands = parts.demands.items;
  requests = parts.requests.items;
}

-- the tables of a week: its scenario, and the parts of its history and its data
abbrev pub instance_of : ScenarioTables → HistoryParts → WeekParts → Bool → Option RosterTables → InstanceTables
instance_of scenario history week early held = record {
  scenario = scenario;
  history = history_of history;
  week = week_tables_of week;
  is_early = early;
  held = held;
}
