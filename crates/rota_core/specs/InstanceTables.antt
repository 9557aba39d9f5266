-- The contents of an instance, and the week that it describes.
use Rattle.std.specs.Prelude.{◌≡◌, ◌+◌, ◌*◌, ◌<◌, Bool, false, ◌==◌, Option, Some, length, slice_index_or}
use Rattle.std.specs.Option.{ForSome, option_map_or}
use Rattle.rota_core.specs.Sizes.{DAYS}
use Rattle.rota_core.specs.RosterTables.{RosterTables, IsRoster, set_of}
use Rattle.rota_core.specs.ScenarioTables.{ScenarioTables, IsScenario, numbers_of}
use Rattle.rota_core.specs.Problem.{Problem}
use Rattle.rota_core.specs.Defaults.{no_contract, no_demand, no_past, no_span}
use Rattle.rota_core.specs.WeekTables.{HistoryTables, WeekTables, IsHistory, IsWeek}

-- The tables of a scenario, of the history before the week, and of the week; whether excess is charged early; and the held cells, if any.
pub record InstanceTables : Type 0 where
  pub scenario : ScenarioTables
  pub history : HistoryTables
  pub week : WeekTables
  pub is_early : Bool
  pub held : Option RosterTables

-- All tables, including the held roster, are within their limits and fit the scenario, and the week is one of the scenario's weeks.
pub record IsInstance (t : InstanceTables) : Type 0 where
  pub scenario : IsScenario t.scenario
  pub history : IsHistory t.history
  pub week : IsWeek t.week
  pub history_fits : t.history.numbers ≡ numbers_of t.scenario
  pub week_fits : t.week.numbers ≡ numbers_of t.scenario
  pub spanned : t.history.week < t.scenario.weeks
  pub held : ForSome t.held (λ roster. IsRoster roster × (roster.numbers ≡ numbers_of t.scenario))

-- the tables, with exactly the cells of this roster held
abbrev pub holding : InstanceTables → RosterTables → InstanceTables
holding t roster = record t { held = Some roster }

-- the week that the tables describe; an index outside a table gives a default
abbrev pub problem_of : InstanceTables → Problem
problem_of t = record {
  numbers = numbers_of t.scenario;
  is_last = t.history.week + 1 == t.scenario.weeks;
  is_early = t.is_early;
  has_skill = λ n k. slice_index_or t.scenario.has_skill (n * length t.scenario.skills + k) false;
  demand = λ d s k. slice_index_or t.week.demands ((d * length t.scenario.shifts + s) * length t.scenario.skills + k) no_demand;
  is_forbidden = λ s u. slice_index_or t.scenario.forbidden (s * length t.scenario.shifts + u) false;
  limits = λ s. slice_index_or t.scenario.limits s no_span;
  contract = λ n. slice_index_or t.scenario.contracts (slice_index_or t.scenario.contract_of n 0) no_contract;
  past = λ n. slice_index_or t.history.past n no_past;
  requests = λ n d s. slice_index_or t.week.requests ((n * DAYS + d) * length t.scenario.shifts + s) 0;
  is_held = option_map_or set_of t.held (λ one. false);
}
