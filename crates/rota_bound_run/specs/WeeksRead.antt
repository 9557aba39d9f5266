-- The weeks of a period, read one after the other.
use Rattle.std.specs.Prelude.{◌≡◌, ℕ, ◌+◌, ◌<◌, ◌≤◌, ◌⊎◌, ⊤, Bool, None, List, [], ◌∷◌}
use Rattle.rota_core.specs.InstanceTables.{InstanceTables, IsInstance, holding}
use Rattle.rota_core.specs.Limits.{max_weeks}
use Rattle.rota_core.specs.WeekTables.{WeekTables}
use Rattle.rota_core.specs.declared.fault.FileFault.TheVariants as refusals
use Rattle.rota_core.specs.declared.fault.FileName.TheVariants as names
use Rattle.rota_core.specs.declared.fault.Kind.TheVariants.{LateWeek}
use Rattle.rota_read.specs.WeekLayout.{week as week_layout}
use Rattle.rota_pb.specs.RunPorts.{Reader}
use Rattle.rota_pb.specs.Steps.{Step, ◌>>=◌, check, find}
use Rattle.rota_pb.specs.WeekFiles.{read_file, read_roster}
use Rattle.rota_pb.specs.declared.fault.Fault.{Fault}
use Rattle.rota_pb.specs.declared.fault.Fault.TheVariants.{File, Memory}
use Rattle.rota_bound_run.specs.PeriodFiles.{FilesOfWeek}
use Rattle.rota_bound_run.specs.PeriodSteps.{Optional, absent, let_go, lost, read_by}
use Rattle.rota_bound_run.specs.Wards.{history_at}
use Rattle.rota_bound_run.specs.declared.ward.Ward.{Ward}

-- the scenario ends before the week that comes this many weeks after the first
pub record IsLate (ward : Ward) (later : ℕ) (fault : Fault) : Type 0 where
  pub late : ward.scenario.weeks ≤ ward.history.week + later
  pub is : fault ≡ File (refusals.Bad LateWeek names.History 0)

-- the tables of a week that comes this many weeks after the first, with no cell held
abbrev pub week_at : Bool → Ward → ℕ → WeekTables → InstanceTables
week_at early ward later w = record { scenario = ward.scenario; history = history_at ward later; week = w; is_early = early; held = None }

-- the week is joined with the ward, if it is one of the scenario's, unless memory runs out
abbrev pub join_week : Bool → Ward → ℕ → WeekTables → Step InstanceTables
join_week early ward later w =
    check (λ tables. (tables ≡ week_at early ward later w) × IsInstance tables) (λ fault. (fault ≡ Memory) ⊎ IsLate ward later fault)

-- the cells of the file, if there is one, are held
abbrev pub hold_cells : InstanceTables → Optional Reader → Step InstanceTables
hold_cells tables absent = find (λ held. held ≡ tables)
hold_cells tables let_go = lost
hold_cells tables (read_by reader) = do
  roster ← read_roster names.Fixed tables reader
  find (λ held. held ≡ holding tables roster)

-- the files of a week that comes this many weeks after the first are read
abbrev pub read_period_week : Bool → Ward → ℕ → FilesOfWeek → Step InstanceTables
read_period_week early ward later files = do
  w ← read_file names.Week (week_layout ward.scenario) files.week
  tables ← join_week early ward later w
  hold_cells tables files.fix

-- the tables have the same scenario, history and flag
pub record IsLike (tables held : InstanceTables) : Type 0 where
  pub scenario : held.scenario ≡ tables.scenario
  pub history : held.history ≡ tables.history
  pub is_early : held.is_early ≡ tables.is_early

-- ---- all weeks

-- the tables are of the week that comes this many weeks after the first, within the scenario
pub record IsWeekAt (early : Bool) (ward : Ward) (later : ℕ) (tables : InstanceTables) : Type 0 where
  pub scenario : tables.scenario ≡ ward.scenario
  pub history : tables.history ≡ history_at ward later
  pub is_early : tables.is_early ≡ early
  pub spanned : ward.history.week + later < ward.scenario.weeks
  pub few : ward.scenario.weeks ≤ max_weeks

-- the weeks come one after the other, the first of them this many weeks after the first of the period
unfoldable pub AreWeeksFrom : Bool → Ward → ℕ → List InstanceTables → Type 0
AreWeeksFrom early ward later [] = ⊤
AreWeeksFrom early ward later (week ∷ weeks) = IsWeekAt early ward later week × AreWeeksFrom early ward (later + 1) weeks
