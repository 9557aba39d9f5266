-- A period, read from its files: its ward, all its weeks, and the facts that are given.
use Rattle.std.specs.Prelude.{◌≡◌, ℕ, Bool, List, [], ◌∷◌, ◌++◌, length}
use Rattle.rota_core.specs.InstanceTables.{InstanceTables}
use Rattle.rota_core.specs.ScenarioTables.{ScenarioTables}
use Rattle.rota_core.specs.declared.fault.FileName.TheVariants as names
use Rattle.rota_certificate_read.specs.FactsLayout.{GivenTables, facts, given_of, no_facts}
use Rattle.rota_pb.specs.RunPorts.{Reader}
use Rattle.rota_pb.specs.Steps.{Step, ◌>>=◌, check, find}
use Rattle.rota_pb.specs.WeekFiles.{read_file}
use Rattle.rota_bound_run.specs.PeriodFiles.{FilesOfWeek}
use Rattle.rota_bound_run.specs.PeriodSteps.{Optional, PeriodStep, absent, for_all, for_week, in_turn, let_go, lost, make, read_by}
use Rattle.rota_bound_run.specs.Wards.{read_ward}
use Rattle.rota_bound_run.specs.WeeksRead.{read_period_week}
use Rattle.rota_bound_run.specs.declared.period.Period.{Period}
use Rattle.rota_bound_run.specs.declared.ward.Ward.{Ward}

-- one more week is read, of this number of weeks
abbrev pub read_next : Bool → Ward → (count : ℕ) → List InstanceTables → FilesOfWeek → PeriodStep (List InstanceTables)
read_next early ward count weeks files = do
  week ← for_week count (length weeks) (read_period_week early ward (length weeks) files)
  make (λ more. more ≡ weeks ++ week ∷ [])

-- the weeks are read in order
abbrev pub read_weeks : Bool → Ward → List (Optional FilesOfWeek) → PeriodStep (List InstanceTables)
read_weeks early ward files = in_turn (read_next early ward (length files)) [] files

-- the given facts are read; without a file there are none
abbrev pub read_given : ScenarioTables → (weeks : ℕ) → Optional Reader → Step GivenTables
read_given s weeks absent = find (λ given. given ≡ no_facts)
read_given s weeks let_go = lost
read_given s weeks (read_by reader) = read_file names.Facts (facts s weeks) reader

-- a ward, weeks of it, and the facts that are given about their plans
pub record PeriodTables : Type 0 where
  pub ward : Ward
  pub weeks : List InstanceTables
  pub given : GivenTables

-- the contents of a period
abbrev pub period_of : Period → PeriodTables
period_of period = record { ward = period.ward; weeks = period.weeks.items; given = given_of period.given }

-- the scenario, the history and the weeks are read, then the given facts
abbrev pub read_period : Bool → (scenario history : Reader) → List (Optional FilesOfWeek) → (given : Optional Reader) → PeriodStep PeriodTables
read_period early scenario_file history_file week_files given_file = do
  ward ← for_all (read_ward scenario_file history_file)
  weeks ← read_weeks early ward week_files
  given ← for_all (read_given ward.scenario (length weeks) given_file)
  check (λ period. period ≡ record { ward = ward; weeks = weeks; given = given }) (λ fault. ⊥)
