-- Steps for a week that were not started.
use Rattle.std.proofs.Common.{◌≡◌, ℕ, ◌<◌, ◌≤◌, refl, ap, sym, ◌∙◌, subst, List, [], ◌∷◌, ◌++◌, length, Result, Ok, Err, IfOk}
use Rattle.std.specs.Prelude.{Bool, Option, Some, None}
use Rattle.rota_core.specs.InstanceTables.{InstanceTables, IsInstance}
use Rattle.rota_core.specs.Limits.{max_weeks}
use Rattle.rota_core.specs.WeekTables.{WeekTables}
use Rattle.byte_ports.specs.declared.ports.Source.{Ghosts}
use Rattle.rota_pb.specs.PeriodFaults.{fault_in_week}
use Rattle.rota_pb.specs.declared.fault.Fault.{Fault}
use Rattle.rota_pb.specs.declared.fault.Fault.TheVariants.{Memory}
use Rattle.rota_pb.specs.declared.period_fault.PeriodFault.TheVariants.{Run}
use Rattle.rota_pb.specs.Steps.{stopped, went_on}
use Rattle.rota_bound_run.specs.PeriodFiles.{reader_if, week_readers}
use Rattle.rota_bound_run.specs.PeriodRead.{read_next}
use Rattle.rota_bound_run.specs.WeeksRead.{IsLike, IsWeekAt, hold_cells, read_period_week, week_at}
use Rattle.rota_bound_run.specs.declared.files.WeekFiles.{WeekFiles}
use Rattle.rota_bound_run.specs.declared.ward.Ward.{Ward}

-- the file of the held cells is not touched
pub holds-none : {S : Type 0} (port : Ghosts S) (tables : InstanceTables) (fix : Option S) → (hold_cells tables
    (reader_if port fix fix)).untouched
holds-none port tables None = tt
holds-none port tables (Some file) = (refl, λ roster. tt)

-- no file of the week is touched
pub reads-no-week : {S : Type 0} (port : Ghosts S) (early : Bool) (ward : Ward) (count : ℕ) (found : List InstanceTables) (files :
    WeekFiles S) →
    (read_next early ward count found (week_readers port files files)).untouched
reads-no-week port early ward count found files = ((refl, λ w. (tt, λ tables. holds-none port tables files.fix)), λ week. tt)

-- a week that is joined with the ward, with cells held
pub is-week-at : (early : Bool) (ward : Ward) (later : ℕ) (w : WeekTables) (tables : InstanceTables) (held : Result InstanceTables Fault)
    →
    tables ≡ week_at early ward later w → IsInstance tables → IfOk held (IsLike tables) → IfOk held (IsWeekAt early ward later)
is-week-at early ward later w tables (Err fault) is limits like = tt
is-week-at early ward later w tables (Ok held) is limits like = record {
  scenario = like.scenario ∙ ap (λ (t : InstanceTables). t.scenario) is;
  history = like.history ∙ ap (λ (t : InstanceTables). t.history) is;
  is_early = like.is_early ∙ ap (λ (t : InstanceTables). t.is_early) is;
  spanned = subst (λ (t : InstanceTables). t.history.week < t.scenario.weeks) is limits.spanned;
  few = subst (λ (t : InstanceTables). t.scenario.weeks ≤ max_weeks) is limits.scenario.weeks.1;
}

-- ---- a loop over the files of the weeks

module _ {S : Type 0} (port : Ghosts S) (early : Bool) (ward : Ward) (count : ℕ) (weeks : List InstanceTables) (i : ℕ)
    (number : length weeks ≡ i) (old new : WeekFiles S) where
  -- one more week is read
  pub reads-week : (week : InstanceTables) (more : List InstanceTables) → (read_period_week early ward i (week_readers port old new)).ends (Ok
      week) →
      more ≡ weeks ++ week ∷ [] → (read_next early ward count weeks (week_readers port old new)).ends (Ok more)
  reads-week week more ends is =
      went_on week (subst (λ (n : ℕ). (read_period_week early ward n (week_readers port old new)).ends (Ok week)) (sym number) ends) is

  -- there is no memory for the week
  pub lacks-memory : (week : InstanceTables) → (read_period_week early ward i (week_readers port old new)).ends (Ok week) →
      (read_next early ward count weeks (week_readers port old new)).ends (Err (Run Memory))
  lacks-memory week ends =
      went_on week (subst (λ (n : ℕ). (read_period_week early ward n (week_readers port old new)).ends (Ok week)) (sym number) ends) refl

  -- the week is not read
  pub stops-week : (fault : Fault) → (read_period_week early ward i (week_readers port old new)).ends (Err fault) →
      (read_next early ward count weeks (week_readers port old new)).ends (Err (fault_in_week count i fault))
  stops-week fault ends =
      stopped (fault_in_week count i fault) refl (
        fault,
        ap (λ (n : ℕ). fault_in_week count n fault) (sym number),
        subst (λ (n : ℕ). (read_period_week early ward n (week_readers port old new)).ends (Err fault)) (sym number) ends,
      ) (λ week. tt)
