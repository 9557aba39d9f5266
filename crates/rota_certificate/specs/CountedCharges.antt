-- The number of a nurse's charges of a kind, as it is counted: day by day for runs, week by week for totals.
use Rattle.std.specs.Prelude.{◌≡◌, ℕ, ◌-◌, ◌≤◌, Option, List, [], ◌∷◌, is_some, length, map}
use Rattle.rota_core.specs.Limits.{max_weeks}
use Rattle.rota_core.specs.Problem.{Problem}
use Rattle.rota_core.specs.InstanceTables.{InstanceTables, problem_of}
use Rattle.rota_core.specs.HardRules.{is_on}
use Rattle.rota_core.specs.Roster.{Roster}
use Rattle.rota_core.specs.RosterTables.{RosterTables, set_of}
use Rattle.rota_core.specs.Sizes.{Numbers}
use Rattle.rota_core.specs.declared.certificate.ChargeKind.{ChargeKind}
use Rattle.rota_core.specs.declared.certificate.ChargeKind.TheVariants.{Assignments, ShiftRuns, Weekends, WorkDays}
use Rattle.rota_core.specs.declared.values.Past.{Past}
use Rattle.rota_rules.specs.CountedTotals.{charged_excess}
use Rattle.rota_certificate.specs.DayCharges.{over_charge, shift_charges}
use Rattle.rota_certificate.specs.Facts.{charges_in_week}
use Rattle.rota_certificate.specs.FirstBelow.{first_below}
use Rattle.rota_certificate.specs.Plans.{KeepRules, history_after}
use Rattle.rota_certificate.specs.Periods.{ArePeriod}
use Rattle.rota_certificate.specs.declared.counted.CountedWeek.{CountedWeek}

-- the nurse's first shift type of the day, if she works; if no two of her cells are on one day, it is her choice
abbrev pub choice_on : Problem → Roster → (nurse day : ℕ) → Option ℕ
choice_on week roster n d = first_below week.shifts (λ s. is_on week roster n s d)

-- the charges of the kind on a day after the past, if they are charges of runs
abbrev pub run_charges : ChargeKind → Problem → (nurse : ℕ) → Past → Option ℕ → ℕ
run_charges ShiftRuns week n past choice = shift_charges week past choice
run_charges WorkDays week n past choice = over_charge past.work_run (is_some choice) (week.contract n).work
run_charges Assignments week n past choice = 0
run_charges Weekends week n past choice = 0

-- the charges of the kind for a week between these pasts, if they are charges of totals
abbrev pub total_charges : ChargeKind → Problem → (nurse : ℕ) → (before now : Past) → ℕ
total_charges ShiftRuns week n before now = 0
total_charges WorkDays week n before now = 0
total_charges Assignments week n before now =
    charged_excess week (week.contract n).total.max before.assignments (now.assignments - before.assignments)
total_charges Weekends week n before now = charged_excess week (week.contract n).weekends before.weekends (now.weekends - before.weekends)

-- the nurse's charges of the kind in the week, and her past after it
pub record IsCountedWeek (kind : ChargeKind) (week : Problem) (roster : Roster) (n : ℕ) (counted : CountedWeek) : Type 0 where
  pub charges : counted.charges ≡ charges_in_week kind week roster n
  pub past : counted.past ≡ history_after week roster n

-- ---- weeks with their rosters

-- the weeks make a period, and there is a roster for each, which keeps its hard rules
pub record IsPlanned (weeks : List InstanceTables) (rosters : List RosterTables) : Type 0 where
  pub count : length weeks ≤ max_weeks
  pub period : ArePeriod (map problem_of weeks)
  pub as_many : length rosters ≡ length weeks
  pub keep : KeepRules (map problem_of weeks) (map set_of rosters)

-- the numbers of nurses, shift types and skills of the first week; all weeks have the same
abbrev pub numbers_in : List InstanceTables → Numbers
numbers_in [] = record { nurses = 0; shifts = 0; skills = 0 }
numbers_in (first ∷ later) = (problem_of first).numbers
