-- Several weeks in order, planned together: the history that a week leaves, the rosters of all weeks, and their cost.
use Rattle.std.specs.Prelude.{◌≡◌, ℕ, ◌+◌, Option, List, [], ◌∷◌, length, map}
use Rattle.std.specs.List.{AllByRecursion, sum_by}
use Rattle.std.specs.Option.{option_map_or}
use Rattle.rota_core.specs.Sizes.{DAYS}
use Rattle.rota_core.specs.HardRules.{KeepsHardRules, is_off, is_on, works}
use Rattle.rota_core.specs.InstanceTables.{InstanceTables, problem_of}
use Rattle.rota_core.specs.Problem.{Problem}
use Rattle.rota_core.specs.Roster.{Roster}
use Rattle.rota_core.specs.RosterTables.{RosterTables, set_of}
use Rattle.rota_core.specs.declared.values.Past.{Past}
use Rattle.rota_rules.specs.Penalty.{penalty}
use Rattle.rota_rules.specs.Runs.{run_length}
use Rattle.rota_rules.specs.ConsecutiveAssignments.{history_on}
use Rattle.rota_rules.specs.TotalAssignments.{assignments_of}
use Rattle.rota_rules.specs.WorkedWeekends.{worked_weekend}
use Rattle.rota_certificate.specs.FirstBelow.{first_below}

-- a history: the past of each nurse
abbrev pub Pasts : Type 0
Pasts = (nurse : ℕ) → Past

-- the week, with this history before it
abbrev pub after : Problem → Pasts → Problem
after week history = record week { past = history }

-- the nurse's shift type on Sunday, if she works then
abbrev pub sunday_shift : Problem → Roster → ℕ → Option ℕ
sunday_shift week roster n = first_below week.shifts (λ s. is_on week roster n s 6)

-- the history after the week with this roster: the totals grow, and the runs are those up to Sunday; no number is limited as in a file
abbrev pub history_after : Problem → Roster → Pasts
history_after week roster n = record {
  assignments = (week.past n).assignments + assignments_of week roster n;
  weekends = (week.past n).weekends + worked_weekend week roster n;
  last = sunday_shift week roster n;
  shift_run = option_map_or (λ s. run_length (is_on week roster n s) (history_on week n s) DAYS) (sunday_shift week roster n) 0;
  work_run = run_length (works week roster n) (week.past n).work_run DAYS;
  off_run = run_length (is_off week roster n) (week.past n).off_run DAYS;
}

-- a week of a plan, with the history that the roster of the week before leaves, and its roster
pub record PlannedWeek : Type 0 where
  pub week : Problem
  pub roster : Roster

-- the weeks of a plan in order
abbrev pub Plan : Type 0
Plan = List PlannedWeek

-- the plan of these rosters for the weeks, after this history
unfoldable pub plan_after : Pasts → List Problem → List Roster → Plan
plan_after history [] rosters = []
plan_after history (week ∷ weeks) [] = []
plan_after history (week ∷ weeks) (roster ∷ rosters) =
    record { week = after week history; roster = roster } ∷ plan_after (history_after (after week history) roster) weeks rosters

-- the plan of these rosters; `past` of each week is the history before the first week
abbrev pub plan_of : List Problem → List Roster → Plan
plan_of [] rosters = []
plan_of (first ∷ later) rosters = plan_after first.past (first ∷ later) rosters

-- the same of the weeks and rosters that tables describe
abbrev pub plan_from : List InstanceTables → List RosterTables → Plan
plan_from weeks rosters = plan_of (map problem_of weeks) (map set_of rosters)

-- there is a roster for each week, and each keeps the hard rules of its week after the history that the week before leaves
pub record KeepRules (weeks : List Problem) (rosters : List Roster) : Type 0 where
  pub count : length rosters ≡ length weeks
  pub keep : AllByRecursion (λ one. KeepsHardRules one.week one.roster) (plan_of weeks rosters)

-- the cost of a plan: the sum of the penalties of its rosters
abbrev pub plan_cost : Plan → ℕ
plan_cost plan = sum_by (λ one. penalty one.week one.roster) plan
