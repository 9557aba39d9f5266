-- The cost of a nurse in the weeks of a plan by S2 to S7, with a tariff for the charges that a case may limit.
use Rattle.std.specs.Prelude.{◌≡◌, ℕ, ◌+◌, ◌*◌, ◌<◌, true, if◌then◌else◌, IfSome, Option, List, [], ◌∷◌, ⊤}
use Rattle.std.specs.List.{sum_by}
use Rattle.rota_core.specs.Sizes.{DAYS}
use Rattle.rota_core.specs.Prices.{Prices}
use Rattle.rota_core.specs.Problem.{Problem}
use Rattle.rota_core.specs.Roster.{Roster, cell}
use Rattle.rota_core.specs.SumsBelow.{sum_below}
use Rattle.rota_core.specs.HardRules.{works}
use Rattle.rota_core.specs.declared.certificate.ChargeKind.TheVariants.{Assignments, ShiftRuns, Weekends, WorkDays}
use Rattle.rota_rules.specs.Runs.{run_under}
use Rattle.rota_rules.specs.CompleteWeekends.{complete_weekend_cost_of}
use Rattle.rota_rules.specs.ConsecutiveAssignments.{work_run_weight}
use Rattle.rota_rules.specs.ConsecutiveDaysOff.{consecutive_day_off_cost_of}
use Rattle.rota_rules.specs.ShiftOffRequests.{request_weight}
use Rattle.rota_rules.specs.TotalAssignments.{assignment_weight, below_min_total}
use Rattle.rota_certificate.specs.Facts.{charges_in_week, has_choice}
use Rattle.rota_certificate.specs.NurseBounds.{LeafWeek}
use Rattle.rota_certificate.specs.Plans.{Plan, PlannedWeek}
use Rattle.rota_certificate.specs.declared.tariffs.Tariff.{Tariff}

-- the number of pairs of a cell of the nurse and a request row that asks to leave it free
abbrev pub requests_of : Problem → Roster → ℕ → ℕ
requests_of week roster n =
    sum_below DAYS (λ d. sum_below week.shifts (λ s. sum_below week.skills (λ k. if roster (cell n d s k) then week.requests n d s else 0)))

-- the cost of the nurse's weekend
abbrev pub weekend_cost : Problem → Roster → (nurse : ℕ) → ℕ
weekend_cost week roster n = complete_weekend_cost_of week roster n

-- the cost of the nurse's days by the charges that no case limits, in points
abbrev pub fixed_on_days : Problem → Roster → (nurse : ℕ) → ℕ
fixed_on_days week roster n =
    work_run_weight * run_under (works week roster n) (week.past n).work_run (week.contract n).work.min +
    consecutive_day_off_cost_of week roster n + request_weight * requests_of week roster n + weekend_cost week roster n

-- her cost in a week by the charges that no case limits, in points
abbrev pub fixed_cost : Problem → Roster → (nurse : ℕ) → ℕ
fixed_cost week roster n = fixed_on_days week roster n + assignment_weight * below_min_total week roster n

-- her cost in a week by the charges that a case may limit
abbrev pub tariff_cost : Tariff → Problem → Roster → (nurse : ℕ) → ℕ
tariff_cost tariff week roster n =
    tariff.shift_runs * charges_in_week ShiftRuns week roster n + tariff.work_days * charges_in_week WorkDays week roster n +
    tariff.assignments * charges_in_week Assignments week roster n + tariff.weekends * charges_in_week Weekends week roster n

-- her cost in a plan; `unit` is the value of a point
abbrev pub nurse_cost : (unit : ℕ) → Tariff → Plan → (nurse : ℕ) → ℕ
nurse_cost unit tariff plan n =
    sum_by (λ one. tariff_cost tariff one.week one.roster n + unit * fixed_cost one.week one.roster n) plan

-- the prices of the nurse's cells in a week
abbrev pub paid : Problem → Prices → Roster → (nurse : ℕ) → ℕ
paid week prices roster n =
    sum_below DAYS (λ d. sum_below week.shifts (λ s. sum_below week.skills (λ k. if roster (cell n d s k) then prices d s k else 0)))

-- the prices of her cells in all weeks
unfoldable pub paid_in_plan : List LeafWeek → Plan → (nurse : ℕ) → ℕ
paid_in_plan [] plan n = 0
paid_in_plan (one ∷ later) [] n = 0
paid_in_plan (one ∷ later) (planned ∷ plan) n = paid one.week one.prices planned.roster n + paid_in_plan later plan n

-- the case of the leaf allows each choice of the nurse in a week
abbrev pub AllowsChoices : LeafWeek → PlannedWeek → (nurse : ℕ) → Type 0
AllowsChoices one planned n =
    (d : ℕ) (choice : Option ℕ) → d < DAYS → IfSome choice (λ s. s < planned.week.shifts) →
    has_choice planned.week planned.roster n d choice ≡ true → one.may_choose n d choice ≡ true

-- the case allows each choice of the nurse in each week of the plan
unfoldable pub AllowsPlan : List LeafWeek → Plan → (nurse : ℕ) → Type 0
AllowsPlan [] plan n = ⊤
AllowsPlan (one ∷ later) [] n = ⊤
AllowsPlan (one ∷ later) (planned ∷ plan) n = AllowsChoices one planned n × AllowsPlan later plan n
