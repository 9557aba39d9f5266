-- Facts about a plan of weeks, and cases: lists of facts that hold or do not hold.
use Rattle.std.specs.Prelude.{◌≡◌, ℕ, ◌%◌, ◌==◌, Bool, false, nat_le, Option, Some, None, List, [], ◌∷◌, slice_get}
use Rattle.std.specs.List.{AllByRecursion, sum_by}
use Rattle.std.specs.Option.{option_map_or}
use Rattle.rota_core.specs.HardRules.{is_off, is_on, nurses_at, works}
use Rattle.rota_core.specs.Problem.{Problem}
use Rattle.rota_core.specs.Roster.{Roster}
use Rattle.rota_core.specs.SumsBelow.{sum_below}
use Rattle.rota_core.specs.declared.certificate.ChargeKind.{ChargeKind}
use Rattle.rota_core.specs.declared.certificate.ChargeKind.TheVariants.{Assignments, ShiftRuns, Weekends, WorkDays}
use Rattle.rota_core.specs.declared.certificate.ChargeLimit.{ChargeLimit}
use Rattle.rota_core.specs.declared.certificate.Condition.{Condition}
use Rattle.rota_core.specs.declared.certificate.Fact.{Fact}
use Rattle.rota_core.specs.declared.certificate.Fact.TheVariants.{Charges, Choice, EvenShiftRuns, Nurses}
use Rattle.rota_rules.specs.Runs.{run_cost, run_over}
use Rattle.rota_rules.specs.ConsecutiveAssignments.{history_on}
use Rattle.rota_rules.specs.TotalAssignments.{above_max_total}
use Rattle.rota_rules.specs.WorkedWeekends.{above_max_weekends}
use Rattle.rota_certificate.specs.Plans.{Plan, PlannedWeek}

-- the number of the nurse's charges of the kind in a week: the days too many or too few in her runs of a shift type (S2), the days beyond
-- the maximum in her runs of work (S2), the assignments above her maximum total (S6), the weekends above her maximum (S7)
abbrev pub charges_in_week : ChargeKind → Problem → Roster → (nurse : ℕ) → ℕ
charges_in_week ShiftRuns week roster n =
    sum_below week.shifts (λ s. run_cost (is_on week roster n s) (history_on week n s) (week.limits s))
charges_in_week WorkDays week roster n = run_over (works week roster n) (week.past n).work_run (week.contract n).work.max
charges_in_week Assignments week roster n = above_max_total week roster n
charges_in_week Weekends week roster n = above_max_weekends week roster n

-- the number of the nurse's charges of the kind in all weeks
abbrev pub charges_of_nurse : ChargeKind → Plan → (nurse : ℕ) → ℕ
charges_of_nurse kind plan n = sum_by (λ one. charges_in_week kind one.week one.roster n) plan

-- the number of nurses of the plan's first week; all its weeks have the same
abbrev pub nurses_of : Plan → ℕ
nurses_of [] = 0
nurses_of (first ∷ later) = first.week.nurses

-- the number of charges of the kind of all nurses in all weeks
abbrev pub charges_of_all : ChargeKind → Plan → ℕ
charges_of_all kind plan = sum_below (nurses_of plan) (charges_of_nurse kind plan)

-- the number of charges that the limit is about: of its nurse, or of all nurses
abbrev pub charges_counted : ChargeLimit → Plan → ℕ
charges_counted limit plan = option_map_or (charges_of_nurse limit.kind plan) limit.nurse (charges_of_all limit.kind plan)

-- whether the nurse has the choice on the day: a day off, or a shift type with any skill
abbrev pub has_choice : Problem → Roster → (nurse day : ℕ) → Option ℕ → Bool
has_choice week roster n d None = is_off week roster n d
has_choice week roster n d (Some s) = is_on week roster n s d

-- whether the week with this number is in the plan and passes the test
abbrev pub week_passes : Plan → ℕ → (PlannedWeek → Bool) → Bool
week_passes plan w test = option_map_or test (slice_get plan w) false

-- whether the number of charges of shift runs is even
abbrev pub has_even_shift_runs : Plan → Bool
has_even_shift_runs plan = charges_of_all ShiftRuns plan % 2 == 0

-- whether the fact is true of the plan
abbrev pub is_fact : Plan → Fact → Bool
is_fact plan (Choice one) = week_passes plan one.week (λ w. has_choice w.week w.roster one.nurse one.day one.choice)
is_fact plan (Nurses limit) =
    week_passes plan limit.week (λ w. nat_le (nurses_at w.week w.roster limit.day limit.shift limit.skill) limit.most)
is_fact plan (Charges limit) = nat_le (charges_counted limit plan) limit.most
is_fact plan EvenShiftRuns = has_even_shift_runs plan

-- the plan meets the condition: the fact is true of the plan if and only if the condition says that it holds
abbrev pub Meets : Plan → Condition → Type 0
Meets plan condition = is_fact plan condition.fact ≡ condition.holds

-- a case: the conditions that its plans meet
abbrev pub Case : Type 0
Case = List Condition

-- the plan is in the case
abbrev pub IsIn : Plan → Case → Type 0
IsIn plan case = AllByRecursion (Meets plan) case
