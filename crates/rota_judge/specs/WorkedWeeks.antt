-- Weeks of one nurse with one skill, with their constraints and objectives written out.
use Rattle.std.specs.Prelude.{◌≡◌, ℕ, ◌+◌, ℤ, pos, negsuc, true, false, ◌&&◌, ◌==◌, Some, if◌then◌else◌, List, [], ◌∷◌, ◌++◌, map}
use Rattle.std.specs.Prelude.{drop, take}
use Rattle.std.specs.List.{range_with_len}
use Rattle.rota_core.specs.declared.values.Contract.{Contract}
use Rattle.rota_core.specs.declared.values.Demand.{Demand}
use Rattle.rota_core.specs.Problem.{Problem}
use Rattle.rota_core.specs.Defaults.{no_demand, no_past}
use Rattle.rota_rules.specs.WorkedWeeks.{limits_of, plain_week, wide, with_contract, worked_days, working_week}
use Rattle.rota_items.specs.Linear.{Term, Constraint}
use Rattle.rota_items.specs.WeekModel.{model_of}

-- ---- weeks

abbrev on_monday : (minimum optimal day shift skill : ℕ) → Demand
on_monday minimum optimal d s k =
    (if d == 0 then record { minimum = minimum; optimal = optimal } else no_demand)

abbrev pub demanding_week : ℕ → ℕ → Problem
demanding_week minimum optimal = record plain_week { demand = on_monday minimum optimal }

-- the nurse does not have the skill
abbrev pub unskilled_week : Problem
unskilled_week = record (demanding_week 1 1) { has_skill = λ n k. false }

-- early after night is forbidden, and the last shift was a night
abbrev pub nights_week : Problem
nights_week = record plain_week {
  numbers = record plain_week.numbers { shifts = 2 };
  is_forbidden = λ s t. s == 1 && t == 0;
  past = λ n. record no_past { assignments = 1; last = Some 1; shift_run = 1; work_run = 1 };
}

-- two rows ask for a Monday without early, and one for a Monday off
abbrev pub requests_week : Problem
requests_week = record plain_week {
  numbers = record plain_week.numbers { shifts = 2 };
  requests = λ n d s. if d == 0 then (if s == 0 then 3 else 1) else 0;
}

abbrev totals : Contract
totals = record wide { total = limits_of 10 15; weekends = 2 }

-- a last week after these numbers of assignments, and of weekends with work
abbrev pub last_week : ℕ → ℕ → Problem
last_week assignments weekends = record (with_contract totals) {
  is_last = true;
  past = λ n. record no_past { assignments = assignments; weekends = weekends };
}

-- Wednesday is held; in the other week, both shift types on Monday are held
abbrev pub held_wednesday_week : Problem
held_wednesday_week = record plain_week { is_held = λ one. one.day == 2 }

abbrev pub held_monday_week : Problem
held_monday_week = record requests_week { is_held = λ one. one.day == 0 }

abbrev pub weekends_week : Problem
weekends_week = with_contract (record wide { complete = true })

abbrev pub days_off_week : Problem
days_off_week = with_contract (record wide { off = limits_of 2 9 })

-- ---- words for rows

abbrev plus : ℕ → Term ℕ
plus v = (pos 1, v)

abbrev minus : ℕ → Term ℕ
minus v = (negsuc 0, v)

abbrev each : ℤ → List ℕ → List (Term ℕ)
each coefficient variables = map (λ v. (coefficient, v)) variables

abbrev row : List (Term ℕ) → ℤ → Constraint
row terms degree = record { terms = terms; degree = degree }

-- the constraints after the row of the unit variable and the seven rows of H1
abbrev after_days : Problem → List Constraint
after_days problem = drop 8 (model_of problem).constraints

-- ---- constraints

abbrev pub DemandNobodyCanMeet : Type 0
DemandNobodyCanMeet =
    after_days unskilled_week ≡
    row (plus 1 ∷ []) (pos 1) ∷ row (each (negsuc 0) (range_with_len 1 7)) (pos 0) ∷ []

abbrev pub SuccessionAfterTheHistory : Type 0
SuccessionAfterTheHistory =
    after_days nights_week ≡
    row (minus 1 ∷ []) (pos 0) ∷
    map (λ v. row (minus v ∷ minus (v + 1) ∷ []) (negsuc 0)) (2 ∷ 4 ∷ 6 ∷ 8 ∷ 10 ∷ 12 ∷ [])

abbrev pub FewerThanTheOptimum : Type 0
FewerThanTheOptimum =
    after_days (demanding_week 1 3) ≡
    row (plus 1 ∷ []) (pos 1) ∷ row (plus 1 ∷ plus 9 ∷ plus 10 ∷ []) (pos 3) ∷ []

abbrev pub DaysOff : Type 0
DaysOff =
    take 2 (after_days days_off_week) ≡
    row (plus 1 ∷ minus 2 ∷ plus 9 ∷ []) (pos 0) ∷ row (minus 1 ∷ plus 2 ∷ minus 3 ∷ plus 10 ∷ []) (negsuc 0) ∷ []

-- seven windows: the first has only Monday, the last has Tuesday to Sunday
abbrev pub RunFarAboveTheMaximum : Type 0
RunFarAboveTheMaximum =
    let rows = after_days (working_week (limits_of 1 5) (worked_days 9)) in
    (take 1 rows ≡ row (minus 1 ∷ plus 9 ∷ []) (pos 0) ∷ []) ×
    (drop 6 rows ≡ row (each (negsuc 0) (range_with_len 2 6) ++ (plus 15 ∷ [])) (negsuc 4) ∷ [])

abbrev pub CompleteWeekends : Type 0
CompleteWeekends =
    after_days weekends_week ≡
    row (minus 6 ∷ plus 7 ∷ plus 9 ∷ []) (pos 0) ∷ row (plus 6 ∷ minus 7 ∷ plus 10 ∷ []) (pos 0) ∷ []

-- the held cells come last, in ascending order of the variables, and may break H1
abbrev pub HeldCells : Type 0
HeldCells =
    (after_days held_wednesday_week ≡ row (plus 3 ∷ []) (pos 1) ∷ []) ×
    (after_days held_monday_week ≡ row (plus 1 ∷ []) (pos 1) ∷ row (plus 2 ∷ []) (pos 1) ∷ [])

-- ---- objectives

abbrev pub RequestsOnOneCell : Type 0
RequestsOnOneCell = (model_of requests_week).objective ≡ (pos 30, 1) ∷ (pos 10, 2) ∷ []

abbrev pub TotalsAboveInTheLastWeek : Type 0
TotalsAboveInTheLastWeek =
    (model_of (last_week 20 3)).objective ≡
    (pos 130, 8) ∷ each (pos 20) (range_with_len 9 7) ++ each (pos 30) (range_with_len 16 2)

-- ---- the same, if each week pays for the excess that it adds

abbrev pub charged_early : Problem → Problem
charged_early problem = record problem { is_early = true }

abbrev pub before_the_last : Problem → Problem
before_the_last problem = record problem { is_last = false }

-- three assignments are left before the last week
abbrev pub TotalReachedEarly : Type 0
TotalReachedEarly =
    let problem = before_the_last (charged_early (last_week 12 0)) in
    (after_days problem ≡ row (each (negsuc 0) (range_with_len 1 7) ++ each (pos 1) (range_with_len 9 4)) (negsuc 2) ∷ []) ×
    ((model_of problem).objective ≡ each (pos 20) (range_with_len 9 4))
