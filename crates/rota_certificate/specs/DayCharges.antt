-- The charges and costs of a nurse day by day. Those of a day depend only on her past up to the day before, and on her shift type that day,
-- if any.
use Rattle.std.specs.Prelude.{ℕ, ◌+◌, ◌-◌, ◌*◌, ◌==◌, ◌&&◌, ◌||◌, Bool, not, true, false, min, nat_le, nat_lt, if◌then◌else◌, Option, Some, None, is_some}
use Rattle.std.specs.Option.{option_map_or}
use Rattle.rota_core.specs.SumsBelow.{sum_below}
use Rattle.rota_core.specs.declared.values.Contract.{Contract}
use Rattle.rota_core.specs.declared.values.Span.{Span}
use Rattle.rota_core.specs.declared.values.Past.{Past}
use Rattle.rota_core.specs.Problem.{Problem}
use Rattle.rota_rules.specs.CompleteWeekends.{complete_weekend_weight, exactly_one}
use Rattle.rota_rules.specs.ConsecutiveAssignments.{work_run_weight}
use Rattle.rota_rules.specs.ConsecutiveDaysOff.{off_run_weight}
use Rattle.rota_rules.specs.ShiftOffRequests.{request_weight}
use Rattle.rota_certificate.specs.Minimums.{not_allowed}
use Rattle.rota_certificate.specs.declared.tariffs.Tariff.{Tariff}

-- whether the choice is this shift type; the choice of a day is a shift type, or none for a day off
abbrev pub is_shift : Option ℕ → ℕ → Bool
is_shift choice s = option_map_or (λ shift. shift == s) choice false

-- the length of the run on the shift type at the end of the past
abbrev pub run_on : Past → ℕ → ℕ
run_on past s = (if is_shift past.last s then past.shift_run else 0)

-- 1 if the day extends the run beyond the maximum; or the number of days by which the run is below the minimum, if it ended the day before
abbrev pub run_charge : ℕ → Bool → Span → ℕ
run_charge run has limits =
    (if has then (if nat_lt limits.max (run + 1) then 1 else 0) else (if nat_le 1 run then limits.min - run else 0))

-- the charges of the runs on all shift types
abbrev pub shift_charges : Problem → Past → Option ℕ → ℕ
shift_charges problem past choice =
    sum_below problem.shifts (λ s. run_charge (run_on past s) (is_shift choice s) (problem.limits s))

-- the number of request rows against the choice
abbrev pub requests_against : Problem → (nurse day : ℕ) → Option ℕ → ℕ
requests_against problem n d None = 0
requests_against problem n d (Some s) = problem.requests n d s

-- the cost of the weekend, which is charged on Sunday
abbrev pub weekend_charge : Contract → (day : ℕ) → (saturday sunday : Bool) → ℕ
weekend_charge contract d saturday sunday =
    (if d == 6 && contract.complete && exactly_one saturday sunday then complete_weekend_weight else 0)

-- 1 if the day of work is beyond the maximum in a row
abbrev pub over_charge : (run : ℕ) → (works : Bool) → Span → ℕ
over_charge run works limits = (if works && nat_lt limits.max (run + 1) then 1 else 0)

-- the number of days by which the run of work is below the minimum, if it ended the day before
abbrev pub under_charge : (run : ℕ) → (works : Bool) → Span → ℕ
under_charge run works limits = (if not works && nat_le 1 run then limits.min - run else 0)

-- the charges of the day that no case limits, in points: runs of work below the minimum, runs of days off, requests, incomplete weekends
abbrev pub fixed_charge : Problem → (nurse day : ℕ) → Past → Option ℕ → ℕ
fixed_charge problem n d past choice =
    work_run_weight * under_charge past.work_run (is_some choice) (problem.contract n).work +
    off_run_weight * run_charge past.off_run (not (is_some choice)) (problem.contract n).off +
    request_weight * requests_against problem n d choice +
    weekend_charge (problem.contract n) d (is_some past.last) (is_some choice)

-- 1 on a Sunday after a weekend with work, otherwise 0
abbrev pub weekend_on : ℕ → (saturday sunday : Bool) → ℕ
weekend_on d saturday sunday = (if d == 6 && (saturday || sunday) then 1 else 0)

-- the past after the day
abbrev pub past_after : ℕ → Past → Option ℕ → Past
past_after d past None = record {
  assignments = past.assignments;
  weekends = past.weekends + weekend_on d (is_some past.last) false;
  last = None;
  shift_run = 0;
  work_run = 0;
  off_run = past.off_run + 1;
}
past_after d past (Some s) = record {
  assignments = past.assignments + 1;
  weekends = past.weekends + weekend_on d (is_some past.last) true;
  last = Some s;
  shift_run = run_on past s + 1;
  work_run = past.work_run + 1;
  off_run = 0;
}

-- 1 if the assignment of the day is above the maximum total
abbrev pub assignment_above : Contract → Past → Option ℕ → ℕ
assignment_above contract past choice = (if is_some choice && nat_lt contract.total.max (past.assignments + 1) then 1 else 0)

-- 1 if the weekend that the day completes is above the maximum
abbrev pub weekend_above : Contract → (day : ℕ) → Past → Option ℕ → ℕ
weekend_above contract d past choice =
    (if nat_le contract.weekends past.weekends then weekend_on d (is_some past.last) (is_some choice) else 0)

-- the cost of this number of charges at this weight, but not more than `not_allowed`
abbrev pub weighted : (weight charges : ℕ) → ℕ
weighted weight charges = min not_allowed (weight * charges)

-- the cost of the totals of the day by the tariff
abbrev pub totals_cost : Tariff → Contract → (day : ℕ) → Past → Option ℕ → ℕ
totals_cost tariff contract d past choice =
    weighted tariff.assignments (assignment_above contract past choice) + weighted tariff.weekends (weekend_above contract d past choice)

-- the cost of the day for a nurse with this past, by S2 to S7. `unit` is the value of a point; the totals count only if they are charged
abbrev pub choice_cost : (unit : ℕ) → Tariff → (charged : Bool) → Problem → (nurse day : ℕ) → Past → Option ℕ → ℕ
choice_cost unit tariff charged problem n d past choice =
    weighted tariff.shift_runs (shift_charges problem past choice) +
    weighted tariff.work_days (over_charge past.work_run (is_some choice) (problem.contract n).work) +
    unit * fixed_charge problem n d past choice +
    (if charged then totals_cost tariff (problem.contract n) d past choice else 0)

-- the cost of the history's totals above the maximums, for which the last week pays without `--early`
abbrev pub start_cost : Tariff → Contract → Past → ℕ
start_cost tariff contract past =
    weighted tariff.assignments (past.assignments - contract.total.max) + weighted tariff.weekends (past.weekends - contract.weekends)

-- the number of assignments that are missing at the end, if the week is the last
abbrev pub missing_total : (is_last : Bool) → Contract → Past → ℕ
missing_total is_last contract past = (if is_last then contract.total.min - past.assignments else 0)
