-- Runs: consecutive days with a property. `has d` says whether day d has the property. `history` is the number of consecutive days
-- with the property up to the Sunday before the week.
use Rattle.std.specs.Prelude.{◌+◌, ◌-◌, ◌&&◌, if◌then◌else◌}
use Rattle.rota_rules.specs.Imports.{DAYS, ℕ, zero, suc, Bool, not, nat_le, nat_lt, count_by, sum_by, List, range_with_len, Span}

-- the days 0 (Monday) to 6 (Sunday)
abbrev pub week_days : List ℕ
week_days = range_with_len 0 DAYS

-- the length of the run at the end of the first n days: the number of consecutive days with the property up to the last of them, day
-- n - 1; at the end of no day, that is of the week before, it is `history`
abbrev pub run_length : (ℕ → Bool) → (history days : ℕ) → ℕ
run_length has history zero = history
run_length has history (suc n) = (if has n then run_length has history n + 1 else 0)

-- whether the run at the end of day d, that is of the first d + 1 days, is longer than the maximum
abbrev pub is_over : (ℕ → Bool) → (history maximum day : ℕ) → Bool
is_over has history maximum d = nat_lt maximum (run_length has history (d + 1))

-- the number of days that the run at the end of the first d days is shorter than the minimum, if day d ends it; otherwise 0
abbrev pub missing_on : (ℕ → Bool) → (history minimum day : ℕ) → ℕ
missing_on has history minimum d =
    (if not (has d) && nat_le 1 (run_length has history d) then minimum - run_length has history d else 0)

-- the cost of the runs on a day
abbrev pub day_cost : (ℕ → Bool) → ℕ → Span → ℕ → ℕ
day_cost has history limits d =
    (if is_over has history limits.max d then 1 else 0) + missing_on has history limits.min d

-- the number of days of the week on which the run, up to that day, is longer than the maximum
unfoldable pub run_over : (ℕ → Bool) → ℕ → ℕ → ℕ
run_over has history maximum = count_by (is_over has history maximum) week_days

-- the days below the minimum, in the runs that ended on the Sunday before the week or on Monday to Saturday; a run on this Sunday is open
unfoldable pub run_under : (ℕ → Bool) → ℕ → ℕ → ℕ
run_under has history minimum = sum_by (missing_on has history minimum) week_days

-- the number of days above the maximum plus the number of days below the minimum; a rule multiplies it by its weight
abbrev pub run_cost : (ℕ → Bool) → ℕ → Span → ℕ
run_cost has history limits = run_over has history limits.max + run_under has history limits.min
