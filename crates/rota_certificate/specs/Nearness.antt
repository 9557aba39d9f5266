-- The pasts that the days of a period can lead to.
use Rattle.std.specs.Prelude.{ℕ, ◌+◌, ◌*◌, ◌≤◌, ◌<◌}
use Rattle.std.specs.Option.{ForSome}
use Rattle.rota_core.specs.Limits.{max_number, max_weeks}
use Rattle.rota_core.specs.Sizes.{DAYS}
use Rattle.rota_core.specs.declared.values.Past.{Past}

-- the number of days of the longest period
abbrev pub most_days : ℕ
most_days = DAYS * max_weeks

-- no number exceeds `max_number` by more than the number of days of the period before the day, and the last shift type, if any, exists
pub record IsNear (shifts day : ℕ) (past : Past) : Type 0 where
  pub assignments : past.assignments ≤ max_number + day
  pub weekends : past.weekends ≤ max_number + day
  pub last : ForSome past.last (λ s. s < shifts)
  pub shift_run : past.shift_run ≤ max_number + day
  pub work_run : past.work_run ≤ max_number + day
  pub off_run : past.off_run ≤ max_number + day
