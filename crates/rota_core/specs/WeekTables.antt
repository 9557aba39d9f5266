-- The contents of a history and of a week's file.
use Rattle.std.specs.Prelude.{◌≡◌, ℕ, ◌*◌, ◌≤◌, ◌<◌, List, length}
use Rattle.std.specs.List.{AllByRecursion}
use Rattle.std.specs.Option.{ForSome}
use Rattle.rota_core.specs.Limits.{AreLimited, max_number}
use Rattle.rota_core.specs.Sizes.{DAYS, Numbers}
use Rattle.rota_core.specs.declared.values.Demand.{Demand}
use Rattle.rota_core.specs.declared.values.Past.{Past}

-- The numbers of nurses, shift types and skills, the number (from 0) of the week after the history, and the past of each nurse.
pub record HistoryTables : Type 0 where
  pub numbers : Numbers
  pub week : ℕ
  pub past : List Past

-- The rows of a week. For S shift types and K skills, index (d*S+s)*K+k of `demands` is the demand on day d for s and k, and index
-- (n*DAYS+d)*S+s of `requests` is the number of request rows that ask to keep nurse n off s, or off every shift type, on day d.
pub record WeekTables : Type 0 where
  pub numbers : Numbers
  pub demands : List Demand
  pub requests : List ℕ

-- the numbers are at most `max_number`, and the last shift type, if any, is one of the shift types
pub record IsPast (shifts : ℕ) (past : Past) : Type 0 where
  pub totals : (past.assignments ≤ max_number) × (past.weekends ≤ max_number)
  pub last : ForSome past.last (λ s. s < shifts)
  pub runs : (past.shift_run ≤ max_number) × (past.work_run ≤ max_number) × (past.off_run ≤ max_number)

-- a demand whose numbers are at most `max_number`
abbrev pub IsDemand : Demand → Type 0
IsDemand demand = (demand.minimum ≤ max_number) × (demand.optimal ≤ max_number)

-- The numbers, the week's number and each past are within their limits, and there is one past for each nurse.
pub record IsHistory (t : HistoryTables) : Type 0 where
  pub numbers : AreLimited t.numbers
  pub week : t.week ≤ max_number
  pub past : (length t.past ≡ t.numbers.nurses) × AllByRecursion (IsPast t.numbers.shifts) t.past

-- The numbers are within their limits, and there is one demand and one number of requests for each index.
pub record IsWeek (t : WeekTables) : Type 0 where
  pub numbers : AreLimited t.numbers
  pub demands : (length t.demands ≡ DAYS * t.numbers.shifts * t.numbers.skills) × AllByRecursion IsDemand t.demands
  pub requests : (length t.requests ≡ t.numbers.nurses * DAYS * t.numbers.shifts) × AllByRecursion (λ n. n ≤ max_number) t.requests
