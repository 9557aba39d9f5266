-- A week of a leaf in the search for a nurse's minimum.
use Rattle.std.specs.Prelude.{◌≡◌, ℕ, ◌+◌, ◌*◌, ◌≤◌, ◌<◌, Bool, false, Option, List, ◌∷◌, length, drop}
use Rattle.std.specs.List.{AllByRecursion}
use Rattle.rota_core.specs.InstanceTables.{InstanceTables, problem_of}
use Rattle.rota_core.specs.Limits.{max_weeks}
use Rattle.rota_core.specs.PriceTables.{PriceTables, prices_of}
use Rattle.rota_core.specs.Sizes.{DAYS}
use Rattle.rota_core.specs.declared.values.Contract.{Contract}
use Rattle.rota_core.specs.declared.values.Past.{Past}
use Rattle.rota_certificate.specs.DayCharges.{choice_cost}
use Rattle.rota_certificate.specs.LeafBounds.{may_choose}
use Rattle.rota_certificate.specs.LentLeaves.{Fits, LentTables, weeks_of}
use Rattle.rota_certificate.specs.NurseBounds.{LeafWeek, Terms, least_days, rest_after}
use Rattle.rota_certificate.specs.declared.tariffs.Tariff.{Tariff}

-- a week of a leaf with its prices and its number, the value of a point, the nurse with her contract and tariff, and whether totals are charged
pub record StageTables : Type 0 where
  pub instance : InstanceTables
  pub prices : PriceTables
  pub leaf : LentTables
  pub week : ℕ
  pub unit : ℕ
  pub nurse : ℕ
  pub contract : Contract
  pub tariff : Tariff
  pub charged : Bool

-- the week of the stage, with its prices and the choices that the case allows in it
abbrev pub week_of : StageTables → LeafWeek
week_of stage = record {
  week = problem_of stage.instance;
  prices = prices_of stage.prices;
  may_choose = may_choose stage.leaf.case stage.week;
}

-- all weeks
abbrev pub all_of : StageTables → List LeafWeek
all_of stage = weeks_of stage.leaf

-- the weeks after the stage's
abbrev pub later_of : StageTables → List LeafWeek
later_of stage = drop (stage.week + 1) (all_of stage)

-- the terms of the nurse
abbrev pub terms_of : StageTables → Terms
terms_of stage = record { unit = stage.unit; tariff = stage.tariff; charged = stage.charged }

-- the cost of the day for the nurse
abbrev pub choice_cost_in : StageTables → (day : ℕ) → Past → Option ℕ → ℕ
choice_cost_in stage d past choice = choice_cost stage.unit stage.tariff stage.charged (week_of stage).week stage.nurse d past choice

-- the minimum cost after the stage's week
abbrev pub least_after : StageTables → Past → ℕ
least_after stage past = rest_after (terms_of stage) (week_of stage).week (later_of stage) stage.nurse past

-- the minimum cost of the last days of the stage's week, and of the time after it
abbrev pub least_in : StageTables → (days_left : ℕ) → Past → ℕ
least_in stage days_left past = least_days (terms_of stage) (week_of stage) stage.nurse (least_after stage) days_left past

-- the week is not the last of the scenario, so nothing is missing at its end
abbrev pub IsFreeOfTotals : LeafWeek → Type 0
IsFreeOfTotals one = one.week.is_last ≡ false

-- the stage's week has the stage's number, all weeks fit it, and if totals are not charged, neither it nor a later week is the last
pub record IsStage (stage : StageTables) : Type 0 where
  pub nurse : stage.nurse < (week_of stage).week.nurses
  pub contract : stage.contract ≡ (week_of stage).week.contract stage.nurse
  pub at : drop stage.week (all_of stage) ≡ (week_of stage ∷ later_of stage)
  pub inside : stage.week < length stage.leaf.weeks
  pub count : length stage.leaf.weeks ≤ max_weeks
  pub fit : AllByRecursion (Fits (week_of stage).week) stage.leaf.weeks
  pub free : stage.charged ≡ false → AllByRecursion IsFreeOfTotals (week_of stage ∷ later_of stage)

-- the number of days of the period before a day of the stage's week
abbrev pub days_before : StageTables → (day : ℕ) → ℕ
days_before stage d = DAYS * stage.week + d
