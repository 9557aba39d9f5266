-- What holds of a period that was read.
use Rattle.std.specs.Prelude.{◌≡◌, ◌≤◌, Bool, length}
use Rattle.rota_core.specs.Certificates.{AreConditionsFor}
use Rattle.rota_core.specs.Limits.{max_number}
use Rattle.rota_core.specs.ScenarioTables.{numbers_of}
use Rattle.rota_bound_run.specs.PeriodRead.{PeriodTables}
use Rattle.rota_bound_run.specs.WeeksRead.{AreWeeksFrom}

-- the weeks are those of the ward, one after the other, and the given facts are about their plans
pub record FitsWard (early : Bool) (period : PeriodTables) : Type 0 where
  pub weeks : AreWeeksFrom early period.ward 0 period.weeks
  pub given : AreConditionsFor (numbers_of period.ward.scenario) (length period.weeks) period.given.conditions
  pub few : length period.given.conditions ≤ max_number
  pub lines : length period.given.lines ≡ length period.given.conditions
